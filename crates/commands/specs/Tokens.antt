-- What a token is taken for.
use Rattle.std.specs.Prelude.{ℕ, List, Ok, Err, ok_or, Option, Result}
use Rattle.reader.specs.Words.{Tok, word, number, end}
use Rattle.reader.specs.declared.fault.TextFault.{TextFault}
use Rattle.reader.specs.declared.fault.TextFault.TheVariants.{Word}

-- what a token is, where a number, a word of a list, or the end is wanted
abbrev pub as_number : Tok → Result ℕ TextFault
as_number (word w at) = Err (Word at)
as_number (number w n at) = Ok n
as_number (end w at) = Err (Word at)

abbrev pub as_word : {A : Type 0} → (of : List ℕ → Option A) → Tok → Result A TextFault
as_word of (word w at) = ok_or (of w) (Word at)
as_word of (number w n at) = Err (Word at)
as_word of (end w at) = Err (Word at)

abbrev pub as_end : Tok → Result (Unit {0}) TextFault
as_end (word w at) = Err (Word at)
as_end (number w n at) = Err (Word at)
as_end (end w at) = Ok tt

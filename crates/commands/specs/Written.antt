-- The written form of a command: what a person writes, its words with single spaces between them.
use Rattle.std.specs.Prelude.{◌≡◌, ℕ, ◌^◌, ◌<◌, ◌≤◌, ◌⊎◌, List, [], ◌∷◌, length, decimal}
use Rattle.orders.specs.Codes.{side_code}
use Rattle.orders.specs.declared.entry.Entry.{Entry}
use Rattle.orders.specs.declared.side.Side.{Side}
use Rattle.orders.specs.declared.call.Call.{Call}
use Rattle.orders.specs.declared.call.Call.TheVariants.{Enter, Amend, Cancel, Quote, Withdraw, Halt, Resume, Close}
use Rattle.reader.specs.Faults.{longest_line}
use Rattle.reader.specs.Words.{spaced}
use Rattle.verbs.specs.declared.verb.Verb.{Verb}
use Rattle.verbs.specs.declared.verb.Verb.TheVariants as verb
use Rattle.commands.specs.declared.command.Command.{Command}
use Rattle.commands.specs.declared.command.Command.TheVariants.{Open, Make, Ask}
use Rattle.verbs.specs.Vocabulary.{verb_word, venue_word}
use Rattle.orders.specs.Sides.{side_word}

abbrev pub verb_of_call : Call → Verb
verb_of_call (Enter e) = verb.Enter
verb_of_call (Amend a) = verb.Amend
verb_of_call (Cancel n) = verb.Cancel
verb_of_call (Quote b o) = verb.Quote
verb_of_call Withdraw = verb.NoQuote
verb_of_call Halt = verb.Halt
verb_of_call Resume = verb.Resume
verb_of_call Close = verb.Close

abbrev pub verb_in : Command → Verb
verb_in (Open v last places) = verb.Open
verb_in (Make c) = verb_of_call c
verb_in (Ask n) = verb.Ask

-- a number that can be written
abbrev pub Fit : ℕ → Type 0
Fit n = n < 2 ^ 32

abbrev pub EntryFits : Entry → Type 0
EntryFits e = Fit e.kind × Fit e.shares × Fit e.limit × Fit e.minimum × Fit e.broker × Fit e.mark × Fit e.hidden

-- the words of an entry up to its broker, and then more
abbrev pub entry_words : Side → Entry → List (List ℕ) → List (List ℕ)
entry_words s e more = side_word s ∷ decimal e.kind ∷ decimal e.shares ∷ decimal e.limit ∷ decimal e.minimum ∷ decimal e.broker ∷ more

-- the words that follow the verb of an entry: its mark and hidden mark are both written, or both 0 and not written
pub record EntryWritten (e : Entry) (words : List (List ℕ)) : Type 0 where
  pub side : Side
  pub coded : e.side ≡ side_code side
  pub fits : EntryFits e
  pub words_are : (words ≡ entry_words side e (decimal e.mark ∷ decimal e.hidden ∷ [])) ⊎ ((words ≡ entry_words side e []) × (e.mark ≡ 0) × (e.hidden ≡ 0))

-- the words that follow the verb of a call
abbrev pub CallTail : Call → List (List ℕ) → Type 0
CallTail (Enter e) words = EntryWritten e words
CallTail (Amend a) words = (words ≡ decimal a.number ∷ decimal a.shares ∷ decimal a.limit ∷ []) × Fit a.number × Fit a.shares × Fit a.limit
CallTail (Cancel n) words = (words ≡ decimal n ∷ []) × Fit n
CallTail (Quote b o) words = (words ≡ decimal b ∷ decimal o ∷ []) × Fit b × Fit o
CallTail Withdraw words = words ≡ []
CallTail Halt words = words ≡ []
CallTail Resume words = words ≡ []
CallTail Close words = words ≡ []

-- the words that follow the verb of a command
abbrev pub Tail : Command → List (List ℕ) → Type 0
Tail (Open v last places) words = (words ≡ venue_word v ∷ decimal last ∷ decimal places ∷ []) × Fit last × Fit places
Tail (Make c) words = CallTail c words
Tail (Ask n) words = (words ≡ decimal n ∷ []) × Fit n

-- the line is a written form of the command
pub record Written (c : Command) (line : List ℕ) : Type 0 where
  pub short : length line ≤ longest_line
  pub tail : List (List ℕ)
  pub follows : Tail c tail
  pub is : line ≡ spaced (verb_word (verb_in c) ∷ tail)

-- The command that a line writes, or its fault: words are judged from left to right.
use Rattle.std.specs.Prelude.{ℕ, cond, List, length, Ok, Err, Result, nat_lt}
use Rattle.orders.specs.Codes.{side_code}
use Rattle.orders.specs.declared.call.Call.TheVariants as call
use Rattle.reader.specs.Faults.{longest_line}
use Rattle.reader.specs.Words.{Tok, word, number, end, Rest, token, onward, whole}
use Rattle.reader.specs.declared.fault.TextFault.{TextFault}
use Rattle.reader.specs.declared.fault.TextFault.TheVariants.{LongLine, Word}
use Rattle.verbs.specs.declared.verb.Verb.{Verb}
use Rattle.verbs.specs.declared.verb.Verb.TheVariants.{Open, Enter, Amend, Cancel, Quote, NoQuote, Halt, Resume, Close, Ask}
use Rattle.commands.specs.declared.command.Command.{Command}
use Rattle.commands.specs.declared.command.Command.TheVariants as command
use Rattle.verbs.specs.Vocabulary.{verb_of, venue_of, side_of}
use Rattle.commands.specs.Tokens.{as_number, as_word, as_end}

abbrev pub Parsed : Type 0
Parsed = Result Command TextFault

-- the first fault, or what follows
abbrev pub bind : {A B : Type 0} → Result A TextFault → (A → Result B TextFault) → Result B TextFault
bind (Ok x) f = f x
bind (Err e) f = Err e

-- a number stands next, and what follows it
abbrev pub number_then : {B : Type 0} → Rest → (ℕ → Rest → Result B TextFault) → Result B TextFault
number_then r f = bind (as_number (token r)) (λ n. f n (onward r))

-- nothing stands next
abbrev pub end_then : {B : Type 0} → Rest → B → Result B TextFault
end_then r b = bind (as_end (token r)) (λ _. Ok b)

abbrev pub open_by : Rest → Parsed
open_by r = bind (as_word venue_of (token r)) (λ v. number_then (onward r) (λ last r. number_then r (λ places r. end_then r (command.Open v last places))))

-- the mark and the hidden mark, which may be absent together: then they are 0
abbrev pub marks_in : Tok → Rest → Result (ℕ × ℕ) TextFault
marks_in (word w at) r = Err (Word at)
marks_in (number w n at) r = number_then r (λ hidden r. end_then r (n, hidden))
marks_in (end w at) r = Ok (0, 0)

abbrev pub marks_by : Rest → Result (ℕ × ℕ) TextFault
marks_by r = marks_in (token r) (onward r)

abbrev pub enter_by : Rest → Parsed
enter_by r =
    bind (as_word side_of (token r)) (λ side.
    number_then (onward r) (λ kind r. number_then r (λ shares r. number_then r (λ limit r. number_then r (λ minimum r. number_then r (λ broker r.
    bind (marks_by r) (λ m.
    Ok (command.Make (call.Enter (record { side = side_code side; kind = kind; shares = shares; limit = limit; minimum = minimum; broker = broker; mark = m.0; hidden = m.1 }))))))))))

abbrev pub amend_by : Rest → Parsed
amend_by r = number_then r (λ n r. number_then r (λ shares r. number_then r (λ limit r. end_then r (command.Make (call.Amend (record { number = n; shares = shares; limit = limit }))))))

abbrev pub cancel_by : Rest → Parsed
cancel_by r = number_then r (λ n r. end_then r (command.Make (call.Cancel n)))

abbrev pub quote_by : Rest → Parsed
quote_by r = number_then r (λ bid r. number_then r (λ offer r. end_then r (command.Make (call.Quote bid offer))))

abbrev pub ask_by : Rest → Parsed
ask_by r = number_then r (λ n r. end_then r (command.Ask n))

-- what follows a verb
abbrev pub command_by : Verb → Rest → Parsed
command_by Open r = open_by r
command_by Enter r = enter_by r
command_by Amend r = amend_by r
command_by Cancel r = cancel_by r
command_by Quote r = quote_by r
command_by NoQuote r = end_then r (command.Make call.Withdraw)
command_by Halt r = end_then r (command.Make call.Halt)
command_by Resume r = end_then r (command.Make call.Resume)
command_by Close r = end_then r (command.Make call.Close)
command_by Ask r = ask_by r

abbrev pub first_command : Rest → Parsed
first_command r = bind (as_word verb_of (token r)) (λ v. command_by v (onward r))

-- a line that is too long is not looked at
unfoldable pub command_of : List ℕ → Parsed
command_of line = cond (nat_lt longest_line (length line)) (Err LongLine) (first_command (whole line))

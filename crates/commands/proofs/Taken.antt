-- A line is taken as a command just when it is a written form of it.
use Rattle.std.proofs.Common.{◌≡◌, ℕ, ◌≤◌, true, false, nat_lt, List, ◌∷◌, length, Ok, Err, sym, ap, ◌∙◌, subst, ⊎_elim, arith, tests}
use Rattle.std.proofs.lemmas.Bool.{cond-false, cases_Bool}
use Rattle.reader.specs.declared.fault.TextFault.TheVariants.{LongLine}
use Rattle.reader.specs.Faults.{longest_line}
use Rattle.reader.specs.Words.{onward, whole, texts, spaced, words_of}
use Rattle.reader.proofs.Spacing.{line_is, words_of_lem}
use Rattle.verbs.specs.Vocabulary.{verb_word}
use Rattle.commands.specs.declared.command.Command.{Command}
use Rattle.commands.specs.Commands.{Parsed, command_by, first_command, command_of}
use Rattle.commands.specs.Written.{verb_in, Tail, Written}
use Rattle.commands.proofs.Next.{word_then_ok, word_then_is}
use Rattle.commands.proofs.Tables.{verbs}
use Rattle.commands.proofs.Tails.{command_from, command_to, tail_solid}

from_line : (line : List ℕ) (c : Command) → length line ≤ longest_line → first_command (whole line) ≡ Ok c → Written c line
from_line line c h e =
    let r = whole line in
    let r1 = onward r in
    let w = word_then_ok verbs r (λ v. command_by v r1) c e in
    let q = command_from w.0 r1 c w.2 in
    record { short = h; tail = texts r1.todo; follows = q.1; is = sym (line_is line) ∙ ap spaced (w.1 ∙ ap (λ v. verb_word v ∷ texts r1.todo) q.0) }

to_line : (line : List ℕ) (c : Command) → Written c line → first_command (whole line) ≡ Ok c
to_line line c w =
    let r = whole line in
    let r1 = onward r in
    let v = verb_in c in
    let n = verbs.names v in
    let words : texts r.todo ≡ verb_word v ∷ w.tail = ap (λ l. texts (words_of l)) w.is ∙ words_of_lem (verb_word v) w.tail n.some n.solid (tail_solid c w.tail w.follows) in
    let x = word_then_is verbs r (λ v. command_by v r1) v w.tail words in
    x.0 ∙ command_to c r1 (subst (Tail c) (sym x.1) w.follows)

-- of any result that is what the line gives: a line that is too long gives a fault, and is no written form
pub taken : (r : Parsed) (line : List ℕ) → r ≡ command_of line → (c : Command) → (r ≡ Ok c → Written c line) × (Written c line → r ≡ Ok c)
unfolding command_of
taken r line is c =
    let long = nat_lt longest_line (length line) in
    let first = first_command (whole line) in (
      λ e. ⊎_elim
          (λ (t : long ≡ true). cc)
          (λ (f : long ≡ false). from_line line c (grind (arith, tests)) (sym (cond-false long (Err LongLine) first f) ∙ sym is ∙ e))
          (cases_Bool long),
      λ w. is ∙ cond-false long (Err LongLine) first (grind (arith, tests)) ∙ to_line line c w,
    )

-- where a line is not too long, its words give that
pub taken_within : (line : List ℕ) (r : Parsed) → length line ≤ longest_line → r ≡ first_command (whole line) → (c : Command) → (r ≡ Ok c → Written c line) × (Written c line → r ≡ Ok c)
taken_within line r short is c = (λ e. from_line line c short (sym is ∙ e), λ w. is ∙ to_line line c w)

use Rattle.std.proofs.Common.{nat_lt, length, Err, sym, ap, ◌∙◌, arith, tests}
use Rattle.std.proofs.lemmas.Bool.{cond-true, cond-false}
use Rattle.reader.specs.Faults.{longest_line}
use Rattle.reader.specs.Words.{whole}
use Rattle.reader.specs.declared.fault.TextFault.TheVariants.{LongLine}
use Rattle.commands.specs.Commands.{first_command, command_of}
use Rattle.commands.proofs.Taken.{taken}
use Rattle.commands.proofs.command.Command.parse.Goals as goal

pub returns-then-is_too_long-clause-taken : goal.returns-then-is_too_long-clause-taken
unfolding command_of
returns-then-is_too_long-clause-taken c =
    let line = c.args.line.now in
    taken _ line (sym (cond-true (nat_lt longest_line (length line)) (Err LongLine) (first_command (whole line)) (grind (arith, tests))))

pub returns-clause-taken : goal.returns-clause-taken
unfolding command_of
returns-clause-taken c =
    let line = c.args.line.now in
    let read = cond-false (nat_lt longest_line (length line)) (Err LongLine) (first_command (whole line)) (grind (arith, tests)) in
    taken _ line (c.first_command.ensures ∙ ap first_command c.new.ensures ∙ sym read)

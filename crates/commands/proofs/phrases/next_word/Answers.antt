use Rattle.std.proofs.Common.{ok_or, refl, ap, ◌∙◌}
use Rattle.reader.specs.declared.fault.TextFault.TheVariants.{Word}
use Rattle.commands.specs.Tokens.{as_word}
use Rattle.commands.proofs.phrases.next_word.Goals as goal

pub returns-in-Word-clause-value : goal.returns-in-Word-clause-value
returns-in-Word-clause-value g c =
    λ of says. c.ok_or.ensures.value ∙ ap (λ o. ok_or o (Word c.in-Word.at)) (says c.in-Word.word.now c.named.result (c.in-Word.word, c.named.ensures, refl)) ∙ ap (as_word of) c.in-Word.ensures.first

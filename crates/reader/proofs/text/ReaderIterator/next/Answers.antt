use Rattle.std.proofs.Common.{◌≡◌, ◌∷◌, length, ap, ◌∙◌, sym, refl, arith, tests}
use Rattle.reader.specs.Lines.{lines}
use Rattle.reader.proofs.Steps.{lines_first}
use Rattle.reader.proofs.text.ReaderIterator.next.Goals as goal

pub returns : goal.returns
returns c =
    let line = c.part.result.0.now in
    let steps : c.args.self.now ≡ line ∷ lines c.unwrap_or-self-inside.result.now =
    sym c.self.view_is ∙ lines_first _ _ _ _ refl (grind (arith, tests)) c.part.ensures.front c.part.ensures.whole ∙ ap (λ r. line ∷ lines r.now) (sym c.unwrap_or-self-inside.ensures) in
    record { steps = steps; goes = record { on = λ _. (tt, tt, omega (arith, ap length steps)); keeps = tt; rests = λ _. tt } }

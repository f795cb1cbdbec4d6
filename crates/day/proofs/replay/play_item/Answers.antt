use Rattle.std.proofs.Common.{◌≡◌, ◌++◌, length, take, drop, refl, ap, ◌∙◌, subst}
use Rattle.book.specs.Calls.{After, count_in}
use Rattle.day.specs.Steps.{Step}
use Rattle.day.specs.Plays.{Stand, stand_of, answer_at, step_at}
use Rattle.day.proofs.Fronts.{asked, laid, made}
use Rattle.day.proofs.replay.play_item.Goals as goal

pub returns : goal.returns
returns g c =
    let i = c.args.item.now in
    let x : Stand g.row.R.Denot = stand_of g.P.Priority g.T.Terms c.args.book.now c.args.places.now c.args.fills.now c.args.recorder.now in
    let k = c.min-handed.result in
    let n = c.min-entries.result in
    let e = c.answer-reply.ensures in
    let part = c.answer-reply.new.fills in
    let r = c.answer-reply.result in
    let same = asked x.rules x.state x.rows x.fills i k n c.min-handed.ensures c.min-entries.ensures in
    let rows : c.answer-reply.new.places ++ drop k x.rows ≡ (step_at x i).rows = rw (e.places, same, c.min-handed.ensures) refl in
    let front : take (count_in r) (part ++ drop n x.fills) ≡ (answer_at x i).fills = made x.rules x.state x.rows x.fills i k n part e.fills c.answer-reply.auto.fills r e.reply ∙ ap (λ (a : After). a.fills) same in
    let step : ◌≡◌ {A = Step} (record { item = i; reply = r; fills = take (count_in r) (part ++ drop n x.fills); rows = c.answer-reply.new.places ++ drop k x.rows }) (step_at x i) =
    rw (front, rows, e.reply, same) refl in
    record {
      rules = cc (e.rules.0, e.rules.1);
      state = e.state ∙ ap (λ (a : After). a.state) same;
      rows = rows;
      fills = laid x.rules x.state x.rows x.fills i k n part e.fills c.answer-reply.auto.fills ∙ ap (λ (a : After). a.fills ++ drop (length a.fills) x.fills) same;
      noted = subst (λ (s : Step). g.R.Recorder.notes x.recorder s c.tell.new.recorder) step c.tell.ensures;
    }

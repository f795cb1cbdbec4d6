use Rattle.std.proofs.Common.{◌≡◌, true, length, replicate, sym, refl, ◌∙◌}
use Rattle.std.proofs.lemmas.Bool.{cond-true}
use Rattle.orders.specs.Rows.{cleared}
use Rattle.book.specs.Causes.{openable}
use Rattle.book.specs.States.{Rules}
use Rattle.day.specs.Plays.{stand_of}
use Rattle.day.specs.Replays.{Lent}
use Rattle.day.proofs.Replaying.{played}
use Rattle.day.proofs.replay.replay.Goals as goal

pub returns : goal.returns
returns g c =
    let last = c.args.last in
    let b = c.in_ok-book.book in
    let e = c.in_ok-book.ensures in
    let u : Rules = record { deals = g.T.Terms.deals c.args.terms; verdict = g.T.Terms.verdict c.args.terms; before = g.P.Priority.before c.args.priority } in
    let was : Lent g.row.R.Denot = record { rows = c.args.places.now; fills = c.args.fills.now; recorder = c.args.recorder.now } in
    let start = stand_of g.P.Priority g.T.Terms b c.open.new.places was.fills was.recorder in
    let end = stand_of g.P.Priority g.T.Terms c.play_items.new.book c.play_items.new.places c.play_items.new.fills c.play_items.new.recorder in
    let opens : openable last (length was.rows) ≡ true = sym e.test in
    let rows : c.open.new.places ≡ replicate (length was.rows) cleared = e.places ∙ cond-true (openable last (length was.rows)) (replicate (length was.rows) cleared) was.rows opens in
    played g.R.Recorder.notes u
    (record {
      irreflexive = g.met.P.Priority.irreflexive c.args.priority;
      transitive = g.met.P.Priority.transitive c.args.priority;
      one_first = g.met.P.Priority.one_first c.args.priority;
    })
    (g.met.T.Terms.in_range c.args.terms)
    last c.args.items.now was opens start end (rw (e.book.0, e.book.1, e.book.2, rows) refl) c.play_items.ensures

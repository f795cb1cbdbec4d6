use Rattle.std.proofs.Common.{◌+◌}
use Rattle.session.proofs.Handing.{lines_more, lines_all}
use Rattle.session.proofs.text.list_lines.Goals as goal

pub loop-i-preserved : goal.loop-i-preserved
loop-i-preserved g c =
    let steps = c.in-Some.ensures.steps in
    let e = c.list_line.ensures in
    rw (steps.2, ← steps.1)
    (lines_more g.S.Sink.writes _ c.args.sink.now c.loop-i.sink c.list_line.new.sink (c.in-Some.i + 1) c.loop-i.i-iterator.iter c.next.new.self.iter c.in-Some.line.now _ _
    (rw (← steps.1) at c.loop-i.invariant) steps.0 e.desk e.handed)

pub returns : goal.returns
returns g c = lines_all g.S.Sink.writes _ c.args.sink.now c.loop-i.sink _ c.loop-i.i-iterator.iter _ c.loop-i.invariant c.in-None.ensures.steps.0.0

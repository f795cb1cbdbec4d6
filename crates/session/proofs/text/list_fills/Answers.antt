use Rattle.session.proofs.Handing.{fills_more}
use Rattle.session.proofs.text.list_fills.Goals as goal

pub loop-fill-preserved : goal.loop-fill-preserved
loop-fill-preserved g c = fills_more g.S.Sink.writes c.args.number c.args.fills.now c.loop-fill.fill-index _ _ _ _ c.loop-fill-test.true c.loop-fill.invariant c.write_line.ensures

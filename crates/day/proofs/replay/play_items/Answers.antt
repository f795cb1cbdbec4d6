use Rattle.day.specs.Plays.{stand_of}
use Rattle.day.proofs.Playing.{going_more, gone}
use Rattle.day.proofs.replay.play_items.Goals as goal

pub loop-item-preserved : goal.loop-item-preserved
loop-item-preserved g c =
    let w = c.loop-item in
    let v = c.play_item.new in
    let start = stand_of g.P.Priority g.T.Terms c.args.book.now c.args.places.now c.args.fills.now c.args.recorder.now in
    let x = stand_of g.P.Priority g.T.Terms w.book w.places w.fills w.recorder in
    let y = stand_of g.P.Priority g.T.Terms v.book v.places v.fills v.recorder in
    going_more g.R.Recorder.notes c.args.items.now start x y w.item-index _ w.invariant c.loop-item-test.true c.play_item.ensures c.play_item.auto.fills

pub returns : goal.returns
returns g c =
    let w = c.loop-item in
    let start = stand_of g.P.Priority g.T.Terms c.args.book.now c.args.places.now c.args.fills.now c.args.recorder.now in
    let x = stand_of g.P.Priority g.T.Terms w.book w.places w.fills w.recorder in
    gone g.R.Recorder.notes c.args.items.now start x w.item-index w.invariant c.loop-item-test.false

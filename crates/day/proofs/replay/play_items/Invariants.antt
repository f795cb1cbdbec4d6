use Rattle.day.specs.Plays.{stand_of}
use Rattle.day.proofs.Playing.{Going}
use Rattle.day.proofs.replay.play_items.Given as goal

abbrev pub invariant-loop-item : goal.invariant-loop-item
invariant-loop-item g l =
    Going g.R.Recorder.notes l.items
    (stand_of g.P.Priority g.T.Terms l.initial.book l.initial.places l.initial.fills l.initial.recorder)
    l.item-index
    (stand_of g.P.Priority g.T.Terms l.book l.places l.fills l.recorder)

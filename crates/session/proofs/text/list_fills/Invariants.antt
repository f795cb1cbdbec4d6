use Rattle.std.proofs.Common.{take}
use Rattle.listing.specs.Sinks.{Handed}
use Rattle.session.specs.Listings.{fill_lines}
use Rattle.session.proofs.text.list_fills.Given as goal

abbrev pub invariant-loop-fill : goal.invariant-loop-fill
invariant-loop-fill g l = Handed g.S.Sink.writes l.initial.sink (fill_lines l.number (take l.fill-index l.fills)) l.sink

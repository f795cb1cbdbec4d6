use Rattle.std.proofs.Common.{◌+◌, None}
use Rattle.session.specs.Desks.{desk_of}
use Rattle.session.specs.Listings.{listing_from}
use Rattle.session.proofs.Handing.{Listing}
use Rattle.session.proofs.text.list_lines.Given as goal

abbrev pub invariant-loop-i : goal.invariant-loop-i
invariant-loop-i g l = Listing g.S.Sink.writes (listing_from 1 l.fn.lines None) l.initial.sink l.sink (l.i-iterator.count + 1) l.i-iterator.iter (desk_of l.session)

-- The phases of a book.
use Rattle.std.specs.Prelude.{Bool, true, false}
use Rattle.places.specs.declared.phase.Event.{Event}
use Rattle.places.specs.declared.phase.Event.TheVariants.{Halt, Resume, Close}
use Rattle.places.specs.declared.phase.Phase.{Phase}
use Rattle.places.specs.declared.phase.Phase.TheVariants.{Open, Halted, Closed}

abbrev pub is_open : Phase → Bool
is_open Open = true
is_open Halted = false
is_open Closed = false

abbrev pub is_halted : Phase → Bool
is_halted Open = false
is_halted Halted = true
is_halted Closed = false

abbrev pub is_closed : Phase → Bool
is_closed Open = false
is_closed Halted = false
is_closed Closed = true

-- halt fits only an open book, resumption only a halted one, close both; nothing fits a closed book
abbrev pub fits : Phase → Event → Bool
fits Open Halt = true
fits Open Resume = false
fits Open Close = true
fits Halted Halt = false
fits Halted Resume = true
fits Halted Close = true
fits Closed Halt = false
fits Closed Resume = false
fits Closed Close = false

-- the phase after an event; one that does not fit changes nothing
abbrev pub phase_after : Phase → Event → Phase
phase_after Open Halt = Halted
phase_after Open Resume = Open
phase_after Open Close = Closed
phase_after Halted Halt = Halted
phase_after Halted Resume = Open
phase_after Halted Close = Closed
phase_after Closed Halt = Closed
phase_after Closed Resume = Closed
phase_after Closed Close = Closed

-- What an event meets in a phase: nothing, or a closed book, or a phase that it does not fit.
use Rattle.std.specs.Prelude.{Ok, Err, Result}
use Rattle.orders.specs.declared.refusal.Refusal.{Refusal}
use Rattle.orders.specs.declared.refusal.Refusal.TheVariants.{WrongPhase, Closed as BookClosed}
use Rattle.places.specs.declared.phase.Event.{Event}
use Rattle.places.specs.declared.phase.Event.TheVariants.{Halt, Resume, Close}
use Rattle.places.specs.declared.phase.Phase.{Phase}
use Rattle.places.specs.declared.phase.Phase.TheVariants.{Open, Halted, Closed}

abbrev pub shift_cause : Phase → Event → Result (Unit {0}) Refusal
shift_cause Open Halt = Ok tt
shift_cause Open Resume = Err WrongPhase
shift_cause Open Close = Ok tt
shift_cause Halted Halt = Err WrongPhase
shift_cause Halted Resume = Ok tt
shift_cause Halted Close = Ok tt
shift_cause Closed Halt = Err BookClosed
shift_cause Closed Resume = Err BookClosed
shift_cause Closed Close = Err BookClosed

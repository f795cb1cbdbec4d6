-- The table of causes for which a call is sent back.
use Rattle.std.specs.Prelude.{ℕ, Bool, false, cond, not, ◌&&◌, List, length, is_some, Ok, Err, Result, ◌==◌, nat_le, nat_lt}
use Rattle.orders.specs.Codes.{kind_of}
use Rattle.orders.specs.Grid.{highest_price}
use Rattle.orders.specs.Quotes.{quote_of}
use Rattle.orders.specs.Ranges.{last_stamp}
use Rattle.orders.specs.declared.entry.Entry.{Entry}
use Rattle.orders.specs.declared.refusal.Refusal.{Refusal}
use Rattle.orders.specs.declared.refusal.Refusal.TheVariants.{Closed, WrongPlaces, FewFills, AtOnceWhileHalted, NotResting, NoPlace, NoStamp, WrongQuote, WrongPhase}
use Rattle.orders.specs.declared.row.Row.{Row}
use Rattle.terms.specs.Verdicts.{refusal_of}
use Rattle.terms.specs.declared.rejection.Rejection.{Rejection}
use Rattle.places.specs.declared.phase.Event.{Event}
use Rattle.places.specs.Phases.{is_halted, is_closed, fits}
use Rattle.places.specs.Places.{free_place, place_of, row_at}
use Rattle.orders.specs.Amendments.{amended_entry, loses_time}
use Rattle.places.specs.Remainders.{rests_as, at_once_as}
use Rattle.book.specs.States.{State, Rules}

-- which causes hold; a call for which a cause has no matter never meets it
pub record Matter : Type 0 where
  pub closed : Bool
  pub wrong_places : Bool
  pub few_fills : Bool
  pub at_once_while_halted : Bool
  pub not_resting : Bool
  pub verdict : Result (Unit {0}) Rejection
  pub no_place : Bool
  pub no_stamp : Bool
  pub wrong_quote : Bool
  pub wrong_phase : Bool

-- a cause that holds sends the call back; otherwise what follows decides
abbrev pub unless : Bool → Refusal → (next : Result (Unit {0}) Refusal) → Result (Unit {0}) Refusal
unless holds x next = cond holds (Err x) next

abbrev pub unless_rejected : Result (Unit {0}) Rejection → (next : Result (Unit {0}) Refusal) → Result (Unit {0}) Refusal
unless_rejected (Ok u) next = next
unless_rejected (Err x) next = Err (refusal_of x)

abbrev pub and_then : Result (Unit {0}) Refusal → (next : Result (Unit {0}) Refusal) → Result (Unit {0}) Refusal
and_then (Ok u) next = next
and_then (Err x) next = Err x

-- what every call but opening and the question meets first: a closed book, and the lists that are handed in
abbrev pub handed_in : (closed wrong_places few_fills : Bool) → Result (Unit {0}) Refusal
handed_in closed wrong_places few_fills = unless closed Closed (unless wrong_places WrongPlaces (unless few_fills FewFills (Ok tt)))

-- the table, downward: the first cause that holds
abbrev pub first_cause : Matter → Result (Unit {0}) Refusal
first_cause c =
    and_then (handed_in c.closed c.wrong_places c.few_fills)
    (unless c.at_once_while_halted AtOnceWhileHalted
    (unless c.not_resting NotResting
    (unless_rejected c.verdict
    (unless c.no_place NoPlace
    (unless c.no_stamp NoStamp
    (unless c.wrong_quote WrongQuote
    (unless c.wrong_phase WrongPhase (Ok tt))))))))

-- the number of places handed in is not that at opening
abbrev pub other_places : State → List Row → Bool
other_places s rows = not (length rows == s.places)

-- where no cause has a matter
abbrev pub no_matter : Matter
no_matter = record {
  closed = false;
  wrong_places = false;
  few_fills = false;
  at_once_while_halted = false;
  not_resting = false;
  verdict = Ok tt;
  no_place = false;
  no_stamp = false;
  wrong_quote = false;
  wrong_phase = false;
}

-- what every call has that hands in places and so many fill entries
abbrev pub handed_matter : State → (entries : ℕ) → List Row → Matter
handed_matter s entries rows = record no_matter {
  closed = is_closed s.phase;
  wrong_places = other_places s rows;
  few_fills = nat_lt entries (length rows);
}

-- an entry
abbrev pub entry_matter : Rules → State → Entry → (entries : ℕ) → List Row → Matter
entry_matter u s e entries rows = record (handed_matter s entries rows) {
  at_once_while_halted = is_halted s.phase && at_once_as (kind_of e.kind);
  verdict = u.verdict e s.lot;
  no_place = rests_as (kind_of e.kind) && not (is_some (free_place rows));
  no_stamp = nat_lt last_stamp s.next;
}

-- a quote of two numbers
abbrev pub quote_matter : State → (bid offer : ℕ) → (entries : ℕ) → List Row → Matter
quote_matter s bid offer entries rows = record (handed_matter s entries rows) { wrong_quote = not (is_some (quote_of bid offer)) }

-- a withdrawal of the quote
abbrev pub withdraw_matter : State → (entries : ℕ) → List Row → Matter
withdraw_matter s entries rows = handed_matter s entries rows

-- an amendment of a number to new shares left and a limit
abbrev pub amend_matter : Rules → State → (number shares limit : ℕ) → (entries : ℕ) → List Row → Matter
amend_matter u s number shares limit entries rows = record (handed_matter s entries rows) {
  not_resting = not (is_some (place_of number rows));
  verdict = u.verdict (amended_entry (row_at (place_of number rows) rows) shares limit) s.lot;
  no_stamp = loses_time (row_at (place_of number rows) rows) shares limit && nat_lt last_stamp s.next;
}

-- a cancel of a number
abbrev pub cancel_matter : State → (number : ℕ) → (entries : ℕ) → List Row → Matter
cancel_matter s number entries rows = record (handed_matter s entries rows) { not_resting = not (is_some (place_of number rows)) }

-- halt, resumption or close
abbrev pub event_matter : State → Event → (entries : ℕ) → List Row → Matter
event_matter s event entries rows = record (handed_matter s entries rows) { wrong_phase = not (fits s.phase event) }

-- the question after a number
abbrev pub ask_matter : State → (number : ℕ) → List Row → Matter
ask_matter s number rows = record no_matter { wrong_places = other_places s rows; not_resting = not (is_some (place_of number rows)) }

-- a book can be opened with this last sale and so many places
abbrev pub openable : (last places : ℕ) → Bool
openable last places = nat_le 1 last && nat_le last highest_price && nat_le 1 places && nat_le places 1024

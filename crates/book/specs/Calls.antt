-- What each call replies, and what it leaves: the book, the places and its fills.
use Rattle.std.specs.Prelude.{◌≡◌, ℕ, ◌+◌, ◌-◌, ◌≤◌, Bool, true, false, cond, ◌&&◌, List, [], ◌++◌, length, is_some, None, Ok, Err, Option, Result, IfOk}
use Rattle.orders.specs.Codes.{kind_of}
use Rattle.orders.specs.Quotes.{quote_of}
use Rattle.orders.specs.Rows.{order_of, entry_row, cleared}
use Rattle.orders.specs.declared.call.Call.{Call}
use Rattle.orders.specs.declared.call.Call.TheVariants as call
use Rattle.orders.specs.declared.call.Fill.{Fill}
use Rattle.orders.specs.declared.call.Receipt.{Receipt}
use Rattle.orders.specs.declared.entry.Entry.{Entry}
use Rattle.orders.specs.declared.refusal.Refusal.{Refusal}
use Rattle.orders.specs.declared.row.Row.{Row}
use Rattle.terms.specs.declared.terms.Terms.{Ghosts as Terms}
use Rattle.priority.specs.declared.priority.Priority.{Ghosts as Priority}
use Rattle.matching.specs.Runs.{Done, ended, run, written}
use Rattle.matching.specs.Sweeps.{Swept, still, sweep}
use Rattle.places.specs.declared.phase.Event.{Event}
use Rattle.places.specs.declared.phase.Event.TheVariants.{Halt, Resume, Close}
use Rattle.places.specs.Phases.{is_open, phase_after}
use Rattle.places.specs.Places.{free_place, place_of, row_at, placed, left_at}
use Rattle.book.specs.declared.book.Book.{Book}
use Rattle.book.specs.States.{State, Rules, state_of, priority_of, terms_of, rules_in, market, with_quote, with_phase, stamped, stamped_if}
use Rattle.orders.specs.Amendments.{loses_time, amended_row}
use Rattle.places.specs.Remainders.{rests_as}
use Rattle.book.specs.Causes.{first_cause, entry_matter, quote_matter, withdraw_matter, amend_matter, cancel_matter, event_matter, ask_matter}

pub record After : Type 0 where
  pub reply : Result Receipt Refusal
  pub state : State
  pub rows : List Row
  pub fills : List Fill

-- how many fills a reply counts
abbrev pub count_in : {E : Type 0} → Result Receipt E → ℕ
count_in (Ok r) = r.fills
count_in (Err x) = 0

-- a call that is sent back changes nothing
abbrev pub refused : Refusal → State → List Row → After
refused x s rows = record { reply = Err x; state = s; rows = rows; fills = [] }

abbrev pub decided : (cause : Result (Unit {0}) Refusal) → State → List Row → (accepted : After) → After
decided (Ok u) s rows a = a
decided (Err x) s rows a = refused x s rows

-- in an open book an order trades; in another it is not tried
abbrev pub tried : Rules → State → (active : Row) → List Row → Done
tried u s r rows = cond {A = Done} (is_open s.phase) (run (market u s) (length rows) false r rows) (ended r rows)

-- in an open book the sweep follows
abbrev pub swept : Rules → State → List Row → Swept
swept u s rows = cond {A = Swept} (is_open s.phase) (sweep (market u s) (length rows) rows) (still rows)

-- a call without an order
abbrev pub settled : State → Swept → After
settled s w = record {
  reply = Ok (record { number = 0; filled = 0; resting = 0; cancelled = 0; fills = length w.fills });
  state = s;
  rows = w.rows;
  fills = w.fills;
}

-- an entry whose order was tried: whether its kind rests, the place that it would take, whether it stays there, and the
-- sweep after that
abbrev pub entered_by : State → Entry → (rests : Bool) → (place : Option ℕ) → (stays : Bool) → Done → Swept → After
entered_by s e rests place stays d w = record {
  reply = Ok (record {
    number = s.next;
    filled = e.shares - left_at place stays w.rows - cond {A = ℕ} rests 0 d.active.left;
    resting = left_at place stays w.rows;
    cancelled = cond {A = ℕ} rests 0 d.active.left;
    fills = length d.fills + length w.fills;
  });
  state = stamped s;
  rows = w.rows;
  fills = d.fills ++ w.fills;
}

-- an order that was tried stays if its kind rests and it has shares left
abbrev pub stays_as : Entry → Done → Bool
stays_as e d = rests_as (kind_of e.kind) && is_some (order_of d.active)

-- the places once the remainder rests, in the lowest place that was free when the call began
abbrev pub resting : Entry → List Row → Done → List Row
resting e rows d = placed (free_place rows) (stays_as e d) d.active d.rows

abbrev pub entered_as : Rules → State → Entry → List Row → Done → After
entered_as u s e rows d = entered_by s e (rests_as (kind_of e.kind)) (free_place rows) (stays_as e d) d (swept u s (resting e rows d))

-- the order is active, its remainder rests or is cancelled, and the sweep follows
abbrev pub entered : Rules → State → Entry → List Row → After
entered u s e rows = entered_as u s e rows (tried u s (entry_row e s.next) rows)

abbrev pub entry_cause : Rules → State → Entry → (entries : ℕ) → List Row → Result (Unit {0}) Refusal
entry_cause u s e entries rows = first_cause (entry_matter u s e entries rows)

abbrev pub enter : Rules → State → Entry → (entries : ℕ) → List Row → After
enter u s e entries rows = decided (entry_cause u s e entries rows) s rows (entered u s e rows)

abbrev pub quote_cause : State → (bid offer : ℕ) → (entries : ℕ) → List Row → Result (Unit {0}) Refusal
quote_cause s bid offer entries rows = first_cause (quote_matter s bid offer entries rows)

-- the quote is set, no row changes, and the sweep follows
abbrev pub quoted : Rules → State → (bid offer : ℕ) → List Row → After
quoted u s bid offer rows = settled (with_quote s (quote_of bid offer)) (swept u (with_quote s (quote_of bid offer)) rows)

abbrev pub quote : Rules → State → (bid offer : ℕ) → (entries : ℕ) → List Row → After
quote u s bid offer entries rows = decided (quote_cause s bid offer entries rows) s rows (quoted u s bid offer rows)

abbrev pub withdraw_cause : State → (entries : ℕ) → List Row → Result (Unit {0}) Refusal
withdraw_cause s entries rows = first_cause (withdraw_matter s entries rows)

-- the quote is removed, no row changes, and the sweep follows
abbrev pub withdrawn : Rules → State → List Row → After
withdrawn u s rows = settled (with_quote s None) (swept u (with_quote s None) rows)

abbrev pub withdraw : Rules → State → (entries : ℕ) → List Row → After
withdraw u s entries rows = decided (withdraw_cause s entries rows) s rows (withdrawn u s rows)

-- an order whose row was written anew in its place: its number, the shares that it then had, and what was cancelled of it
abbrev pub rewritten : State → (number shares cancelled : ℕ) → (place : Option ℕ) → (stays : Bool) → Swept → After
rewritten s number shares cancelled place stays w = record {
  reply = Ok (record {
    number = number;
    filled = shares - left_at place stays w.rows;
    resting = left_at place stays w.rows;
    cancelled = cancelled;
    fills = length w.fills;
  });
  state = s;
  rows = w.rows;
  fills = w.fills;
}

abbrev pub amend_cause : Rules → State → (number shares limit : ℕ) → (entries : ℕ) → List Row → Result (Unit {0}) Refusal
amend_cause u s number shares limit entries rows = first_cause (amend_matter u s number shares limit entries rows)

abbrev pub amended_in : Rules → State → (number shares limit : ℕ) → (place : Option ℕ) → (row : Row) → List Row → After
amended_in u s number shares limit place r rows =
    rewritten (stamped_if (loses_time r shares limit) s) number shares (r.left - shares) place true
    (swept u (stamped_if (loses_time r shares limit) s) (placed place true (amended_row r shares limit s.next) rows))

-- the order is changed in its place, and the sweep follows; what is cut of its shares left counts as cancelled
abbrev pub amended : Rules → State → (number shares limit : ℕ) → List Row → After
amended u s number shares limit rows = amended_in u s number shares limit (place_of number rows) (row_at (place_of number rows) rows) rows

abbrev pub amend : Rules → State → (number shares limit : ℕ) → (entries : ℕ) → List Row → After
amend u s number shares limit entries rows = decided (amend_cause u s number shares limit entries rows) s rows (amended u s number shares limit rows)

abbrev pub cancel_cause : State → (number : ℕ) → (entries : ℕ) → List Row → Result (Unit {0}) Refusal
cancel_cause s number entries rows = first_cause (cancel_matter s number entries rows)

-- the place is cleared, and the sweep follows
abbrev pub cancelled_in : Rules → State → (number : ℕ) → (place : Option ℕ) → List Row → After
cancelled_in u s number place rows = rewritten s number 0 (row_at place rows).left place false (swept u s (placed place true cleared rows))

abbrev pub cancelled : Rules → State → (number : ℕ) → List Row → After
cancelled u s number rows = cancelled_in u s number (place_of number rows) rows

abbrev pub cancel : Rules → State → (number : ℕ) → (entries : ℕ) → List Row → After
cancel u s number entries rows = decided (cancel_cause s number entries rows) s rows (cancelled u s number rows)

abbrev pub event_cause : State → Event → (entries : ℕ) → List Row → Result (Unit {0}) Refusal
event_cause s event entries rows = first_cause (event_matter s event entries rows)

-- the phase changes, and in a book that is then open the sweep follows
abbrev pub turned : Rules → State → Event → List Row → After
turned u s event rows = settled (with_phase s (phase_after s.phase event)) (swept u (with_phase s (phase_after s.phase event)) rows)

abbrev pub event : Rules → State → Event → (entries : ℕ) → List Row → After
event u s e entries rows = decided (event_cause s e entries rows) s rows (turned u s e rows)

-- any call
abbrev pub answer : Rules → State → Call → (entries : ℕ) → List Row → After
answer u s (call.Enter e) entries rows = enter u s e entries rows
answer u s (call.Amend a) entries rows = amend u s a.number a.shares a.limit entries rows
answer u s (call.Cancel number) entries rows = cancel u s number entries rows
answer u s (call.Quote bid offer) entries rows = quote u s bid offer entries rows
answer u s call.Withdraw entries rows = withdraw u s entries rows
answer u s call.Halt entries rows = event u s Halt entries rows
answer u s call.Resume entries rows = event u s Resume entries rows
answer u s call.Close entries rows = event u s Close entries rows

-- the question changes nothing
abbrev pub answered : (cause : Result (Unit {0}) Refusal) → (number left : ℕ) → Result Receipt Refusal
answered (Ok u) number left = Ok (record { number = number; filled = 0; resting = left; cancelled = 0; fills = 0 })
answered (Err x) number left = Err x

abbrev pub ask : State → (number : ℕ) → List Row → Result Receipt Refusal
ask s number rows = answered (first_cause (ask_matter s number rows)) number (left_at (place_of number rows) true rows)

-- what a call replies and leaves behind: `call` says it of the rules, the state, the length of the list of fills, and the places
pub record Leaves {P T : Type 0} (priority : Priority P) (terms : Terms T) (call : Rules → State → (entries : ℕ) → List Row → After)
    (old new : Book P T) (old_rows new_rows : List Row) (old_fills new_fills : List Fill) (result : Result Receipt Refusal) : Type 0 where
  pub reply : result ≡ (call (rules_in priority terms old) (state_of old) (length old_fills) old_rows).reply
  pub state : state_of new ≡ (call (rules_in priority terms old) (state_of old) (length old_fills) old_rows).state
  pub rules : (priority_of new ≡ priority_of old) × (terms_of new ≡ terms_of old)
  pub places : new_rows ≡ (call (rules_in priority terms old) (state_of old) (length old_fills) old_rows).rows
  -- the list of fills stays behind those of the call
  pub fills : new_fills ≡ written 0 (call (rules_in priority terms old) (state_of old) (length old_fills) old_rows).fills old_fills
  pub few : IfOk result (λ x. x.fills ≤ length old_rows)

-- What sends a call back, told of the sheet, the call and the lists handed in.
use Rattle.std.specs.Prelude.{◌≡◌, ℕ, zero, suc, ◌+◌, ◌<◌, ◌≤◌, true, ◌⊎◌, List, [], ◌∷◌, ◌++◌, Some, None, Err, Result, ◌≢◌}
use Rattle.orders.specs.Codes.{kind_of}
use Rattle.orders.specs.Quotes.{quote_of}
use Rattle.orders.specs.Ranges.{last_stamp}
use Rattle.orders.specs.Rows.{row_of}
use Rattle.orders.specs.declared.call.Call.{Call}
use Rattle.orders.specs.declared.call.Call.TheVariants.{Enter, Amend, Cancel, Quote, Withdraw, Halt, Resume, Close}
use Rattle.orders.specs.declared.order.Order.{Order}
use Rattle.orders.specs.declared.refusal.Refusal.{Refusal}
use Rattle.orders.specs.declared.refusal.Refusal.TheVariants as refusal
use Rattle.terms.specs.declared.rejection.Rejection.{Rejection}
use Rattle.terms.specs.declared.rejection.Rejection.TheVariants.{BadKind, BadParty, BadShares, BadLimit, BadMinimum}
use Rattle.matching.specs.Sums.{weighed}
use Rattle.orders.specs.Amendments.{loses_time, amended_entry}
use Rattle.places.specs.Remainders.{rests_as, at_once_as}
use Rattle.places.specs.declared.phase.Phase.TheVariants as phase
use Rattle.book.specs.States.{Rules}
use Rattle.day.specs.Sheets.{Orders, Sheet}

-- a sum over the orders of the sheet with a number below n
abbrev pub total : (Order → ℕ) → Orders → (n : ℕ) → ℕ
total g s zero = 0
total g s (suc n) = weighed g (s n) + total g s n

-- how many orders of the sheet have a number below n
abbrev pub standing : Orders → (n : ℕ) → ℕ
standing s n = total (λ _. 1) s n

-- a cause for which a call is sent back, and what must hold for it
pub record Cause : Type 1 where
  pub refusal : Refusal
  pub holds : Type 0

abbrev pub cause : Refusal → Type 0 → Cause
cause x h = record { refusal = x; holds = h }

-- so many places and fill entries are handed in
pub record Lists : Type 0 where
  pub places : ℕ
  pub entries : ℕ

-- a closed book; not as many places as at opening; fewer fill entries than places
abbrev pub list_causes : (places : ℕ) → Sheet → Lists → List Cause
list_causes places s l =
    cause refusal.Closed (s.phase ≡ phase.Closed)
    ∷ cause refusal.WrongPlaces (l.places ≢ places)
    ∷ cause refusal.FewFills (l.entries < l.places)
    ∷ []

-- the first wrong field of an entry, as the terms judge it
abbrev pub field_causes : (Result (Unit {0}) Rejection → Type 0) → List Cause
field_causes Judged =
    cause refusal.WrongKind (Judged (Err BadKind))
    ∷ cause refusal.WrongParty (Judged (Err BadParty))
    ∷ cause refusal.WrongShares (Judged (Err BadShares))
    ∷ cause refusal.WrongLimit (Judged (Err BadLimit))
    ∷ cause refusal.WrongMinimum (Judged (Err BadMinimum))
    ∷ []

-- an amendment of an order that stands is judged so
abbrev pub AmendJudged : Rules → Sheet → (number shares limit : ℕ) → Result (Unit {0}) Rejection → Type 0
AmendJudged u s n shares limit v = (o : Order) × (s.orders n ≡ Some o) × (u.verdict (amended_entry (row_of o) shares limit) s.lot ≡ v)

-- the causes that a call can meet beside those of its lists, in the sequence of the table; as many orders as places leave
-- no place free
abbrev pub call_causes : Rules → (places : ℕ) → Sheet → Call → List Cause
call_causes u places s (Enter e) =
    cause refusal.AtOnceWhileHalted ((s.phase ≡ phase.Halted) × (at_once_as (kind_of e.kind) ≡ true))
    ∷ (field_causes (λ v. u.verdict e s.lot ≡ v)
    ++ (cause refusal.NoPlace ((rests_as (kind_of e.kind) ≡ true) × (places ≤ standing s.orders s.next))
    ∷ cause refusal.NoStamp (last_stamp < s.next)
    ∷ []))
call_causes u places s (Amend a) =
    cause refusal.NotResting (s.orders a.number ≡ None)
    ∷ (field_causes (AmendJudged u s a.number a.shares a.limit)
    ++ (cause refusal.NoStamp ((o : Order) × (s.orders a.number ≡ Some o) × (loses_time (row_of o) a.shares a.limit ≡ true) × (last_stamp < s.next))
    ∷ []))
call_causes u places s (Cancel n) = cause refusal.NotResting (s.orders n ≡ None) ∷ []
call_causes u places s (Quote bid offer) = cause refusal.WrongQuote (quote_of bid offer ≡ None) ∷ []
call_causes u places s Withdraw = []
call_causes u places s Halt = cause refusal.WrongPhase (s.phase ≢ phase.Open) ∷ []
call_causes u places s Resume = cause refusal.WrongPhase (s.phase ≢ phase.Halted) ∷ []
call_causes u places s Close = []

abbrev pub causes : Rules → (places : ℕ) → Sheet → Lists → Call → List Cause
causes u places s l c = list_causes places s l ++ call_causes u places s c

-- the refusal is that of the first cause that holds
abbrev pub Refused : List Cause → Refusal → Type 0
Refused [] x = ⊥
Refused (c ∷ cs) x = (c.holds × (x ≡ c.refusal)) ⊎ ((c.holds → ⊥) × Refused cs x)

-- no cause holds
abbrev pub Passed : List Cause → Type 0
Passed [] = Unit {0}
Passed (c ∷ cs) = (c.holds → ⊥) × Passed cs

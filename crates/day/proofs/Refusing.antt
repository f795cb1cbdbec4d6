-- A call is sent back just when a cause holds on the sheet, with the first that does.
use Rattle.std.proofs.Common.{◌≡◌, ℕ, ◌<◌, ◌≤◌, Bool, true, false, not, ◌&&◌, ltb, List, [], ◌∷◌, ◌++◌, length, is_some, Some, None, Ok, Err, Decides, Option, Result, sym, ap, ◌∙◌, ⊎_elim, arith}
use Rattle.std.proofs.lemmas.Grind.{common_steps}
use Rattle.std.proofs.lemmas.Bool.{not-false, cases_eq}
use Rattle.std.proofs.lemmas.Bool.Decides.{Decides-not, Decides-and, Decides-ltb, Decides-like}
use Rattle.orders.specs.Codes.{kind_of}
use Rattle.orders.specs.Quotes.{quote_of}
use Rattle.orders.specs.Ranges.{last_stamp}
use Rattle.orders.specs.Rows.{row_of}
use Rattle.orders.specs.declared.call.Call.{Call}
use Rattle.orders.specs.declared.call.Call.TheVariants.{Enter, Amend, Cancel, Quote, Withdraw, Halt, Resume, Close}
use Rattle.orders.specs.declared.entry.Entry.{Entry}
use Rattle.orders.specs.declared.order.Order.{Order}
use Rattle.orders.specs.declared.refusal.Refusal.{Refusal}
use Rattle.orders.specs.declared.refusal.Refusal.TheVariants as refusal
use Rattle.orders.specs.declared.row.Row.{Row}
use Rattle.terms.specs.declared.rejection.Rejection.{Rejection}
use Rattle.matching.specs.Sweeps.{occupied}
use Rattle.orders.specs.Amendments.{loses_time, amended_entry}
use Rattle.places.specs.Phases.{is_halted, is_closed, fits}
use Rattle.places.specs.Places.{free_place, place_of, row_at}
use Rattle.places.specs.Remainders.{rests_as, at_once_as}
use Rattle.places.specs.declared.phase.Event.TheVariants as event
use Rattle.places.specs.declared.phase.Phase.{Phase}
use Rattle.places.specs.declared.phase.Phase.TheVariants as phase
use Rattle.book.specs.States.{State, Rules}
use Rattle.book.specs.Causes.{unless, unless_rejected, and_then, handed_in, other_places}
use Rattle.book.specs.Calls.{After, decided, entered, entry_cause, quoted, quote_cause, withdrawn, withdraw_cause, amended, amend_cause, cancelled, cancel_cause, turned, event_cause, answer}
use Rattle.day.specs.Sheets.{Sheet}
use Rattle.day.specs.Causes.{standing, Cause, cause, Lists, list_causes, field_causes, AmendJudged, call_causes, causes, Refused, Passed}
use Rattle.day.proofs.Keeping.{state_on, Sound}
use Rattle.day.proofs.Totals.{standing_rows}
use Rattle.day.proofs.Looking.{some_is, place_holds, row_found, resting_decides, free_decides}

-- what the causes of the sheet say of an outcome
abbrev pub Tells : Result (Unit {0}) Refusal → List Cause → Type 0
Tells (Ok u) cs = Passed cs
Tells (Err x) cs = Refused cs x

tells_unless : (b : Bool) (x : Refusal) (T : Type 0) (v : Result (Unit {0}) Refusal) (cs : List Cause) → Decides b T → (b ≡ false → Tells v cs) → Tells (unless b x v) (cause x T ∷ cs)
tells_unless b x T v cs d f = grind (arith, common_steps)

-- a verdict that is judged so on the sheet too
abbrev Agrees : Result (Unit {0}) Rejection → (Result (Unit {0}) Rejection → Type 0) → Type 0
Agrees v Judged = (w : Result (Unit {0}) Rejection) → (v ≡ w → Judged w) × (Judged w → v ≡ w)

tells_rejected : (Judged : Result (Unit {0}) Rejection → Type 0) (v : Result (Unit {0}) Rejection) (next : Result (Unit {0}) Refusal) (cs : List Cause) → Agrees v Judged → (v ≡ Ok tt → Tells next cs) → Tells (unless_rejected v next) (field_causes Judged ++ cs)
tells_rejected Judged v next cs d f = grind (arith, common_steps)

-- the tests of the phase
halted_decides : (p : Phase) → Decides (is_halted p) (p ≡ phase.Halted)
halted_decides p = grind (arith, common_steps)

halt_decides : (p : Phase) → Decides (fits p event.Halt) (p ≡ phase.Open)
halt_decides p = grind (arith, common_steps)

resume_decides : (p : Phase) → Decides (fits p event.Resume) (p ≡ phase.Halted)
resume_decides p = grind (arith, common_steps)

close_fits : (p : Phase) → is_closed p ≡ false → Tells (unless (not (fits p event.Close)) refusal.WrongPhase (Ok tt)) []
close_fits p e = grind (arith, common_steps)

bool_decides : (b : Bool) → Decides b (b ≡ true)
bool_decides b = ((λ e. e), (λ e. e))

none_decides : {X : Type 0} (x : Option X) → Decides (not (is_some x)) (x ≡ None)
none_decides x = grind (arith, common_steps)

-- the cause of any call, and what it does when there is none
abbrev pub cause_of : Rules → State → Call → (entries : ℕ) → List Row → Result (Unit {0}) Refusal
cause_of u s (Enter e) entries rows = entry_cause u s e entries rows
cause_of u s (Amend a) entries rows = amend_cause u s a.number a.shares a.limit entries rows
cause_of u s (Cancel n) entries rows = cancel_cause s n entries rows
cause_of u s (Quote bid offer) entries rows = quote_cause s bid offer entries rows
cause_of u s Withdraw entries rows = withdraw_cause s entries rows
cause_of u s Halt entries rows = event_cause s event.Halt entries rows
cause_of u s Resume entries rows = event_cause s event.Resume entries rows
cause_of u s Close entries rows = event_cause s event.Close entries rows

abbrev pub done_of : Rules → State → Call → List Row → After
done_of u s (Enter e) rows = entered u s e rows
done_of u s (Amend a) rows = amended u s a.number a.shares a.limit rows
done_of u s (Cancel n) rows = cancelled u s n rows
done_of u s (Quote bid offer) rows = quoted u s bid offer rows
done_of u s Withdraw rows = withdrawn u s rows
done_of u s Halt rows = turned u s event.Halt rows
done_of u s Resume rows = turned u s event.Resume rows
done_of u s Close rows = turned u s event.Close rows

pub answer_is : (u : Rules) (s : State) (c : Call) (entries : ℕ) (rows : List Row) → answer u s c entries rows ≡ decided (cause_of u s c entries rows) s rows (done_of u s c rows)
answer_is u s c entries rows = grind (arith, common_steps)

module _ (u : Rules) (places : ℕ) (s : Sheet) (entries : ℕ) (h : List Row) (known : length h ≡ places → Sound places s.next s.orders h) where
  abbrev l : Lists
  l = record { places = length h; entries = entries }

  -- the lists that are handed in
  lists_tell : (next : Result (Unit {0}) Refusal) (cs : List Cause) → (is_closed s.phase ≡ false → length h ≡ places → Tells next cs)
      → Tells (and_then (handed_in (is_closed s.phase) (other_places (state_on places s) h) (ltb entries (length h))) next) (list_causes places s l ++ cs)
  lists_tell next cs f = grind arith

  module _ (k : Sound places s.next s.orders h) (e : length h ≡ places) where
    counts : standing s.orders s.next ≡ occupied h
    counts = standing_rows places s.next s.orders h k.holds (λ n o q. (k.stamped.young n o q).1)

    full_decides : Decides (not (is_some (free_place h))) (places ≤ standing s.orders s.next)
    full_decides = Decides-like (not (is_some (free_place h))) (λ x. omega (arith, counts, x)) (λ x. omega (arith, counts, x)) (free_decides h)

    enter_tells : (x : Entry) → Tells (unless (is_halted s.phase && at_once_as (kind_of x.kind)) refusal.AtOnceWhileHalted (unless_rejected (u.verdict x s.lot) (unless (rests_as (kind_of x.kind) && not (is_some (free_place h))) refusal.NoPlace (unless (ltb last_stamp s.next) refusal.NoStamp (Ok tt))))) (call_causes u places s (Enter x))
    enter_tells x =
        tells_unless (is_halted s.phase && at_once_as (kind_of x.kind)) refusal.AtOnceWhileHalted _ _ _ (Decides-and (is_halted s.phase) (at_once_as (kind_of x.kind)) (halted_decides s.phase) (bool_decides (at_once_as (kind_of x.kind))))
        (λ a. tells_rejected (λ v. u.verdict x s.lot ≡ v) (u.verdict x s.lot) _ _ (λ w. ((λ q. q), (λ q. q)))
        (λ b. tells_unless (rests_as (kind_of x.kind) && not (is_some (free_place h))) refusal.NoPlace _ _ _ (Decides-and (rests_as (kind_of x.kind)) (not (is_some (free_place h))) (bool_decides (rests_as (kind_of x.kind))) full_decides)
        (λ c. tells_unless (ltb last_stamp s.next) refusal.NoStamp (last_stamp < s.next) _ _ (Decides-ltb last_stamp s.next) (λ d. tt))))

    -- an order that stands
    module _ (n shares limit : ℕ) (o : Order) (q : s.orders n ≡ Some o) where
      abbrev r : Row
      r = row_at (place_of n h) h

      found : (p : Order) → s.orders n ≡ Some p → r ≡ row_of p
      found p t = row_found places s.orders h k.holds n p t

      judged : Agrees (u.verdict (amended_entry r shares limit) s.lot) (AmendJudged u s n shares limit)
      judged w = (
        (λ t. (o, q, ap (λ (x : Row). u.verdict (amended_entry x shares limit) s.lot) (sym (found o q)) ∙ t)),
        (λ j. ap (λ (x : Row). u.verdict (amended_entry x shares limit) s.lot) (found j.0 j.1) ∙ j.2),
      )

      stamp_decides : Decides (loses_time r shares limit && ltb last_stamp s.next) ((p : Order) × (s.orders n ≡ Some p) × (loses_time (row_of p) shares limit ≡ true) × (last_stamp < s.next))
      stamp_decides =
          Decides-like (loses_time r shares limit && ltb last_stamp s.next)
          (λ t. (o, q, ap (λ (x : Row). loses_time x shares limit) (sym (found o q)) ∙ t.0, t.1))
          (λ t. (ap (λ (x : Row). loses_time x shares limit) (found t.0 t.1) ∙ t.2, t.3))
          (Decides-and (loses_time r shares limit) (ltb last_stamp s.next) (bool_decides (loses_time r shares limit)) (Decides-ltb last_stamp s.next))

    stands : (n : ℕ) → not (is_some (place_of n h)) ≡ false → (o : Order) × (s.orders n ≡ Some o)
    stands n e =
        let i = some_is (place_of n h) (not-false (is_some (place_of n h)) e) in
        let p = place_holds places s.orders h k.holds n i.0 i.1 in
        (p.1, p.2)

    amend_tells : (n shares limit : ℕ) → Tells (unless (not (is_some (place_of n h))) refusal.NotResting (unless_rejected (u.verdict (amended_entry (row_at (place_of n h) h) shares limit) s.lot) (unless (loses_time (row_at (place_of n h) h) shares limit && ltb last_stamp s.next) refusal.NoStamp (Ok tt)))) (call_causes u places s (Amend (record { number = n; shares = shares; limit = limit })))
    amend_tells n shares limit =
        tells_unless (not (is_some (place_of n h))) refusal.NotResting (s.orders n ≡ None) _ _ (resting_decides places s.orders h k.holds n)
        (λ a. let o = stands n a in
        tells_rejected (AmendJudged u s n shares limit) (u.verdict (amended_entry (row_at (place_of n h) h) shares limit) s.lot) _ _ (judged n shares limit o.0 o.1)
        (λ b. tells_unless (loses_time (row_at (place_of n h) h) shares limit && ltb last_stamp s.next) refusal.NoStamp _ _ _ (stamp_decides n shares limit o.0 o.1) (λ c. tt)))

  -- the outcome of any call is that of the first cause that holds
  pub told : (c : Call) → Tells (cause_of u (state_on places s) c entries h) (causes u places s l c)
  told (Enter x) = lists_tell _ (call_causes u places s (Enter x)) (λ a e. enter_tells (known e) e x)
  told (Amend a) = lists_tell _ (call_causes u places s (Amend a)) (λ l e. amend_tells (known e) e a.number a.shares a.limit)
  told (Cancel n) = lists_tell _ (call_causes u places s (Cancel n)) (λ a e. tells_unless (not (is_some (place_of n h))) refusal.NotResting (s.orders n ≡ None) _ _ (resting_decides places s.orders h (known e).holds n) (λ b. tt))
  told (Quote bid offer) = lists_tell _ (call_causes u places s (Quote bid offer)) (λ a e. tells_unless (not (is_some (quote_of bid offer))) refusal.WrongQuote (quote_of bid offer ≡ None) _ _ (none_decides (quote_of bid offer)) (λ b. tt))
  told Withdraw = lists_tell _ (call_causes u places s Withdraw) (λ a e. tt)
  told Halt = lists_tell _ (call_causes u places s Halt) (λ a e. tells_unless (not (fits s.phase event.Halt)) refusal.WrongPhase (s.phase ≡ phase.Open → ⊥) _ _ (Decides-not (fits s.phase event.Halt) (halt_decides s.phase)) (λ b. tt))
  told Resume = lists_tell _ (call_causes u places s Resume) (λ a e. tells_unless (not (fits s.phase event.Resume)) refusal.WrongPhase (s.phase ≡ phase.Halted → ⊥) _ _ (Decides-not (fits s.phase event.Resume) (resume_decides s.phase)) (λ b. tt))
  told Close = lists_tell _ (call_causes u places s Close) (λ a e. close_fits s.phase a)

module _ (u : Rules) (places : ℕ) (s : Sheet) (c : Call) (entries : ℕ) (h : List Row) (known : length h ≡ places → Sound places s.next s.orders h) where
  abbrev lists : Lists
  lists = record { places = length h; entries = entries }

  -- where no cause holds, as many places are handed in as at opening
  pub all_handed : Passed (causes u places s lists c) → length h ≡ places
  all_handed p = ⊎_elim (λ e. e) (λ e. absurd (p.1.0 e)) (cases_eq (length h) places)

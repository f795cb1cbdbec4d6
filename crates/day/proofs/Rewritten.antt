-- An accepted amendment, cancel, quote, withdrawal or event keeps the law.
use Rattle.std.proofs.Common.{◌≡◌, ℕ, ◌+◌, ◌-◌, ◌<◌, ◌≤◌, Bool, true, false, cond, not, ◌&&◌, eqb, ltb, List, [], length, get_or, set, is_some, Some, None, Ok, Option, sym, refl, ap, ◌∙◌, subst, arith}
use Rattle.std.proofs.lemmas.Bool.Decides.{nat_tests}
use Rattle.std.proofs.lemmas.Grind.{common_steps}
use Rattle.std.proofs.lemmas.List.{get_or-set_same, length-set}
use Rattle.std.proofs.lemmas.Bool.{eq-eqb, not-false}
use Rattle.orders.specs.Ranges.{last_stamp}
use Rattle.orders.specs.Rows.{order_of, row_of, entry_row, cleared}
use Rattle.orders.specs.declared.call.Call.{Call}
use Rattle.orders.specs.declared.call.Call.TheVariants.{Amend, Cancel, Quote, Withdraw, Halt, Resume, Close}
use Rattle.orders.specs.declared.call.Fill.{Fill}
use Rattle.orders.specs.declared.call.Receipt.{Receipt}
use Rattle.orders.specs.declared.order.Order.{Order}
use Rattle.orders.specs.declared.row.Row.{Row}
use Rattle.matching.specs.Sweeps.{Swept}
use Rattle.matching.proofs.Foremost.{Lawful}
use Rattle.orders.specs.Amendments.{loses_time, amended_row, amended_entry}
use Rattle.places.specs.Phases.{fits, phase_after}
use Rattle.places.specs.Places.{place_of, row_at, left_at}
use Rattle.places.specs.declared.phase.Event.{Event}
use Rattle.places.specs.declared.phase.Event.TheVariants as event
use Rattle.places.specs.declared.phase.Phase.{Phase}
use Rattle.places.specs.declared.phase.Phase.TheVariants as phase
use Rattle.book.specs.States.{State, Rules, with_phase, stamped_if}
use Rattle.book.specs.Causes.{amend_matter, cancel_matter, event_matter}
use Rattle.book.specs.Calls.{After, swept, settled, rewritten, amended, cancelled, quoted, withdrawn, turned}
use Rattle.book.proofs.Admitted.{Clear}
use Rattle.day.specs.Sheets.{Orders, Sheet, put, amended_to, restamps, written, passing, leaves, accepted, left_of}
use Rattle.day.specs.Trades.{OwnFills}
use Rattle.day.specs.Receipts as receipts
use Rattle.day.specs.Receipts.{number_in, OrderTold}
use Rattle.day.specs.Balances.{Tally, counted, with_fills, Balanced}
use Rattle.day.proofs.Keeping.{state_on, Sound}
use Rattle.day.proofs.Looking.{some_is, place_holds, held_is}
use Rattle.day.proofs.Putting.{put_same}
use Rattle.day.proofs.Writing.{placed_at, amended_order, amend_sound, cancel_sound}
use Rattle.day.proofs.Finishing.{Ready, Finished, finish, left_at_lem, put_left}
use Rattle.day.proofs.Entered.{Kept, kept_of, Taken}

-- an accepted call with all that is known after it
abbrev pub Outcome : Rules → (places : ℕ) → Sheet → Tally → Call → After → Type 0
Outcome u places s t c a = (r : Receipt) × (a.reply ≡ Ok r) × Kept u places s t c r a.fills a.rows a.state

one_or_more : (b : Bool) (next : ℕ) → 1 ≤ next → 1 ≤ cond {A = ℕ} b (next + 1) next
one_or_more b next h = grind (arith, common_steps)

stamp_left : (b : Bool) (next : ℕ) → (b && ltb last_stamp next) ≡ false → b ≡ true → next ≤ last_stamp
stamp_left b next f q = grind (arith, common_steps)

module _ (u : Rules) (lawful : Lawful u.before) (places entries : ℕ) (s : Sheet) (t : Tally) (rows : List Row)
    (sound : Sound places s.next s.orders rows) (balanced : Balanced t rows) (low : 1 ≤ s.next) where
  abbrev st : State
  st = state_on places s

  -- the tally before the call, told of the sheet
  was : (n : ℕ) → t.entered n + t.added n ≡ t.filled n + t.cut n + t.cancelled n + left_of (s.orders n)
  was n = balanced n ∙ ap (λ (x : ℕ). t.filled n + t.cut n + t.cancelled n + x) (held_is places s.orders rows sound.holds n)

  -- the place of an order that is looked up
  look : (n : ℕ) → not (is_some (place_of n rows)) ≡ false
      → (i : ℕ) × (place_of n rows ≡ Some i) × (i < length rows) × (o : Order) × (s.orders n ≡ Some o) × (get_or rows i cleared ≡ row_of o) × (o.number ≡ n)
  look n e =
      let i = some_is (place_of n rows) (not-false (is_some (place_of n rows)) e) in
      let p = place_holds places s.orders rows sound.holds n i.0 i.1 in
      (i.0, i.1, p.0, p.1, p.2, p.3, p.4)

  -- an amendment
  module _ (taken : Taken u) (n shares limit i : ℕ) (o : Order) (q : s.orders n ≡ Some o) (l : i < length rows) (e : get_or rows i cleared ≡ row_of o) (en : o.number ≡ n)
      (verdict : u.verdict (amended_entry (row_of o) shares limit) s.lot ≡ Ok tt) (stamp : loses_time (row_of o) shares limit ≡ true → s.next ≤ last_stamp) where
    abbrev c : Call
    c = Amend (record { number = n; shares = shares; limit = limit })

    judged : is_some (order_of (entry_row (amended_entry (row_of o) shares limit) 1)) ≡ true
    judged = taken (amended_entry (row_of o) shares limit) s.lot verdict 1 (omega arith) (omega arith)

    abbrev v : Row
    v = amended_row (row_of o) shares limit s.next

    new : (p : Order) × (order_of v ≡ Some p) × (v ≡ row_of p)
    new = amended_order o shares limit s.next judged low stamp

    to : amended_to (s.orders n) shares limit s.next ≡ order_of v
    to = ap (λ (b : Option Order). amended_to b shares limit s.next) q

    loses : restamps (s.orders n) shares limit ≡ loses_time (row_of o) shares limit
    loses = ap (λ (b : Option Order). restamps b shares limit) q

    ready : Ready u places s c [] (set rows i v)
    ready = record {
      goes = refl;
      fair = tt;
      sound = subst (λ (b : Bool). Sound places (cond {A = ℕ} b (s.next + 1) s.next) (written c s).orders (set rows i v)) (sym loses)
          (amend_sound o shares limit s.next judged low stamp places s.orders rows sound n i q l e en (amended_to (s.orders n) shares limit s.next) to);
      back = λ fs f. f;
    }

    abbrev w : Swept
    w = swept u st (set rows i v)

    fin : Finished u places s c [] (set rows i v) w
    fin = finish u lawful places s c [] (set rows i v) ready

    left_new : left_of (amended_to (s.orders n) shares limit s.next) ≡ shares
    left_new = ap left_of (to ∙ new.1) ∙ sym (ap (λ (r : Row). r.left) new.2)

    left_was : left_of (s.orders n) ≡ o.left
    left_was = ap left_of q

    left_written : (m : ℕ) → left_of ((written c s).orders m) ≡ cond {A = ℕ} (eqb m n) shares (left_of (s.orders m))
    left_written m = put_left n (amended_to (s.orders n) shares limit s.next) s.orders m ∙ ap (λ (x : ℕ). cond {A = ℕ} (eqb m n) x (left_of (s.orders m))) left_new

    here : left_of ((written c s).orders n) ≡ shares
    here = left_written n ∙ ap (λ (b : Bool). cond {A = ℕ} b shares (left_of (s.orders n))) (eq-eqb n n refl)

    told_is : left_at (Some i) true w.rows ≡ left_of ((accepted c w.fills s).orders n)
    told_is =
        left_at_lem places (written c s).orders (accepted c w.fills s).orders (set rows i v) w.rows ready.sound.holds fin.sound.holds fin.stays i new.0 (omega (arith, l, length-set rows i v))
        (ap order_of (get_or-set_same rows i v cleared l) ∙ new.1)
        ∙ ap (λ (m : ℕ). left_of ((accepted c w.fills s).orders m)) (sym (ap (λ (r : Row). r.number) new.2) ∙ en)

    abbrev reply : Receipt
    reply = record { number = n; filled = shares - left_at (Some i) true w.rows; resting = left_at (Some i) true w.rows; cancelled = o.left - shares; fills = length w.fills }

    pub amend_kept : Kept u places s t c reply w.fills w.rows (stamped_if (loses_time (row_of o) shares limit) st)
    amend_kept = grind (arith, nat_tests, kept_of, fin, fin.swept_left, here, told_is, left_was, was, left_written, fin.held, loses, one_or_more)

  pub amend_outcome : Taken u → (n shares limit : ℕ) → Clear (amend_matter u st n shares limit entries rows) → Outcome u places s t (Amend (record { number = n; shares = shares; limit = limit })) (amended u st n shares limit rows)
  amend_outcome taken n shares limit cl =
      let k = look n cl.not_resting in
      let i = k.0 in
      let o = k.3 in
      let r : row_at (place_of n rows) rows ≡ row_of o = ap (λ (p : Option ℕ). row_at p rows) k.1 ∙ k.5 in
      let v : Row = amended_row (row_of o) shares limit s.next in
      let b : Bool = loses_time (row_of o) shares limit in
      let same : rewritten (stamped_if b st) n shares (o.left - shares) (Some i) true (swept u (stamped_if b st) (set rows i v)) ≡ amended u st n shares limit rows = rw (k.1, k.5, placed_at i v rows k.2) refl in
      subst (λ (a : After). Outcome u places s t (Amend (record { number = n; shares = shares; limit = limit })) a) same (
        _,
        refl,
        amend_kept taken n shares limit i o k.4 k.2 k.5 k.6
            (sym (ap (λ (x : Row). u.verdict (amended_entry x shares limit) s.lot) r) ∙ cl.verdict)
            (stamp_left (loses_time (row_of o) shares limit) s.next (sym (ap (λ (x : Row). loses_time x shares limit && ltb last_stamp s.next) r) ∙ cl.no_stamp)),
      )

  -- a cancel
  module _ (n i : ℕ) (o : Order) (q : s.orders n ≡ Some o) (l : i < length rows) (e : get_or rows i cleared ≡ row_of o) (en : o.number ≡ n) where
    cancel_ready : Ready u places s (Cancel n) [] (set rows i cleared)
    cancel_ready = record { goes = refl; fair = tt; sound = cancel_sound places s.next s.orders rows sound n i o q l e en; back = λ fs f. f }

    abbrev cw : Swept
    cw = swept u st (set rows i cleared)

    cancel_fin : Finished u places s (Cancel n) [] (set rows i cleared) cw
    cancel_fin = finish u lawful places s (Cancel n) [] (set rows i cleared) cancel_ready

    cancel_left : (m : ℕ) → left_of ((written (Cancel n) s).orders m) ≡ cond {A = ℕ} (eqb m n) 0 (left_of (s.orders m))
    cancel_left m = put_left n None s.orders m

    cancel_here : left_of ((written (Cancel n) s).orders n) ≡ 0
    cancel_here = ap left_of (put_same n None s.orders n refl)

    abbrev cancel_reply : Receipt
    cancel_reply = record { number = n; filled = 0 - left_at (Some i) false cw.rows; resting = left_at (Some i) false cw.rows; cancelled = o.left; fills = length cw.fills }

    pub cancel_kept : Kept u places s t (Cancel n) cancel_reply cw.fills cw.rows st
    cancel_kept = grind (arith, nat_tests, kept_of, cancel_fin, cancel_fin.swept_left, cancel_here, was, cancel_left, cancel_fin.held)

  pub cancel_outcome : (n : ℕ) → Clear (cancel_matter st n entries rows) → Outcome u places s t (Cancel n) (cancelled u st n rows)
  cancel_outcome n cl =
      let k = look n cl.not_resting in
      let i = k.0 in
      let o = k.3 in
      let same : rewritten st n 0 o.left (Some i) false (swept u st (set rows i cleared)) ≡ cancelled u st n rows = rw (k.1, k.5, placed_at i cleared rows k.2) refl in
      subst (λ (a : After). Outcome u places s t (Cancel n) a) same (_, refl, cancel_kept n i o k.4 k.2 k.5 k.6)

  -- a call without an order that writes none
  module _ (c : Call) (goes : OwnFills u s c []) (next : (written c s).next ≡ s.next) (orders : (written c s).orders ≡ s.orders) (stays : passing c ≡ false)
      (none : number_in s c ≡ None) (cancels : (fs : List Fill) → receipts.cancelled_in s c fs ≡ 0) (counts : (r : Receipt) → counted c r s t ≡ t) where
    same : leaves c s.next (written c s).orders ≡ (written c s).orders
    same = ap (λ (b : Bool). cond {A = Orders} b (put s.next None (written c s).orders) (written c s).orders) stays

    plain_ready : Ready u places s c [] rows
    plain_ready = grind arith

    abbrev pw : Swept
    pw = swept u (state_on places (written c s)) rows

    plain_fin : Finished u places s c [] rows pw
    plain_fin = finish u lawful places s c [] rows plain_ready

    plain_balanced : Balanced (with_fills pw.fills t) pw.rows
    plain_balanced n = grind (arith, nat_tests, plain_fin.swept_left, same, was, plain_fin.held)

    pub plain_kept : Outcome u places s t c (settled (state_on places (written c s)) pw)
    plain_kept = grind (arith, nat_tests, kept_of, plain_fin, plain_balanced)

  pub quote_outcome : (bid offer : ℕ) → Outcome u places s t (Quote bid offer) (quoted u st bid offer rows)
  quote_outcome bid offer = plain_kept (Quote bid offer) refl refl refl refl refl (λ fs. refl) (λ r. refl)

  pub withdraw_outcome : Outcome u places s t Withdraw (withdrawn u st rows)
  withdraw_outcome = plain_kept Withdraw refl refl refl refl refl (λ fs. refl) (λ r. refl)

  -- the phase after an event that fits
  halted_after : (p : Phase) → not (fits p event.Halt) ≡ false → phase_after p event.Halt ≡ phase.Halted
  halted_after p e = grind (arith, common_steps)

  opened_after : (p : Phase) → not (fits p event.Resume) ≡ false → phase_after p event.Resume ≡ phase.Open
  opened_after p e = grind (arith, common_steps)

  closed_after : (p : Phase) → phase_after p event.Close ≡ phase.Closed
  closed_after p = grind (arith, common_steps)

  turned_as : (c : Call) (e : Event) (p : Phase) → phase_after s.phase e ≡ p → Outcome u places s t c (settled (with_phase st p) (swept u (with_phase st p) rows)) → Outcome u places s t c (turned u st e rows)
  turned_as c e p q o = subst (λ (x : Phase). Outcome u places s t c (settled (with_phase st x) (swept u (with_phase st x) rows))) (sym q) o

  pub halt_outcome : Clear (event_matter st event.Halt entries rows) → Outcome u places s t Halt (turned u st event.Halt rows)
  halt_outcome cl = turned_as Halt event.Halt phase.Halted (halted_after s.phase cl.wrong_phase) (plain_kept Halt refl refl refl refl refl (λ fs. refl) (λ r. refl))

  pub resume_outcome : Clear (event_matter st event.Resume entries rows) → Outcome u places s t Resume (turned u st event.Resume rows)
  resume_outcome cl = turned_as Resume event.Resume phase.Open (opened_after s.phase cl.wrong_phase) (plain_kept Resume refl refl refl refl refl (λ fs. refl) (λ r. refl))

  pub close_outcome : Outcome u places s t Close (turned u st event.Close rows)
  close_outcome = turned_as Close event.Close phase.Closed (closed_after s.phase) (plain_kept Close refl refl refl refl refl (λ fs. refl) (λ r. refl))

-- An accepted entry keeps the law.
use Rattle.std.proofs.Common.{◌≡◌, ℕ, ◌+◌, ◌-◌, ◌≤◌, Bool, true, false, cond, not, ◌&&◌, eqb, ◌⊎◌, List, [], ◌++◌, length, get_or, set, is_some, Some, None, Ok, Option, sym, refl, ap, ◌∙◌, subst, inl, inr, arith}
use Rattle.std.proofs.lemmas.Grind.{common_steps}
use Rattle.std.proofs.lemmas.List.{get_or-set_same, length-append, length-set}
use Rattle.std.proofs.lemmas.Bool.{eq-eqb, ltb-false, not-false, false≢true}
use Rattle.orders.specs.Codes.{kind_of}
use Rattle.orders.specs.Ranges.{last_stamp}
use Rattle.orders.specs.Rows.{order_of, row_of, entry_row, cleared}
use Rattle.orders.specs.declared.call.Call.{Call}
use Rattle.orders.specs.declared.call.Call.TheVariants.{Enter}
use Rattle.orders.specs.declared.call.Fill.{Fill}
use Rattle.orders.specs.declared.call.Receipt.{Receipt}
use Rattle.orders.specs.declared.entry.Entry.{Entry}
use Rattle.orders.specs.declared.lot.Lot.{Lot}
use Rattle.orders.specs.declared.order.Order.{Order}
use Rattle.orders.specs.declared.row.Row.{Row}
use Rattle.matching.specs.Market.{Market}
use Rattle.matching.specs.Runs.{Done, ended, run}
use Rattle.matching.specs.Sweeps.{Swept}
use Rattle.matching.proofs.Foremost.{Lawful}
use Rattle.std.proofs.lemmas.Option.{none-some}
use Rattle.matching.proofs.Rows.{row_is}
use Rattle.places.specs.Phases.{is_open}
use Rattle.places.specs.Places.{free_place, placed, left_at}
use Rattle.places.specs.Remainders.{rests_as}
use Rattle.places.specs.declared.phase.Phase.{Phase}
use Rattle.places.specs.declared.phase.Phase.TheVariants as phase
use Rattle.book.specs.States.{State, Rules}
use Rattle.book.specs.Causes.{entry_matter}
use Rattle.book.specs.Calls.{tried, swept, stays_as, resting, entered}
use Rattle.book.proofs.Admitted.{Clear}
use Rattle.day.specs.Sheets.{Orders, Sheet, put, written, took_all, leaves, accepted, left_of, takes_all}
use Rattle.day.specs.Fairness.{market_on, AllFair}
use Rattle.day.specs.Trades.{IfOpen, Own, Traded}
use Rattle.day.specs.Receipts.{Receipted}
use Rattle.day.specs.Balances.{Tally, tallied, Balanced}
use Rattle.day.specs.Law.{Holds, Settled}
use Rattle.day.proofs.Keeping.{state_on, Sound, Aside}
use Rattle.day.proofs.Runnings.{run_law}
use Rattle.day.proofs.Looking.{some_is, free_holds, held_is}
use Rattle.day.proofs.Putting.{put_same, row_order, cleared_none}
use Rattle.day.proofs.Staying.{Stays, stays_same, run_stays}
use Rattle.day.proofs.Writing.{unused, enter_aside, FreeAt, rest_by, placed_at}
use Rattle.day.proofs.Leaving.{leaves_fair}
use Rattle.day.proofs.Finishing.{Ready, Finished, finish, left_at_lem, left_not}

-- what is known after an accepted call
pub record Kept (u : Rules) (places : ℕ) (s : Sheet) (t : Tally) (c : Call) (r : Receipt) (fs : List Fill) (rows : List Row) (st : State) : Type 0 where
  pub traded : Traded u s c fs
  pub receipted : Receipted s (accepted c fs s).orders c r fs
  pub fair : AllFair (market_on u (written c s)) (written c s).orders fs
  pub sound : Sound places (written c s).next (accepted c fs s).orders rows
  pub settled : Settled u (accepted c fs s)
  pub balanced : Balanced (tallied c (Ok r) fs s t) rows
  pub state : st ≡ state_on places (accepted c fs s)
  pub low : 1 ≤ (written c s).next

-- a finished call, once its receipt and the tally after it are known
pub kept_of : (u : Rules) (places : ℕ) (s : Sheet) (t : Tally) (c : Call) (own : List Fill) (rows : List Row) (w : Swept) (r : Receipt) (st : State) → Finished u places s c own rows w
    → Receipted s (accepted c (own ++ w.fills) s).orders c r (own ++ w.fills) → Balanced (tallied c (Ok r) (own ++ w.fills) s t) w.rows → st ≡ state_on places (accepted c (own ++ w.fills) s) → 1 ≤ (written c s).next
    → Kept u places s t c r (own ++ w.fills) w.rows st
kept_of u places s t c own rows w r st fin receipted balanced state low =
    record { traded = fin.traded; receipted = receipted; fair = fin.fair; sound = fin.sound; settled = fin.settled; balanced = balanced; state = state; low = low }

-- an entry that the terms take makes an order
abbrev pub Taken : Rules → Type 0
Taken u = (e : Entry) (lot : Lot) → u.verdict e lot ≡ Ok tt → (stamp : ℕ) → 1 ≤ stamp → stamp ≤ last_stamp → is_some (order_of (entry_row e stamp)) ≡ true

-- what a run, or none, does on the sheet
record Ran (m : Market) (places next k : ℕ) (s : Orders) (rows : List Row) (p : Phase) (d : Done) : Type 0 where
  goes : IfOpen p (Own m k false s d.fills) (d.fills ≡ [])
  fair : AllFair m s d.fills
  aside : Aside places next k d.active (took_all d.fills s) d.rows
  stays : Stays rows d.rows

module _ (m : Market) (lawful : Lawful m.before) (places next k : ℕ) (r : Row) (s : Orders) (rows : List Row) (aside : Aside places next k r s rows) where
  run_ends : (p : Phase) → Ran m places next k s rows p (cond {A = Done} (is_open p) (run m (length rows) false r rows) (ended r rows))
  run_ends phase.Open =
      let t = run_law m lawful (length rows) false places next k r s rows aside (omega arith) in
      record { goes = t.0; fair = t.1; aside = t.2; stays = run_stays m (length rows) false r rows }
  run_ends phase.Halted = record { goes = refl; fair = tt; aside = aside; stays = stays_same rows }
  run_ends phase.Closed = record { goes = refl; fair = tt; aside = aside; stays = stays_same rows }

-- a place that was free stays so
still_free : (rows rows' : List Row) (i : ℕ) → Stays rows rows' → order_of (get_or rows i cleared) ≡ None → (b : Option Order) → order_of (get_or rows' i cleared) ≡ b → b ≡ None
still_free rows rows' i stays f None q = refl
still_free rows rows' i stays f (Some o) q = let w = stays i o q in absurd (none-some w.0 (sym f ∙ w.1))

active_left : (r : Row) (b : Option Order) (k : ℕ) → ((r ≡ cleared) × (b ≡ None)) ⊎ ((a : Order) × (r ≡ row_of a) × (b ≡ Some a) × (a.number ≡ k)) → left_of b ≡ r.left
active_left r b k h = grind (arith, common_steps)

-- what leaves of the sheet with an order of a kind that does not rest
left_leaves : (b : Bool) (k : ℕ) (x : Orders) (n : ℕ) → left_of (x n) ≡ left_of (cond {A = Orders} (not b) (put k None x) x n) + cond {A = ℕ} (eqb n k) (cond {A = ℕ} b 0 (left_of (x k))) 0
left_leaves b k x n = grind (arith, common_steps)

-- what is told as resting of the order that was active
module _ (places next k : ℕ) (r : Row) (x : Orders) (rows : List Row) (aside : Aside places next k r x rows) (y : Orders) (rows' : List Row) (h' : Holds places y rows') where
  told_if : (place : Option ℕ) → FreeAt rows place
      → Holds places x (placed place (is_some (order_of r)) r rows) → Stays (placed place (is_some (order_of r)) r rows) rows' → (left_of (x k) ≡ 0 → left_of (y k) ≡ 0)
      → ((r ≡ cleared) × (x k ≡ None)) ⊎ ((a : Order) × (r ≡ row_of a) × (x k ≡ Some a) × (a.number ≡ k))
      → left_at place (is_some (order_of r)) rows' ≡ left_of (y k)
  told_if place f h stays zero (inl w) =
      ap (λ (b : Bool). left_at place b rows') (ap is_some (cleared_none r w.0)) ∙ left_not place rows' ∙ sym (zero (ap left_of w.1))
  told_if place f h stays zero (inr w) =
      let s : is_some (order_of r) ≡ true = ap is_some (row_order r w.0 w.1) in
      let p : placed place (is_some (order_of r)) r rows ≡ set rows f.0 r = ap (λ (b : Bool). placed place b r rows) s ∙ ap (λ (z : Option ℕ). placed z true r rows) f.1 ∙ placed_at f.0 r rows f.2 in
      ap (λ (b : Bool). left_at place b rows') s ∙ ap (λ (z : Option ℕ). left_at z true rows') f.1
      ∙ left_at_lem places x y (set rows f.0 r) rows' (subst (λ (l : List Row). Holds places x l) p h) h' (subst (λ (l : List Row). Stays l rows') p stays) f.0 w.0 (omega (arith, length-set rows f.0 r, f.2))
      (ap order_of (get_or-set_same rows f.0 r cleared f.2) ∙ row_order r w.0 w.1)
      ∙ ap (λ (n : ℕ). left_of (y n)) w.3

  told_left : (b : Bool) (place : Option ℕ) → (b ≡ true → FreeAt rows place)
      → Holds places (cond {A = Orders} (not b) (put k None x) x) (placed place (b && is_some (order_of r)) r rows) → Stays (placed place (b && is_some (order_of r)) r rows) rows'
      → (left_of (cond {A = Orders} (not b) (put k None x) x k) ≡ 0 → left_of (y k) ≡ 0)
      → left_at place (b && is_some (order_of r)) rows' ≡ left_of (y k)
  told_left true place f h stays zero = told_if place (f refl) h stays zero aside.active
  told_left false place f h stays zero = left_not place rows' ∙ sym (zero (ap left_of (put_same k None x k refl)))

module _ (u : Rules) (lawful : Lawful u.before) (taken : Taken u) (places entries : ℕ) (s : Sheet) (t : Tally) (rows : List Row)
    (sound : Sound places s.next s.orders rows) (balanced : Balanced t rows) (low : 1 ≤ s.next)
    (e : Entry) (cl : Clear (entry_matter u (state_on places s) e entries rows)) where
  abbrev k : ℕ
  k = s.next

  abbrev r : Row
  r = entry_row e k

  abbrev rests : Bool
  rests = rests_as (kind_of e.kind)

  order : (a : Order) × (order_of r ≡ Some a)
  order = some_is (order_of r) (taken e s.lot cl.verdict k low (ltb-false last_stamp k cl.no_stamp))

  abbrev x₁ : Orders
  x₁ = (written (Enter e) s).orders

  abbrev d : Done
  d = tried u (state_on places s) r rows

  ran : Ran (market_on u s) places (k + 1) k x₁ rows s.phase d
  ran = run_ends (market_on u s) lawful places (k + 1) k r x₁ rows (enter_aside places k s.orders rows sound e order.0 order.1) s.phase

  abbrev x₂ : Orders
  x₂ = took_all d.fills x₁

  free_if : (b : Bool) → (b && not (is_some (free_place rows))) ≡ false → b ≡ true → FreeAt d.rows (free_place rows)
  free_if true f q =
      let i = some_is (free_place rows) (not-false (is_some (free_place rows)) f) in
      let h = free_holds places s.orders rows sound.holds i.0 i.1 in
      (i.0, i.1, omega (arith, h.0, sound.holds.size, ran.aside.holds.size), still_free rows d.rows i.0 ran.stays h.1 (order_of (get_or d.rows i.0 cleared)) refl)
  free_if false f q = absurd (false≢true q)

  free : rests ≡ true → FreeAt d.rows (free_place rows)
  free = free_if rests cl.no_place

  ready : Ready u places s (Enter e) d.fills (resting e rows d)
  ready = record {
    goes = ran.goes;
    fair = ran.fair;
    sound = rest_by places (k + 1) k d.active x₂ d.rows ran.aside rests (free_place rows) free;
    back = λ fs f. leaves_fair (market_on u s) (Enter e) k fs x₂ ran.aside.youngest f;
  }

  abbrev w : Swept
  w = swept u (state_on places s) (resting e rows d)

  fin : Finished u places s (Enter e) d.fills (resting e rows d) w
  fin = finish u lawful places s (Enter e) d.fills (resting e rows d) ready

  abbrev fs : List Fill
  fs = d.fills ++ w.fills

  abbrev y : Orders
  y = (accepted (Enter e) fs s).orders

  first_left : left_of (x₁ k) ≡ e.shares
  first_left = ap left_of (put_same k (order_of r) s.orders k refl ∙ order.1) ∙ ap (λ (z : Row). z.left) (row_is r order.0 order.1)

  run_left : left_of (x₂ k) ≡ d.active.left
  run_left = grind (arith, active_left, ran)

  abbrev gone : ℕ
  gone = cond {A = ℕ} rests 0 d.active.left

  leave : (n : ℕ) → left_of (x₂ n) ≡ left_of (leaves (Enter e) k x₂ n) + cond {A = ℕ} (eqb n k) gone 0
  leave n = grind (arith, left_leaves, run_left)

  leave_here : left_of (x₂ k) ≡ left_of (leaves (Enter e) k x₂ k) + gone
  leave_here = leave k ∙ ap (λ (b : Bool). left_of (leaves (Enter e) k x₂ k) + cond {A = ℕ} b gone 0) (eq-eqb k k refl)

  abbrev told : ℕ
  told = left_at (free_place rows) (stays_as e d) w.rows

  told_is : told ≡ left_of (y k)
  told_is =
      told_left places (k + 1) k d.active x₂ d.rows ran.aside y w.rows fin.sound.holds rests (free_place rows) free ready.sound.holds fin.stays
      (λ z. let h = fin.swept_left k in omega (arith, h, z))

  filled_is : e.shares - told - gone ≡ takes_all fs k
  filled_is = grind (arith, fin.own_left, fin.swept_left, fin.takes, first_left, leave_here, told_is)

  at_once : (b : Bool) → left_of (cond {A = Orders} (not b) (put k None x₂) x₂ k) ≡ takes_all w.fills k + left_of (y k) → b ≡ false → takes_all w.fills k ≡ 0
  at_once b h q = grind (arith, common_steps)

  gone_is : gone ≡ cond {A = ℕ} rests 0 (e.shares - takes_all fs k)
  gone_is = grind (arith, fin.own_left, fin.swept_left, fin.takes, first_left, leave_here, run_left, at_once)

  entered_left : (n : ℕ) → left_of (x₁ n) ≡ left_of (s.orders n) + cond {A = ℕ} (eqb n k) e.shares 0
  entered_left n = grind (arith, common_steps, first_left, unused, sound.stamped)

  abbrev reply : Receipt
  reply = record { number = k; filled = e.shares - told - gone; resting = told; cancelled = gone; fills = length d.fills + length w.fills }

  pub enter_kept : Kept u places s t (Enter e) reply fs w.rows (entered u (state_on places s) e rows).state
  enter_kept =
      kept_of u places s t (Enter e) d.fills (resting e rows d) w reply (entered u (state_on places s) e rows).state fin
      (record { order = (refl, filled_is, told_is); cancelled = gone_is; count = sym (length-append d.fills w.fills) })
      (λ n. grind (arith, fin.own_left n, fin.swept_left n, fin.takes n, fin.held n, balanced n, held_is places s.orders rows sound.holds n, entered_left n, leave n))
      refl (omega (arith, low))

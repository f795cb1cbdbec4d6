-- The end of an accepted call: the sweep, and what is then known.
use Rattle.std.proofs.Common.{◌≡◌, ℕ, ◌+◌, ◌<◌, Bool, true, false, cond, eqb, List, [], ◌++◌, length, get_or, Some, None, Option, sym, refl, ap, ◌∙◌, subst, arith}
use Rattle.std.proofs.lemmas.Grind.{common_steps}
use Rattle.std.proofs.lemmas.Bool.{lt-ltb}
use Rattle.orders.specs.Rows.{order_of, cleared}
use Rattle.orders.specs.declared.call.Call.{Call}
use Rattle.orders.specs.declared.call.Fill.{Fill}
use Rattle.orders.specs.declared.order.Order.{Order}
use Rattle.orders.specs.declared.row.Row.{Row}
use Rattle.matching.specs.Market.{Market}
use Rattle.matching.specs.Sweeps.{Swept, still, sweep}
use Rattle.matching.proofs.Foremost.{Lawful}
use Rattle.std.proofs.lemmas.Option.{none-some, same_Some}
use Rattle.places.specs.Phases.{is_open}
use Rattle.places.specs.Places.{left_at}
use Rattle.places.specs.declared.phase.Phase.{Phase}
use Rattle.places.specs.declared.phase.Phase.TheVariants as phase
use Rattle.book.specs.States.{Rules}
use Rattle.book.specs.Calls.{swept}
use Rattle.day.specs.Sheets.{Orders, Sheet, put, written, took_all, leaves, accepted, left_of, takes_all}
use Rattle.day.specs.Fairness.{market_on, AllFair, Quiet}
use Rattle.day.specs.Trades.{IfOpen, InTurn, OwnFills, Traded}
use Rattle.day.specs.Balances.{held}
use Rattle.day.specs.Law.{Holds, Settled}
use Rattle.day.proofs.Keeping.{state_on, Sound}
use Rattle.day.proofs.Shares.{fair_left}
use Rattle.day.proofs.Sweepings.{sweep_law}
use Rattle.day.proofs.Looking.{held_is}
use Rattle.day.proofs.Putting.{row_order}
use Rattle.day.proofs.Staying.{Stays, stays_same, sweep_stays}
use Rattle.day.proofs.Leaving.{leaves_took, took_append, takes_append, fair_append, turns_quiet}

-- what a sweep, or none, does on the sheet
record Ended (m : Market) (places next : ℕ) (s : Orders) (rows : List Row) (p : Phase) (w : Swept) : Type 0 where
  turns : IfOpen p (InTurn m s w.fills) (w.fills ≡ [])
  fair : AllFair m s w.fills
  sound : Sound places next (took_all w.fills s) w.rows
  stays : Stays rows w.rows
  settled : IfOpen p (Quiet m (took_all w.fills s)) (Unit {0})

module _ (m : Market) (lawful : Lawful m.before) (places next : ℕ) (s : Orders) (rows : List Row) (sound : Sound places next s rows) where
  sweep_ends : (p : Phase) → Ended m places next s rows p (cond {A = Swept} (is_open p) (sweep m (length rows) rows) (still rows))
  sweep_ends phase.Open =
      let t = sweep_law m lawful (length rows) places next s rows sound (omega arith) in
      record {
        turns = t.0;
        fair = t.1;
        sound = t.2;
        stays = sweep_stays m (length rows) rows;
        settled = turns_quiet m (sweep m (length rows) rows).fills s t.0;
      }
  sweep_ends phase.Halted = record { turns = refl; fair = tt; sound = sound; stays = stays_same rows; settled = tt }
  sweep_ends phase.Closed = record { turns = refl; fair = tt; sound = sound; stays = stays_same rows; settled = tt }

-- before the sweep of an accepted call
pub record Ready (u : Rules) (places : ℕ) (s : Sheet) (c : Call) (own : List Fill) (rows : List Row) : Type 0 where
  pub goes : OwnFills u s c own
  pub fair : AllFair (market_on u (written c s)) (written c s).orders own
  pub sound : Sound places (written c s).next (leaves c s.next (took_all own (written c s).orders)) rows
  pub back : (fs : List Fill) → AllFair (market_on u (written c s)) (leaves c s.next (took_all own (written c s).orders)) fs → AllFair (market_on u (written c s)) (took_all own (written c s).orders) fs

-- and after it
pub record Finished (u : Rules) (places : ℕ) (s : Sheet) (c : Call) (own : List Fill) (rows : List Row) (w : Swept) : Type 0 where
  pub traded : Traded u s c (own ++ w.fills)
  pub fair : AllFair (market_on u (written c s)) (written c s).orders (own ++ w.fills)
  pub sound : Sound places (written c s).next (accepted c (own ++ w.fills) s).orders w.rows
  pub settled : Settled u (accepted c (own ++ w.fills) s)
  pub stays : Stays rows w.rows
  pub own_left : (n : ℕ) → left_of ((written c s).orders n) ≡ takes_all own n + left_of (took_all own (written c s).orders n)
  pub swept_left : (n : ℕ) → left_of (leaves c s.next (took_all own (written c s).orders) n) ≡ takes_all w.fills n + left_of ((accepted c (own ++ w.fills) s).orders n)
  pub takes : (n : ℕ) → takes_all (own ++ w.fills) n ≡ takes_all own n + takes_all w.fills n
  pub held : (n : ℕ) → held n w.rows ≡ left_of ((accepted c (own ++ w.fills) s).orders n)

module _ (u : Rules) (lawful : Lawful u.before) (places : ℕ) (s : Sheet) (c : Call) (own : List Fill) (rows : List Row) (ready : Ready u places s c own rows) where
  abbrev m : Market
  m = market_on u (written c s)

  abbrev x : Orders
  x = leaves c s.next (took_all own (written c s).orders)

  abbrev w : Swept
  w = swept u (state_on places (written c s)) rows

  ended : Ended m places (written c s).next x rows (written c s).phase w
  ended = sweep_ends m lawful places (written c s).next x rows ready.sound (written c s).phase

  abbrev y : Orders
  y = (accepted c (own ++ w.fills) s).orders

  y_is : y ≡ took_all w.fills x
  y_is = ap (leaves c s.next) (took_append own w.fills (written c s).orders) ∙ leaves_took c s.next w.fills (took_all own (written c s).orders)

  quiet_on : (p : Phase) → IfOpen p (Quiet m (took_all w.fills x)) (Unit {0}) → IfOpen p (Quiet m y) (Unit {0})
  quiet_on phase.Open q = subst (λ (o : Orders). Quiet m o) (sym y_is) q
  quiet_on phase.Halted q = tt
  quiet_on phase.Closed q = tt

  pub finish : Finished u places s c own rows w
  finish =
      let e = ended in
      let sound : Sound places (written c s).next y w.rows = subst (λ (o : Orders). Sound places (written c s).next o w.rows) (sym y_is) e.sound in
      record {
        traded = record { own = own; swept = w.fills; parts = refl; goes = ready.goes; turns = e.turns };
        fair = fair_append m own w.fills (written c s).orders ready.fair (ready.back w.fills e.fair);
        sound = sound;
        settled = quiet_on (written c s).phase e.settled;
        stays = e.stays;
        own_left = fair_left m (written c s).orders own ready.fair;
        swept_left = λ n. fair_left m x w.fills e.fair n ∙ ap (λ (o : Orders). takes_all w.fills n + left_of (o n)) (sym y_is);
        takes = takes_append own w.fills;
        held = held_is places y w.rows sound.holds;
      }

-- what lies in a place after a sweep is what is left of the order that lay there
module _ (places : ℕ) (x y : Orders) (rows rows' : List Row) (h : Holds places x rows) (h' : Holds places y rows') (stays : Stays rows rows') (i : ℕ) (a : Order) (l : i < length rows) (e : order_of (get_or rows i cleared) ≡ Some a) where
  within : i < length rows'
  within = omega (arith, h.size, h'.size)

  same_number : (o : Order) → order_of (get_or rows' i cleared) ≡ Some o → o.number ≡ a.number
  same_number o q = let w = stays i o q in w.2 ∙ ap (λ (z : Order). z.number) (same_Some w.0 a (sym w.1 ∙ e))

  same_place : (k : ℕ) (o : Order) → k < length rows' → order_of (get_or rows' k cleared) ≡ Some o → o.number ≡ a.number → k ≡ i
  same_place k o lk q n = let w = stays k o q in h.once k i w.0 a (omega (arith, h.size, h'.size)) l w.1 e (sym w.2 ∙ n)

  left_none : order_of (get_or rows' i cleared) ≡ None → (b : Option Order) → y a.number ≡ b → 0 ≡ left_of b
  left_none q None t = refl
  left_none q (Some o) t =
      let w = h'.all a.number o t in
      let k = same_place w.0 o w.1 (row_order (get_or rows' w.0 cleared) o w.2) w.3 in
      absurd (none-some o (sym q ∙ ap (λ (j : ℕ). order_of (get_or rows' j cleared)) (sym k) ∙ row_order (get_or rows' w.0 cleared) o w.2))

  left_if : (b : Option Order) → order_of (get_or rows' i cleared) ≡ b → (get_or rows' i cleared).left ≡ left_of (y a.number)
  left_if None q = ap (λ (r : Row). r.left) (h'.free i within q) ∙ left_none q (y a.number) refl
  left_if (Some o) q =
      let n = same_number o q in
      let s = ap y (sym n) ∙ h'.only i o within q in
      let w = h'.all a.number o s in
      let k = same_place w.0 o w.1 (row_order (get_or rows' w.0 cleared) o w.2) w.3 in
      ap (λ (j : ℕ). (get_or rows' j cleared).left) (sym k) ∙ ap (λ (r : Row). r.left) w.2 ∙ sym (ap left_of s)

  pub left_at_lem : left_at (Some i) true rows' ≡ left_of (y a.number)
  left_at_lem = ap (λ (b : Bool). cond {A = ℕ} b (get_or rows' i cleared).left 0) (lt-ltb i (length rows') within) ∙ left_if (order_of (get_or rows' i cleared)) refl

pub left_not : (place : Option ℕ) (rows : List Row) → left_at place false rows ≡ 0
left_not place rows = grind (arith, common_steps)

-- shares left where one number of the sheet is written
pub put_left : (k : ℕ) (b : Option Order) (s : Orders) (n : ℕ) → left_of (put k b s n) ≡ cond {A = ℕ} (eqb n k) (left_of b) (left_of (s n))
put_left k b s n = grind arith

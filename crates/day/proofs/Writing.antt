-- A call is written on the sheet and into the places alike.
use Rattle.std.proofs.Common.{◌≡◌, ℕ, ◌+◌, ◌<◌, ◌≤◌, Bool, true, false, cond, not, ◌&&◌, ◌||◌, eqb, leb, ◌⊎◌, List, length, get_or, set, is_some, Some, None, Option, sym, refl, ap, ◌∙◌, subst, inl, inr, ⊎_elim, arith}
use Rattle.std.proofs.lemmas.Grind.{common_steps}
use Rattle.std.proofs.lemmas.Bool.Decides.{nat_tests}
use Rattle.orders.specs.Grid.{on_grid}
use Rattle.orders.specs.Kinds.{most_shares}
use Rattle.orders.specs.Ranges.{shares_fit, broker_fits, stamp_fits, last_stamp}
use Rattle.orders.specs.Rows.{order_of, row_of, entry_row, cleared, codes_fit, row_fits}
use Rattle.orders.specs.declared.entry.Entry.{Entry}
use Rattle.orders.specs.declared.order.Order.{Order}
use Rattle.orders.specs.declared.row.Row.{Row}
use Rattle.orders.proofs.Decoding.{order_back, order_test}
use Rattle.std.proofs.lemmas.Option.{none-some, same_Some}
use Rattle.matching.proofs.Rows.{row_is}
use Rattle.orders.specs.Amendments.{loses_time, amended_row, amended_entry}
use Rattle.places.specs.Places.{placed}
use Rattle.day.specs.Sheets.{Orders, put}
use Rattle.day.specs.Law.{Holds}
use Rattle.day.proofs.Keeping.{Stamped, Sound, Aside}
use Rattle.day.proofs.Looking.{some_is}
use Rattle.day.proofs.Putting.{put_same, put_other, row_order, cleared_none, RowFor, Place, place_of, write_holds}

-- nothing stands under a number yet
pub unused : (next : ℕ) (s : Orders) → Stamped next s → (b : Option Order) → s next ≡ b → s next ≡ None
unused next s h b q = grind (arith, common_steps)

-- to put nothing where nothing stands changes nothing
pub put_none : (k : ℕ) (s : Orders) → s k ≡ None → put k None s ≡ s
put_none k s e = grind arith

pub put_back : (k : ℕ) (o : Option Order) (s : Orders) → s k ≡ None → put k None (put k o s) ≡ s
put_back k o s e = grind arith

-- the sheet with another order under one number: its stamp is that of the one that stood there, or a new one
put_stamped : (next next' k : ℕ) (b : Option Order) (s : Orders) → Stamped next s → next ≤ next' → k < next'
    → ((p : Order) → b ≡ Some p → (p.stamp < next') × (((o : Order) × (s k ≡ Some o) × (p.stamp ≡ o.stamp)) ⊎ (next ≤ p.stamp)))
    → Stamped next' (put k b s)
put_stamped next next' k b s h l lk f = grind arith

pub gone_stamped : (next k : ℕ) (s : Orders) → Stamped next s → Stamped next (put k None s)
gone_stamped next k s h = grind arith

-- the order that comes in is active
module _ (places next : ℕ) (s : Orders) (rows : List Row) (sound : Sound places next s rows) (e : Entry) (a : Order) (q : order_of (entry_row e next) ≡ Some a) where
  row : row_of a ≡ entry_row e next
  row = row_is (entry_row e next) a q

  stamp_is : a.stamp ≡ next
  stamp_is = ap (λ (r : Row). r.stamp) row

  abbrev t : Orders
  t = put next (order_of (entry_row e next)) s

  new : (x : Order) → t next ≡ Some x → x.stamp ≡ next
  new x r = ap (λ (y : Order). y.stamp) (same_Some x a (sym r ∙ put_same next (order_of (entry_row e next)) s next refl ∙ q)) ∙ stamp_is

  old : (n : ℕ) (x : Order) → t n ≡ Some x → (n ≡ next → ⊥) → (x.stamp < next) × (n < next)
  old n x r ne = sound.stamped.young n x (sym (put_other next (order_of (entry_row e next)) s n ne) ∙ r)

  pub enter_aside : Aside places (next + 1) next (entry_row e next) t rows
  enter_aside = record {
    holds = subst (λ (x : Orders). Holds places x rows) (sym (put_back next (order_of (entry_row e next)) s (unused next s sound.stamped (s next) refl))) sound.holds;
    stamped = put_stamped next (next + 1) next (order_of (entry_row e next)) s sound.stamped (omega arith) (omega arith)
        (λ p r. let z : p.stamp ≡ next = ap (λ (y : Order). y.stamp) (same_Some p a (sym r ∙ q)) ∙ stamp_is in (omega (arith, z), inr (omega (arith, z))));
    active = inr (a, sym row, put_same next (order_of (entry_row e next)) s next refl ∙ q, ap (λ (r : Row). r.number) row);
    last = λ n o r ne. (old n o r ne).1;
    youngest = λ x o n rx ro ne. let z = new x rx in let y = old n o ro ne in omega (arith, z, y.0);
  }

-- the active order leaves, or its remainder rests
pub placed_not : (place : Option ℕ) (r : Row) (rows : List Row) → placed place false r rows ≡ rows
placed_not place r rows = grind (arith, common_steps)

pub placed_at : (i : ℕ) (r : Row) (rows : List Row) → i < length rows → placed (Some i) true r rows ≡ set rows i r
placed_at i r rows h = grind arith

-- a place of these rows that is free
abbrev pub FreeAt : List Row → Option ℕ → Type 0
FreeAt rows place = (i : ℕ) × (place ≡ Some i) × (i < length rows) × (order_of (get_or rows i cleared) ≡ None)

module _ (places next k : ℕ) (r : Row) (s : Orders) (rows : List Row) (aside : Aside places next k r s rows) where
  pub leave_sound : Sound places next (put k None s) rows
  leave_sound = record { holds = aside.holds; stamped = gone_stamped next k s aside.stamped }

  pub spent_sound : s k ≡ None → Sound places next s rows
  spent_sound e = record { holds = subst (λ (x : Orders). Holds places x rows) (put_none k s e) aside.holds; stamped = aside.stamped }

  pub rest_sound : (a : Order) → r ≡ row_of a → s k ≡ Some a → a.number ≡ k → (i : ℕ) → i < length rows → order_of (get_or rows i cleared) ≡ None → Sound places next s (set rows i r)
  rest_sound a er q en i l f = record {
    holds = write_holds places (put k None s) rows aside.holds i k
        (record { within = l; mine = λ o w. absurd (none-some o (sym f ∙ w)); here = λ o w. absurd (none-some o (sym (put_same k None s k refl) ∙ w)) })
        r (inr (a, er, en)) s (q ∙ sym (row_order r a er)) (λ n ne. sym (put_other k None s n ne));
    stamped = aside.stamped;
  }

  rest_if : (place : Option ℕ) → FreeAt rows place
      → ((r ≡ cleared) × (s k ≡ None)) ⊎ ((a : Order) × (r ≡ row_of a) × (s k ≡ Some a) × (a.number ≡ k))
      → Sound places next s (placed place (is_some (order_of r)) r rows)
  rest_if place f (inl w) =
      subst (λ (x : List Row). Sound places next s x)
      (sym (ap (λ (b : Bool). placed place b r rows) (ap is_some (cleared_none r w.0)) ∙ placed_not place r rows))
      (spent_sound w.1)
  rest_if place f (inr w) =
      subst (λ (x : List Row). Sound places next s x)
      (sym (ap (λ (b : Bool). placed place b r rows) (ap is_some (row_order r w.0 w.1)) ∙ ap (λ (x : Option ℕ). placed x true r rows) f.1 ∙ placed_at f.0 r rows f.2))
      (rest_sound w.0 w.1 w.2 w.3 f.0 f.2 f.3)

  pub rest_by : (b : Bool) (place : Option ℕ) → (b ≡ true → FreeAt rows place) → Sound places next (cond {A = Orders} (not b) (put k None s) s) (placed place (b && is_some (order_of r)) r rows)
  rest_by true place f = rest_if place (f refl) aside.active
  rest_by false place f = subst (λ (x : List Row). Sound places next (put k None s) x) (sym (placed_not place r rows)) leave_sound

-- the row of an order is written anew in its place
module _ (places next : ℕ) (s : Orders) (rows : List Row) (sound : Sound places next s rows) (n i : ℕ) (o : Order)
    (q : s n ≡ Some o) (l : i < length rows) (e : get_or rows i cleared ≡ row_of o) (en : o.number ≡ n) where
  pub rewrite_sound : (b : Option Order) (v : Row) (next' : ℕ) → RowFor n v → b ≡ order_of v → next ≤ next'
      → ((p : Order) → b ≡ Some p → (p.stamp < next') × ((p.stamp ≡ o.stamp) ⊎ (next ≤ p.stamp)))
      → Sound places next' (put n b s) (set rows i v)
  rewrite_sound b v next' for eb ln f = record {
    holds = write_holds places s rows sound.holds i n
        (subst (λ (k : ℕ). Place s rows i k) en (place_of places s rows sound.holds i o l (row_order (get_or rows i cleared) o e)))
        v for (put n b s) (put_same n b s n refl ∙ eb) (λ m ne. put_other n b s m ne);
    stamped = put_stamped next next' n b s sound.stamped ln (let y = sound.stamped.young n o q in omega (arith, y.1))
        (λ p r. let w = f p r in (w.0, ⊎_elim (λ z. inl (o, q, z)) (λ z. inr z) w.1));
  }

  -- a cancelled order leaves its place cleared
  pub cancel_sound : Sound places next (put n None s) (set rows i cleared)
  cancel_sound = rewrite_sound None cleared next (inl refl) refl (omega arith) (λ p r. absurd (none-some p r))

-- the tests of an amended row, from those of the row before and of the entry that it is judged as
module _ (r : Row) (shares limit next : ℕ) where
  abbrev limit_test : ℕ → Bool
  limit_test n = cond (leb 3 r.kind && leb r.kind 5) (eqb n 0) (on_grid n)

  abbrev minimum_test : ℕ → Bool
  minimum_test n = cond (eqb r.kind 3 || eqb r.kind 8) (eqb n 0) (leb n most_shares)

  -- the parts of the three rows, whatever they say
  parts : (codes left size broker stamp number limit minimum hidden left' limit' minimum' stamp' : Bool)
      → (codes && ((left && size && broker && stamp && number) && (limit && minimum && hidden))) ≡ true
      → (codes && ((left' && left' && broker && true && true) && (limit' && minimum' && hidden))) ≡ true
      → (stamp ≡ true → stamp' ≡ true)
      → (codes && ((left' && left' && broker && stamp' && number) && (limit' && minimum && hidden))) ≡ true
  parts codes left size broker stamp number limit minimum hidden left' limit' minimum' stamp' e f g = grind arith

  stamped_fits : (b : Bool) → 1 ≤ next → (b ≡ true → next ≤ last_stamp) → stamp_fits r.stamp ≡ true → stamp_fits (cond {A = ℕ} b next r.stamp) ≡ true
  stamped_fits b low high f = grind (arith, nat_tests)

  amended_fits : row_fits r ≡ true → row_fits (entry_row (amended_entry r shares limit) 1) ≡ true → 1 ≤ next → (loses_time r shares limit ≡ true → next ≤ last_stamp) → row_fits (amended_row r shares limit next) ≡ true
  amended_fits e f low high =
      parts (codes_fit r.side r.kind r.mark r.hidden)
      (shares_fit r.left) (shares_fit r.size) (broker_fits r.broker) (stamp_fits r.stamp) (stamp_fits r.number) (limit_test r.limit) (minimum_test r.minimum) (eqb r.kind 1 || eqb r.hidden 0)
      (shares_fit shares) (limit_test limit) (minimum_test (amended_entry r shares limit).minimum) (stamp_fits (amended_row r shares limit next).stamp)
      e f (stamped_fits (loses_time r shares limit) low high)

-- an amended order is one, if the entry that it is judged as makes one
module _ (o : Order) (shares limit next : ℕ) (taken : is_some (order_of (entry_row (amended_entry (row_of o) shares limit) 1)) ≡ true) (low : 1 ≤ next) (high : loses_time (row_of o) shares limit ≡ true → next ≤ last_stamp) where
  abbrev v : Row
  v = amended_row (row_of o) shares limit next

  pub amended_order : (p : Order) × (order_of v ≡ Some p) × (v ≡ row_of p)
  amended_order =
      let fits : row_fits v ≡ true =
      amended_fits (row_of o) shares limit next (sym (order_test (row_of o)) ∙ ap is_some (order_back o)) (sym (order_test (entry_row (amended_entry (row_of o) shares limit) 1)) ∙ taken) low high in
      let w = some_is (order_of v) (order_test v ∙ fits) in
      (w.0, w.1, sym (row_is v w.0 w.1))

  -- an order that loses time is the youngest
  restamped : (b : Bool) → loses_time (row_of o) shares limit ≡ b → (p : Order) → v ≡ row_of p → o.stamp < next
      → (p.stamp < cond {A = ℕ} b (next + 1) next) × ((p.stamp ≡ o.stamp) ⊎ (next ≤ p.stamp))
  restamped b e p r h = grind (arith, common_steps)

  next_grows : (b : Bool) → next ≤ cond {A = ℕ} b (next + 1) next
  next_grows b = grind (arith, common_steps)

  -- an amended order stands in its place
  pub amend_sound : (places : ℕ) (s : Orders) (rows : List Row) (sound : Sound places next s rows) (n i : ℕ) → s n ≡ Some o → i < length rows → get_or rows i cleared ≡ row_of o → o.number ≡ n
      → (b : Option Order) → b ≡ order_of v → Sound places (cond {A = ℕ} (loses_time (row_of o) shares limit) (next + 1) next) (put n b s) (set rows i v)
  amend_sound places s rows sound n i q l e en b eb =
      let w = amended_order in
      rewrite_sound places next s rows sound n i o q l e en b v (cond {A = ℕ} (loses_time (row_of o) shares limit) (next + 1) next)
      (inr (w.0, w.2, sym (ap (λ (r : Row). r.number) w.2) ∙ en)) eb (next_grows (loses_time (row_of o) shares limit))
      (λ p r. restamped (loses_time (row_of o) shares limit) refl p (sym (row_is v p (sym eb ∙ r))) (sound.stamped.young n o q).0)

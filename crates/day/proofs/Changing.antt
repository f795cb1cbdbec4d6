-- What a trade does to the sheet and the places together.
use Rattle.std.proofs.Common.{◌≡◌, ℕ, zero, suc, ◌+◌, ◌-◌, ◌<◌, ◌≤◌, Bool, true, false, cond, ◌⊎◌, List, [], ◌∷◌, length, get_or, set, Some, None, Option, sym, refl, ap, ◌∙◌, subst, inl, inr, ⊎_elim, le_of_suc-le-suc, not-suc-le-zero, add-zero, add-suc, suc-add, arith}
use Rattle.std.proofs.lemmas.Grind.{common_steps}
use Rattle.std.proofs.lemmas.List.{length-set, get_or-set_other}
use Rattle.std.proofs.lemmas.Bool.{cases_eq, cases_lt, lt-ltb}
use Rattle.std.proofs.lemmas.Bool.Decides.{nat_tests}
use Rattle.orders.specs.Ranges.{order_fits}
use Rattle.orders.specs.Rows.{order_of, row_of, cleared}
use Rattle.orders.specs.declared.call.Fill.{Fill}
use Rattle.orders.specs.declared.order.Order.{Order}
use Rattle.orders.specs.declared.row.Row.{Row}
use Rattle.orders.specs.declared.side.Side.{Side}
use Rattle.matching.specs.declared.meeting.Found.{Found}
use Rattle.matching.specs.declared.meeting.Meeting.{Meeting}
use Rattle.matching.specs.Market.{Market}
use Rattle.matching.specs.Firsts.{candidate_at, earlier, first_from, first}
use Rattle.matching.specs.Trades.{with_left, lessened, shares, fill_of, left_active, left_passive}
use Rattle.matching.specs.Runs.{passed}
use Rattle.std.proofs.lemmas.Option.{none-some, same_Some}
use Rattle.matching.proofs.Rows.{lessened_all}
use Rattle.matching.proofs.Chosen.{Meets, first_is}
use Rattle.matching.proofs.Foremost.{Lawful, candidate_of, first_before}
use Rattle.day.specs.Sheets.{Orders, put, less_of, names, took}
use Rattle.day.specs.Fairness.{active_number, passive_number, dealt, Fair}
use Rattle.day.specs.Law.{Holds}
use Rattle.day.proofs.Keeping.{Stamped, Sound, Aside}
use Rattle.day.proofs.Putting.{put_same, put_other, gone_was, row_order, cleared_none, RowFor, place_of, write_holds}

-- the two numbers that a fill names
pub names_both : (f : Fill) (n : ℕ) → (n ≡ active_number f) ⊎ (n ≡ passive_number f) → names f n ≡ true
names_both f n e = grind arith

pub names_no_other : (f : Fill) (n : ℕ) → (n ≡ active_number f → ⊥) → (n ≡ passive_number f → ⊥) → names f n ≡ false
names_no_other f n a p = grind arith

pub cases_named : (f : Fill) (n : ℕ) → ((n ≡ active_number f) ⊎ (n ≡ passive_number f)) ⊎ (names f n ≡ false)
cases_named f n = grind arith

pub took_named : (f : Fill) (s : Orders) (n : ℕ) → (n ≡ active_number f) ⊎ (n ≡ passive_number f) → took f s n ≡ less_of f.shares (s n)
took_named f s n e = grind arith

pub took_unnamed : (f : Fill) (s : Orders) (n : ℕ) → names f n ≡ false → took f s n ≡ s n
took_unnamed f s n e = grind arith

-- an order with some shares fewer, where some are left
less_fits : (o : Order) (q : ℕ) → q < o.left → order_fits o.kind (o.left - q) o.size o.limit o.minimum o.broker o.hidden o.stamp o.number ≡ true
unfolding order_fits
less_fits o q h = grind arith

pub record Less (o : Order) (q : ℕ) (p : Order) : Type 0 where
  pub row : lessened (row_of o) q ≡ row_of p
  pub number : p.number ≡ o.number
  pub stamp : p.stamp ≡ o.stamp
  pub left : q + p.left ≡ o.left

-- what is left of an order: nothing, or an order of the same number and stamp
pub less_is : (o : Order) (q : ℕ) → ((lessened (row_of o) q ≡ cleared) × (o.left ≤ q)) ⊎ ((p : Order) × Less o q p)
less_is o q =
    ⊎_elim
    (λ h. inr (
      record { side = o.side; kind = o.kind; left = o.left - q; size = o.size; limit = o.limit; minimum = o.minimum; broker = o.broker; mark = o.mark; hidden = o.hidden; stamp = o.stamp; number = o.number; ok = less_fits o q h },
      record { row = ap (λ (b : Bool). cond b (with_left (row_of o) (o.left - q)) cleared) (lt-ltb q o.left h); number = refl; stamp = refl; left = omega arith },
    ))
    (λ h. inl (lessened_all (row_of o) q h, h))
    (cases_lt q o.left)

pub less_for : (o : Order) (q : ℕ) → RowFor o.number (lessened (row_of o) q)
less_for o q = ⊎_elim (λ w. inl w.0) (λ w. inr (w.0, w.1.row, w.1.number)) (less_is o q)

less_came : (q : ℕ) (x : Option Order) (o : Order) → less_of q x ≡ Some o → (p : Order) × (x ≡ Some p) × Less p q o
less_came q None o e = absurd (none-some o e)
less_came q (Some p) o e =
    ⊎_elim
    (λ w. absurd (none-some o (sym (cleared_none (lessened (row_of p) q) w.0) ∙ e)))
    (λ w. (p, refl, subst (λ (y : Order). Less p q y) (same_Some w.0 o (sym (row_order (lessened (row_of p) q) w.0 w.1.row) ∙ e)) w.1))
    (less_is p q)

-- an order that stands after a fill stood before it
pub took_was : (f : Fill) (s : Orders) (n : ℕ) (o : Order) → took f s n ≡ Some o → (p : Order) × (s n ≡ Some p) × (o.number ≡ p.number) × (o.stamp ≡ p.stamp)
took_was f s n o e =
    ⊎_elim
    (λ x. let w = less_came f.shares (s n) o (sym (took_named f s n x) ∙ e) in (w.0, w.1, w.2.number, w.2.stamp))
    (λ x. (o, sym (took_unnamed f s n x) ∙ e, refl, refl))
    (cases_named f n)

pub took_stamped : (next : ℕ) (s : Orders) (f : Fill) → Stamped next s → Stamped next (took f s)
took_stamped next s f h = record {
  young = λ n o e. let w = took_was f s n o e in let y = h.young n w.0 w.1 in (omega (arith, y.0, w.3), y.1);
  apart = λ i j x y ei ej e. let v = took_was f s i x ei in let w = took_was f s j y ej in h.apart i j v.0 w.0 v.1 w.1 (sym v.3 ∙ e ∙ w.3);
}

-- the fill of a meeting
pub record Tells (f : Fill) (d : Side) (a p c n : ℕ) : Type 0 where
  pub active : active_number f ≡ a
  pub passive : passive_number f ≡ p
  pub price : f.price ≡ c
  pub shares : f.shares ≡ n
  pub side : f.active ≡ d

pub fill_tells : (t : Meeting) → Tells (fill_of t) t.active.side t.active.number t.found.candidate.order.number t.found.candidate.price (shares t)
fill_tells t = grind arith

-- an active order finds every older order in the places, and there only orders that stand
pub record Sees (s : Orders) (rows : List Row) (a : Order) : Type 0 where
  pub active : s a.number ≡ Some a
  pub placed : (n : ℕ) (o : Order) → s n ≡ Some o → o.stamp < a.stamp → (k : ℕ) × (k < length rows) × (order_of (get_or rows k cleared) ≡ Some o)
  pub stands : (k : ℕ) (o : Order) → k < length rows → order_of (get_or rows k cleared) ≡ Some o → s o.number ≡ Some o

pub sees_all : (places : ℕ) (s : Orders) (rows : List Row) → Holds places s rows → (i : ℕ) (a : Order) → i < length rows → order_of (get_or rows i cleared) ≡ Some a → Sees s rows a
sees_all places s rows h i a l e = record {
  active = h.only i a l e;
  placed = λ n o q _. let w = h.all n o q in (w.0, w.1, row_order (get_or rows w.0 cleared) o w.2);
  stands = h.only;
}

-- what holds of the first place, and of each place behind it, holds of all
pub each_more : (P : ℕ → Row → Type 0) (i : ℕ) (r : Row) (rs : List Row) → P i r → ((k : ℕ) → k < length rs → P (suc i + k) (get_or rs k cleared)) → (k : ℕ) → k < suc (length rs) → P (i + k) (get_or (r ∷ rs) k cleared)
each_more P i r rs u v zero h = subst (λ (n : ℕ). P n r) (sym (add-zero i)) u
each_more P i r rs u v (suc k) h = subst (λ (n : ℕ). P n (get_or rs k cleared)) (suc-add i k ∙ sym (add-suc i k)) (v k (le_of_suc-le-suc h))

-- where no order is chosen, no older one has a deal
module _ (m : Market) (a : Order) where
  earlier_none : (b c : Option Found) → earlier m a b c ≡ None → (b ≡ None) × (c ≡ None)
  earlier_none b c e = grind (arith, common_steps)

  from_none : (rows : List Row) (i : ℕ) (b : Option Found) → first_from m a i b rows ≡ None → (b ≡ None) × ((k : ℕ) → k < length rows → candidate_at m a (i + k) (get_or rows k cleared) ≡ None)
  from_none [] i b e = (e, λ k h. absurd (not-suc-le-zero h))
  from_none (r ∷ rs) i b e =
      let ih = from_none rs (suc i) (earlier m a b (candidate_at m a i r)) e in
      let t = earlier_none b (candidate_at m a i r) ih.0 in
      (t.0, each_more (λ n x. candidate_at m a n x ≡ None) i r rs t.1 ih.1)

  no_deal : (i : ℕ) (r : Row) (o : Order) → order_of r ≡ Some o → o.stamp < a.stamp → candidate_at m a i r ≡ None → (d : Option ℕ) → m.deal a o ≡ d → m.deal a o ≡ None
  no_deal i r o e h c d q = grind (arith, common_steps)

  pub none_deals : (s : Orders) (rows : List Row) → Sees s rows a → first m a rows ≡ None → (n : ℕ) (o : Order) → s n ≡ Some o → o.stamp < a.stamp → m.deal a o ≡ None
  none_deals s rows sees e n o q h = grind (arith, nat_tests, sees.placed, no_deal, from_none)

-- a meeting of the active order with the one that was chosen
module _ (m : Market) (next : ℕ) (s : Orders) (rows : List Row) (t : Meeting) (stamped : Stamped next s) (sees : Sees s rows t.active) (e : first m t.active rows ≡ Some t.found) where
  abbrev a : Order
  a = t.active

  abbrev p : Order
  p = t.found.candidate.order

  met : (t.found.place < length rows) × Meets m a t.found.place (get_or rows t.found.place cleared) t.found
  met = first_is m a rows t.found e

  passive_at : s p.number ≡ Some p
  passive_at = sees.stands t.found.place p met.0 met.1.order

  pub numbers_apart : p.number ≡ a.number → ⊥
  numbers_apart x = grind (arith, passive_at, sees.active, met)

  -- the two orders lose the shares of the fill, and every other one stays
  pub took_active : took (fill_of t) s a.number ≡ order_of (left_active t)
  took_active = took_named (fill_of t) s a.number (inl (sym (fill_tells t).active)) ∙ ap (λ (q : ℕ). less_of q (s a.number)) (fill_tells t).shares ∙ ap (less_of (shares t)) sees.active

  pub took_passive : took (fill_of t) s p.number ≡ order_of (left_passive t)
  took_passive = took_named (fill_of t) s p.number (inr (sym (fill_tells t).passive)) ∙ ap (λ (q : ℕ). less_of q (s p.number)) (fill_tells t).shares ∙ ap (less_of (shares t)) passive_at

  pub took_others : (n : ℕ) → (n ≡ a.number → ⊥) → (n ≡ p.number → ⊥) → took (fill_of t) s n ≡ s n
  took_others n x y = took_unnamed (fill_of t) s n (names_no_other (fill_of t) n (λ z. x (z ∙ (fill_tells t).active)) (λ z. y (z ∙ (fill_tells t).passive)))

  chosen_first : Lawful m.before → (n : ℕ) (o : Order) (c : ℕ) → s n ≡ Some o → (n ≡ p.number → ⊥) → o.stamp < a.stamp → m.deal a o ≡ Some c → m.before a (dealt p t.found.candidate.price) (dealt o c) ≡ true
  chosen_first lawful n o c q ne old d =
      let w = sees.placed n o q old in
      first_before m lawful a rows t.found e w.0 (record { place = w.0; candidate = dealt o c }) w.1 (candidate_of m a w.0 (get_or rows w.0 cleared) o c w.2 old d)
      (λ x. ne (sym (stamped.apart p.number n p o passive_at q x)))

  pub meeting_fair : Lawful m.before → Fair m s (fill_of t)
  meeting_fair lawful =
      let f = fill_tells t in
      record {
        active = a;
        passive = p;
        active_at = ap s f.active ∙ sees.active;
        passive_at = ap s f.passive ∙ passive_at;
        side = sym f.side;
        older = met.1.older;
        price = met.1.price ∙ ap Some (sym f.price);
        shares = f.shares;
        first = λ n o c q ne old d. subst (λ (x : ℕ). m.before a (dealt p x) (dealt o c) ≡ true) (sym f.price) (chosen_first lawful n o c q (λ x. ne (x ∙ sym f.passive)) old d);
      }

  abbrev s' : Orders
  s' = took (fill_of t) s

  -- the places after the trade of an active order that lies in none of them
  pub aside_holds : (places : ℕ) → Holds places (put a.number None s) rows → Holds places (put a.number None s') (passed rows t)
  aside_holds places h =
      write_holds places (put a.number None s) rows h t.found.place p.number
      (place_of places (put a.number None s) rows h t.found.place p met.0 met.1.order)
      (left_passive t) (less_for p (shares t)) (put a.number None s')
      (put_other a.number None s' p.number numbers_apart ∙ took_passive)
      (λ n y. ⊎_elim
      (λ x. put_same a.number None s' n x ∙ sym (put_same a.number None s n x))
      (λ x. put_other a.number None s' n x ∙ took_others n x y ∙ sym (put_other a.number None s n x))
      (cases_eq n a.number))

  -- the places after the trade of two that lie there
  module _ (places : ℕ) (h : Holds places s rows) (i : ℕ) (l : i < length rows) (at : order_of (get_or rows i cleared) ≡ Some a) where
    abbrev s₁ : Orders
    s₁ = put a.number (order_of (left_active t)) s

    abbrev rows₁ : List Row
    rows₁ = set rows i (left_active t)

    places_apart : t.found.place ≡ i → ⊥
    places_apart x = numbers_apart (ap (λ (o : Order). o.number) (same_Some p a (sym met.1.order ∙ ap (λ (j : ℕ). order_of (get_or rows j cleared)) x ∙ at)))

    active_holds : Holds places s₁ rows₁
    active_holds =
        write_holds places s rows h i a.number (place_of places s rows h i a l at) (left_active t) (less_for a (shares t)) s₁
        (put_same a.number (order_of (left_active t)) s a.number refl)
        (λ n x. put_other a.number (order_of (left_active t)) s n x)

    pub traded_holds : Holds places s' (set rows₁ t.found.place (left_passive t))
    traded_holds =
        let l₁ : t.found.place < length rows₁ = omega (arith, length-set rows i (left_active t), met.0) in
        let at₁ : order_of (get_or rows₁ t.found.place cleared) ≡ Some p = ap order_of (get_or-set_other rows i t.found.place (left_active t) cleared places_apart) ∙ met.1.order in
        write_holds places s₁ rows₁ active_holds t.found.place p.number
        (place_of places s₁ rows₁ active_holds t.found.place p l₁ at₁)
        (left_passive t) (less_for p (shares t)) s' took_passive
        (λ n y. ⊎_elim
        (λ x. ap s' x ∙ took_active ∙ sym (put_same a.number (order_of (left_active t)) s n x))
        (λ x. took_others n x y ∙ sym (put_other a.number (order_of (left_active t)) s n x))
        (cases_eq n a.number))

-- the active order of a row aside
pub aside_is : (places next k : ℕ) (r : Row) (s : Orders) (rows : List Row) → Aside places next k r s rows → (a : Order) → order_of r ≡ Some a → (a.number ≡ k) × (s k ≡ Some a)
aside_is places next k r s rows h a e = grind (arith, h.active, row_order, cleared_none)

pub aside_sees : (places next k : ℕ) (r : Row) (s : Orders) (rows : List Row) → Aside places next k r s rows → (a : Order) → order_of r ≡ Some a → Sees s rows a
aside_sees places next k r s rows h a e =
    let w = aside_is places next k r s rows h a e in
    record {
      active = ap s w.0 ∙ w.1;
      placed = λ n o q old.
          let ne : n ≡ k → ⊥ = λ x. let same : a.stamp ≡ o.stamp = ap (λ (y : Order). y.stamp) (same_Some a o (sym w.1 ∙ ap s (sym x) ∙ q)) in let z : ⊥ = omega arith in z in
          let v = h.holds.all n o (put_other k None s n ne ∙ q) in
          (v.0, v.1, row_order (get_or rows v.0 cleared) o v.2);
      stands = λ j o l q. (gone_was k s o.number o (h.holds.only j o l q)).1;
    }

module _ (m : Market) (places next k : ℕ) (r : Row) (s : Orders) (rows : List Row) (h : Aside places next k r s rows) (t : Meeting) (at : order_of r ≡ Some t.active) (e : first m t.active rows ≡ Some t.found) where
  sees : Sees s rows t.active
  sees = aside_sees places next k r s rows h t.active at

  number_is : t.active.number ≡ k
  number_is = (aside_is places next k r s rows h t.active at).0

  left_at_lem : took (fill_of t) s k ≡ order_of (left_active t)
  left_at_lem = ap (took (fill_of t) s) (sym number_is) ∙ took_active m next s rows t h.stamped sees e

  -- an order stays aside while it trades
  pub aside_took : Aside places next k (left_active t) (took (fill_of t) s) (passed rows t)
  aside_took = record {
    holds =
        subst (λ (n : ℕ). Holds places (put n None (took (fill_of t) s)) (passed rows t)) number_is
        (aside_holds m next s rows t h.stamped sees e places (subst (λ (n : ℕ). Holds places (put n None s) rows) (sym number_is) h.holds));
    stamped = took_stamped next s (fill_of t) h.stamped;
    active =
        ⊎_elim
        (λ w. inl (w.0, left_at_lem ∙ cleared_none (left_active t) w.0))
        (λ w. inr (w.0, w.1.row, left_at_lem ∙ row_order (left_active t) w.0 w.1.row, w.1.number ∙ number_is))
        (less_is t.active (shares t));
    last = λ n o q ne. let w = took_was (fill_of t) s n o q in h.last n w.0 w.1 ne;
    youngest = λ a o n qa q ne.
        let v = took_was (fill_of t) s k a qa in
        let w = took_was (fill_of t) s n o q in
        let z = h.youngest v.0 w.0 n v.1 w.1 ne in
        omega (arith, z, v.3, w.3);
  }

-- two orders in the places trade
pub sound_took : (m : Market) (places next : ℕ) (s : Orders) (rows : List Row) → Sound places next s rows → (i : ℕ) (t : Meeting) → i < length rows → order_of (get_or rows i cleared) ≡ Some t.active → first m t.active rows ≡ Some t.found
    → Sound places next (took (fill_of t) s) (set (set rows i (left_active t)) t.found.place (left_passive t))
sound_took m places next s rows h i t l at e = record {
  holds = traded_holds m next s rows t h.stamped (sees_all places s rows h.holds i t.active l at) e places h.holds i l at;
  stamped = took_stamped next s (fill_of t) h.stamped;
}

-- One number of the sheet and one place are written together.
use Rattle.std.proofs.Common.{◌≡◌, ℕ, ◌<◌, ◌⊎◌, List, length, get_or, set, Some, None, Option, sym, refl, ap, ◌∙◌, inl, inr, ⊎_elim, arith}
use Rattle.std.proofs.lemmas.Grind.{common_steps}
use Rattle.std.proofs.lemmas.List.{get_or-set_same, get_or-set_other, length-set}
use Rattle.std.proofs.lemmas.Bool.{cases_eq}
use Rattle.orders.proofs.Decoding.{order_back}
use Rattle.orders.specs.Rows.{order_of, row_of, cleared}
use Rattle.orders.specs.declared.order.Order.{Order}
use Rattle.orders.specs.declared.row.Row.{Row}
use Rattle.matching.proofs.Rows.{row_is}
use Rattle.day.specs.Sheets.{Orders, put}
use Rattle.day.specs.Law.{Holds}

pub put_same : (k : ℕ) (o : Option Order) (s : Orders) (n : ℕ) → n ≡ k → put k o s n ≡ o
put_same k o s n e = grind arith

pub put_other : (k : ℕ) (o : Option Order) (s : Orders) (n : ℕ) → (n ≡ k → ⊥) → put k o s n ≡ s n
put_other k o s n e = grind arith

-- an order that stands without that of number k has another number, and stood
pub gone_was : (k : ℕ) (s : Orders) (n : ℕ) (o : Order) → put k None s n ≡ Some o → (n ≡ k → ⊥) × (s n ≡ Some o)
gone_was k s n o e = grind arith

-- the order of a row that is known
pub row_order : (r : Row) (o : Order) → r ≡ row_of o → order_of r ≡ Some o
row_order r o e = ap order_of e ∙ order_back o

-- a row for the order of number k: cleared, or an order of that number
abbrev pub RowFor : ℕ → Row → Type 0
RowFor k v = (v ≡ cleared) ⊎ ((p : Order) × (v ≡ row_of p) × (p.number ≡ k))

pub cleared_none : (v : Row) → v ≡ cleared → order_of v ≡ None
cleared_none v e = ap order_of e

pub row_number : (k : ℕ) (v : Row) → RowFor k v → (o : Order) → order_of v ≡ Some o → o.number ≡ k
row_number k v h o q = grind (arith, row_order, cleared_none)

row_free : (k : ℕ) (v : Row) → RowFor k v → order_of v ≡ None → v ≡ cleared
row_free k v h q = grind (arith, row_order)

-- place i is free or holds the order of number k, and no other place does
pub record Place (s : Orders) (rows : List Row) (i k : ℕ) : Type 0 where
  pub within : i < length rows
  pub mine : (o : Order) → order_of (get_or rows i cleared) ≡ Some o → o.number ≡ k
  pub here : (o : Order) → s k ≡ Some o → order_of (get_or rows i cleared) ≡ Some o

-- the place of an order
pub place_of : (places : ℕ) (s : Orders) (rows : List Row) → Holds places s rows → (i : ℕ) (o : Order) → i < length rows → order_of (get_or rows i cleared) ≡ Some o → Place s rows i o.number
place_of places s rows h i o l e = grind arith

module _ (places : ℕ) (s : Orders) (rows : List Row) (h : Holds places s rows) (i k : ℕ) (at : Place s rows i k) (v : Row) (for : RowFor k v) (t : Orders) (named : t k ≡ order_of v) (others : (n : ℕ) → (n ≡ k → ⊥) → t n ≡ s n) where
  -- a place after the write
  written_at : (j : ℕ) → ((j ≡ i) × (get_or (set rows i v) j cleared ≡ v)) ⊎ ((j ≡ i → ⊥) × (get_or (set rows i v) j cleared ≡ get_or rows j cleared))
  written_at j = grind (arith, common_steps)

  long : length (set rows i v) ≡ length rows
  long = length-set rows i v

  -- an order in a place is the new one, or was there
  stood : (j : ℕ) (o : Order) → j < length rows → order_of (get_or (set rows i v) j cleared) ≡ Some o
      → ((j ≡ i) × (o.number ≡ k) × (order_of v ≡ Some o)) ⊎ ((o.number ≡ k → ⊥) × (order_of (get_or rows j cleared) ≡ Some o))
  stood j o l q =
      ⊎_elim
      (λ w. let e : order_of v ≡ Some o = ap order_of (sym w.1) ∙ q in inl (w.0, row_number k v for o e, e))
      (λ w. let e : order_of (get_or rows j cleared) ≡ Some o = ap order_of (sym w.1) ∙ q in
      inr ((λ x. w.0 (h.once j i o o l at.within e (at.here o (ap s (sym x) ∙ h.only j o l e)) refl)), e))
      (written_at j)

  all' : (n : ℕ) (o : Order) → t n ≡ Some o → (j : ℕ) × (j < length (set rows i v)) × (get_or (set rows i v) j cleared ≡ row_of o) × (o.number ≡ n)
  all' n o q =
      ⊎_elim
      (λ x. let e : order_of v ≡ Some o = sym named ∙ ap t (sym x) ∙ q in
      (i, omega (arith, long, at.within), get_or-set_same rows i v cleared at.within ∙ sym (row_is v o e), row_number k v for o e ∙ sym x))
      (λ x. let w = h.all n o (sym (others n x) ∙ q) in
      let ne : w.0 ≡ i → ⊥ = λ y. x (sym w.3 ∙ at.mine o (ap (λ (j : ℕ). order_of (get_or rows j cleared)) (sym y) ∙ row_order (get_or rows w.0 cleared) o w.2)) in
      (w.0, omega (arith, long, w.1), get_or-set_other rows i w.0 v cleared ne ∙ w.2, w.3))
      (cases_eq n k)

  only' : (j : ℕ) (o : Order) → j < length rows → order_of (get_or (set rows i v) j cleared) ≡ Some o → t o.number ≡ Some o
  only' j o l q = ⊎_elim (λ w. ap t w.1 ∙ named ∙ w.2) (λ w. others o.number w.0 ∙ h.only j o l w.1) (stood j o l q)

  once' : (a b : ℕ) (x y : Order) → a < length rows → b < length rows → order_of (get_or (set rows i v) a cleared) ≡ Some x → order_of (get_or (set rows i v) b cleared) ≡ Some y → x.number ≡ y.number → a ≡ b
  once' a b x y la lb qa qb e =
      ⊎_elim
      (λ u. ⊎_elim (λ w. u.0 ∙ sym w.0) (λ w. absurd (w.0 (sym e ∙ u.1))) (stood b y lb qb))
      (λ u. ⊎_elim (λ w. absurd (u.0 (e ∙ w.1))) (λ w. h.once a b x y la lb u.1 w.1 e) (stood b y lb qb))
      (stood a x la qa)

  free' : (j : ℕ) → j < length rows → order_of (get_or (set rows i v) j cleared) ≡ None → get_or (set rows i v) j cleared ≡ cleared
  free' j l q = grind (arith, written_at, row_free, h.free)

  -- the places hold the sheet that differs at the number of the place that was written
  pub write_holds : Holds places t (set rows i v)
  write_holds = record {
    size = long ∙ h.size;
    all = all';
    only = λ j o l q. only' j o (omega (arith, long)) q;
    once = λ a b x y la lb qa qb e. once' a b x y (omega (arith, long)) (omega (arith, long)) qa qb e;
    free = λ j l q. free' j (omega (arith, long)) q;
  }

-- What is looked up in the places is what stands on the sheet.
use Rattle.std.proofs.Common.{◌≡◌, ℕ, zero, suc, ◌<◌, ◌≤◌, Bool, true, false, not, eqb, ◌⊎◌, List, [], ◌∷◌, length, get_or, position, is_some, Some, None, Decides, Option, sym, refl, ap, ◌∙◌, inl, inr, ⊎_elim, le_of_suc-le-suc, arith}
use Rattle.std.proofs.lemmas.Grind.{common_steps}
use Rattle.std.proofs.lemmas.Bool.{and_parts, eqb-true, not-true, not-false, false_from_ne_true, cond-true, cond-false}
use Rattle.std.proofs.lemmas.Bool.Decides.{nat_tests}
use Rattle.std.proofs.lemmas.List.Quantifiers.{position-Some}
use Rattle.std.proofs.lemmas.List.Sums.{fails_before_first}
use Rattle.std.proofs.lemmas.Option.{same_Some}
use Rattle.orders.specs.Rows.{order_of, row_of, cleared}
use Rattle.orders.specs.declared.order.Order.{Order}
use Rattle.orders.specs.declared.row.Row.{Row}
use Rattle.orders.proofs.Decoding.{order_back}
use Rattle.matching.specs.Sweeps.{occupied}
use Rattle.matching.proofs.Occupied.{one_most, occupied_most}
use Rattle.matching.proofs.Rows.{row_is}
use Rattle.places.specs.Places.{is_free, free_place, holds_number, place_of, row_at}
use Rattle.day.specs.Sheets.{Orders, left_of}
use Rattle.day.specs.Balances.{held}
use Rattle.day.specs.Law.{Holds}

-- where no place passes a test
pub place_absent : (test : Row → Bool) (rows : List Row) → position test rows ≡ None → (k : ℕ) → k < length rows → test (get_or rows k cleared) ≡ false
place_absent test rows e k h = grind (arith, nat_tests, fails_before_first test rows k cleared)

-- there is some value, or none
pub cases_some : {X : Type 0} (x : Option X) → ((o : X) × (x ≡ Some o)) ⊎ (x ≡ None)
cases_some None = inr refl
cases_some (Some o) = inl (o, refl)

pub some_is : {X : Type 0} (x : Option X) → is_some x ≡ true → (o : X) × (x ≡ Some o)
some_is x e = grind (arith, common_steps)

pub none_is : {X : Type 0} (x : Option X) → is_some x ≡ false → x ≡ None
none_is x e = grind (arith, common_steps)

-- a row that holds a number
pub holds_order : (n : ℕ) (r : Row) → holds_number n r ≡ true → (o : Order) × (order_of r ≡ Some o) × (r ≡ row_of o) × (o.number ≡ n)
holds_order n r e =
    let a = and_parts (is_some (order_of r)) (eqb r.number n) e in
    let o = some_is (order_of r) a.0 in
    let w = row_is r o.0 o.1 in
    (o.0, o.1, sym w, ap (λ (x : Row). x.number) w ∙ eqb-true r.number n a.1)

pub holds_from_lem : (n : ℕ) (r : Row) (o : Order) → r ≡ row_of o → o.number ≡ n → holds_number n r ≡ true
holds_from_lem n r o e q = grind arith

module _ (places : ℕ) (s : Orders) (rows : List Row) (h : Holds places s rows) where
  -- the order of a place that was found
  pub place_holds : (n k : ℕ) → place_of n rows ≡ Some k → (k < length rows) × (o : Order) × (s n ≡ Some o) × (get_or rows k cleared ≡ row_of o) × (o.number ≡ n)
  place_holds n k e =
      let p = position-Some (holds_number n) rows k cleared e in
      let o = holds_order n (get_or rows k cleared) p.1 in
      (p.0, o.0, ap s (sym o.3) ∙ h.only k o.0 p.0 o.1, o.2, o.3)

  -- the place of an order that stands
  pub place_found : (n : ℕ) (o : Order) → s n ≡ Some o → (i : ℕ) × (place_of n rows ≡ Some i) × (i < length rows) × (get_or rows i cleared ≡ row_of o)
  place_found n o q =
      ⊎_elim
      (λ k. let p = place_holds n k.0 k.1 in (k.0, k.1, p.0, p.3 ∙ ap row_of (same_Some p.1 o (sym p.2 ∙ q))))
      (λ e. let w = h.all n o q in
      let a = place_absent (holds_number n) rows e w.0 w.1 in
      let b = holds_from_lem n (get_or rows w.0 cleared) o w.2 w.3 in
      cc)
      (cases_some (place_of n rows))

  pub row_found : (n : ℕ) (o : Order) → s n ≡ Some o → row_at (place_of n rows) rows ≡ row_of o
  row_found n o q = let p = place_found n o q in ap (λ (k : Option ℕ). row_at k rows) p.1 ∙ p.3

  -- whether an order rests is looked up rightly
  pub resting_decides : (n : ℕ) → Decides (not (is_some (place_of n rows))) (s n ≡ None)
  resting_decides n = (grind (arith, place_found), grind (arith, place_holds))

  -- a free place is cleared
  pub free_holds : (k : ℕ) → free_place rows ≡ Some k → (k < length rows) × (order_of (get_or rows k cleared) ≡ None) × (get_or rows k cleared ≡ cleared)
  free_holds k e = grind (arith, nat_tests, position-Some, none_is, not-true, h.free)

-- the places are all taken just when none is free
occupied_all : (rows : List Row) → ((k : ℕ) → k < length rows → is_free (get_or rows k cleared) ≡ false) → length rows ≤ occupied rows
occupied_all [] h = omega arith
occupied_all (r ∷ rs) h =
    let a = cond-true {A = ℕ} (is_some (order_of r)) 1 0 (not-false (is_some (order_of r)) (h 0 (omega arith))) in
    omega (arith, a, occupied_all rs (λ k l. h (suc k) (omega arith)))

occupied_less : (rows : List Row) (k : ℕ) → k < length rows → is_free (get_or rows k cleared) ≡ true → occupied rows < length rows
occupied_less [] k h e = absurd (omega arith)
occupied_less (r ∷ rs) zero h e =
    let a = cond-false {A = ℕ} (is_some (order_of r)) 1 0 (not-true (is_some (order_of r)) e) in
    omega (arith, a, occupied_most rs)
occupied_less (r ∷ rs) (suc k) h e = omega (arith, one_most r, occupied_less rs k (le_of_suc-le-suc h) e)

pub free_decides : (rows : List Row) → Decides (not (is_some (free_place rows))) (length rows ≤ occupied rows)
free_decides rows =
    ⊎_elim
    (λ k. let p = position-Some is_free rows k.0 cleared k.1 in
    let l = occupied_less rows k.0 p.0 p.1 in
    ((λ e. cc), (λ h. absurd (omega arith))))
    (λ k. ((λ e. occupied_all rows (place_absent is_free rows k)), (λ h. cc)))
    (cases_some (free_place rows))

-- the shares left under a number
held_none : (n : ℕ) (rows : List Row) → ((k : ℕ) → k < length rows → holds_number n (get_or rows k cleared) ≡ false) → held n rows ≡ 0
held_none n [] h = refl
held_none n (r ∷ rs) h =
    let a = cond-false {A = ℕ} (holds_number n r) r.left 0 (h 0 (omega arith)) in
    omega (arith, a, held_none n rs (λ k l. h (suc k) (omega arith)))

held_one : (n : ℕ) (rows : List Row) (i : ℕ) → i < length rows → holds_number n (get_or rows i cleared) ≡ true → ((k : ℕ) → k < length rows → (k ≡ i → ⊥) → holds_number n (get_or rows k cleared) ≡ false) → held n rows ≡ (get_or rows i cleared).left
held_one n [] i l e h = absurd (omega arith)
held_one n (r ∷ rs) zero l e h =
    let a = cond-true {A = ℕ} (holds_number n r) r.left 0 e in
    omega (arith, a, held_none n rs (λ k l. h (suc k) (omega arith) (λ t. omega arith)))
held_one n (r ∷ rs) (suc i) l e h =
    let a = cond-false {A = ℕ} (holds_number n r) r.left 0 (h 0 (omega arith) (λ t. omega arith)) in
    omega (arith, a, held_one n rs i (le_of_suc-le-suc l) e (λ k l t. h (suc k) (omega arith) (λ u. t (omega arith))))

-- what the places hold under a number is what is left of its order
pub held_is : (places : ℕ) (s : Orders) (rows : List Row) → Holds places s rows → (n : ℕ) → held n rows ≡ left_of (s n)
held_is places s rows h n =
    ⊎_elim
    (λ q. let o = q.0 in
    let w = h.all n o q.1 in
    held_one n rows w.0 w.1 (holds_from_lem n (get_or rows w.0 cleared) o w.2 w.3)
    (λ k l ne. false_from_ne_true (holds_number n (get_or rows k cleared)) (λ e. let p = holds_order n (get_or rows k cleared) e in ne (h.once k w.0 p.0 o l w.1 p.1 (ap order_of w.2 ∙ order_back o) (p.3 ∙ sym w.3))))
    ∙ ap (λ (r : Row). r.left) w.2 ∙ sym (ap left_of q.1))
    (λ q. held_none n rows
    (λ k l. false_from_ne_true (holds_number n (get_or rows k cleared)) (λ e. let p = holds_order n (get_or rows k cleared) e in let t = ap s (sym p.3) ∙ h.only k p.0 l p.1 in cc))
    ∙ sym (ap left_of q))
    (cases_some (s n))

-- Sums over the orders of the sheet and over the places.
use Rattle.std.proofs.Common.{◌≡◌, ℕ, zero, suc, ◌+◌, ◌<◌, cond, List, [], ◌∷◌, length, get_or, is_some, Some, None, Option, sym, refl, ap, ◌∙◌, ⊎_elim, not-suc-le-zero, arith}
use Rattle.std.proofs.lemmas.Grind.{common_steps}
use Rattle.std.proofs.lemmas.Bool.{cases_eq}
use Rattle.orders.specs.Rows.{order_of, row_of, cleared}
use Rattle.orders.specs.declared.order.Order.{Order}
use Rattle.orders.specs.declared.row.Row.{Row}
use Rattle.matching.specs.Sums.{weighed, sum_of}
use Rattle.matching.specs.Sweeps.{occupied}
use Rattle.std.proofs.lemmas.Option.{none-some, same_Some}
use Rattle.day.specs.Sheets.{Orders, put}
use Rattle.day.specs.Causes.{total, standing}
use Rattle.day.specs.Law.{Holds}
use Rattle.day.proofs.Putting.{put_same, put_other, gone_was, row_order}

module _ (g : Order → ℕ) where
  total_none : (s : Orders) (n : ℕ) → ((k : ℕ) → s k ≡ None) → total g s n ≡ 0
  total_none s zero h = refl
  total_none s (suc n) h = let e : weighed g (s n) ≡ 0 = ap (weighed g) (h n) in omega (arith, total_none s n h)

  pub total_same : (s t : Orders) (n : ℕ) → ((k : ℕ) → k < n → s k ≡ t k) → total g s n ≡ total g t n
  total_same s t zero h = refl
  total_same s t (suc n) h =
      let e : weighed g (s n) ≡ weighed g (t n) = ap (weighed g) (h n (omega arith)) in
      omega (arith, total_same s t n (λ k l. h k (omega arith)))

  -- orders from a number on do not count below it
  pub total_put : (s : Orders) (k : ℕ) → total g (put k None s) k ≡ total g s k
  total_put s k = total_same (put k None s) s k (λ j l. put_other k None s j (λ t. let z : ⊥ = omega arith in z))

  -- without one of the orders
  total_gone : (s : Orders) (k : ℕ) (o : Order) (n : ℕ) → s k ≡ Some o → k < n → total g (put k None s) n + g o ≡ total g s n
  total_gone s k o zero e h = absurd (not-suc-le-zero h)
  total_gone s k o (suc n) e h =
      ⊎_elim
      (λ x. let a : weighed g (put k None s n) ≡ 0 = ap (weighed g) (put_same k None s n (sym x)) in
      let b : weighed g (s n) ≡ g o = ap (weighed g) (ap s (sym x) ∙ e) in
      let c : total g (put k None s) n ≡ total g s n = total_same (put k None s) s n (λ j l. put_other k None s j (λ t. let z : ⊥ = omega arith in z)) in
      omega (arith, a, b, c))
      (λ x. let a : weighed g (put k None s n) ≡ weighed g (s n) = ap (weighed g) (put_other k None s n (λ t. x (sym t))) in
      omega (arith, a, total_gone s k o n e (omega arith)))
      (cases_eq k n)

-- what the other places hold, the first free
module _ (places : ℕ) (s : Orders) (r : Row) (rs : List Row) (h : Holds places s (r ∷ rs)) where
  tail_only : (k : ℕ) (o : Order) → k < length rs → order_of (get_or rs k cleared) ≡ Some o → s o.number ≡ Some o
  tail_only k o l q = h.only (suc k) o (omega arith) q

  tail_once : (i j : ℕ) (x y : Order) → i < length rs → j < length rs → order_of (get_or rs i cleared) ≡ Some x → order_of (get_or rs j cleared) ≡ Some y → x.number ≡ y.number → i ≡ j
  tail_once i j x y li lj qi qj e = let z : suc i ≡ suc j = h.once (suc i) (suc j) x y (omega arith) (omega arith) qi qj e in omega arith

  tail_free : (k : ℕ) → k < length rs → order_of (get_or rs k cleared) ≡ None → get_or rs k cleared ≡ cleared
  tail_free k l q = h.free (suc k) (omega arith) q

  free_tail : order_of r ≡ None → Holds (length rs) s rs
  free_tail f = record { size = refl; all = λ n o q. let w = h.all n o q in go n o w.0 w.1 w.2 w.3; only = tail_only; once = tail_once; free = tail_free }
    where
      go : (n : ℕ) (o : Order) (k : ℕ) → k < suc (length rs) → get_or (r ∷ rs) k cleared ≡ row_of o → o.number ≡ n → (k : ℕ) × (k < length rs) × (get_or rs k cleared ≡ row_of o) × (o.number ≡ n)
      go n o zero l q e = absurd (none-some o (sym f ∙ row_order r o q))
      go n o (suc k) l q e = (k, omega arith, q, e)

  held_tail : (o : Order) → order_of r ≡ Some o → Holds (length rs) (put o.number None s) rs
  held_tail o f = record {
    size = refl;
    all = λ n p q. let g = gone_was o.number s n p q in let w = h.all n p g.1 in go n p g.0 w.0 w.1 w.2 w.3;
    only = λ k p l q. put_other o.number None s p.number (λ t. let z : suc k ≡ 0 = h.once (suc k) 0 p o (omega arith) (omega arith) q f t in omega arith) ∙ tail_only k p l q;
    once = tail_once;
    free = tail_free;
  }
    where
      go : (n : ℕ) (p : Order) → (n ≡ o.number → ⊥) → (k : ℕ) → k < suc (length rs) → get_or (r ∷ rs) k cleared ≡ row_of p → p.number ≡ n → (k : ℕ) × (k < length rs) × (get_or rs k cleared ≡ row_of p) × (p.number ≡ n)
      go n p ne zero l q e = absurd (ne (sym e ∙ ap (λ (x : Order). x.number) (same_Some p o (sym (row_order r p q) ∙ f))))
      go n p ne (suc k) l q e = (k, omega arith, q, e)

none_held : (places : ℕ) (s : Orders) → Holds places s [] → (n : ℕ) (b : Option Order) → s n ≡ b → s n ≡ None
none_held places s h n b e = grind (arith, common_steps)

-- a sum over the sheet is that over the places
pub total_rows : (g : Order → ℕ) (places n : ℕ) (s : Orders) (rows : List Row) → Holds places s rows → ((k : ℕ) (o : Order) → s k ≡ Some o → k < n) → total g s n ≡ sum_of g rows
total_rows g places n s [] h y = total_none g s n (λ k. none_held places s h k (s k) refl)
total_rows g places n s (r ∷ rs) h y = by (order_of r) refl (λ t z w. total_rows g (length rs) n t rs z w)
  where
    by : (b : Option Order) → order_of r ≡ b → ((t : Orders) → Holds (length rs) t rs → ((k : ℕ) (o : Order) → t k ≡ Some o → k < n) → total g t n ≡ sum_of g rs) → total g s n ≡ weighed g (order_of r) + sum_of g rs
    by None f ih =
        let a : weighed g (order_of r) ≡ 0 = ap (weighed g) f in
        omega (arith, a, ih s (free_tail places s r rs h f) y)
    by (Some o) f ih =
        let a : weighed g (order_of r) ≡ g o = ap (weighed g) f in
        let t : s o.number ≡ Some o = h.only 0 o (omega arith) f in
        omega (arith, a, ih (put o.number None s) (held_tail places s r rs h o f) (λ k p q. y k p (gone_was o.number s k p q).1), total_gone g s o.number o n t (y o.number o t))

one_weighed : (b : Option Order) → weighed (λ _. 1) b ≡ cond {A = ℕ} (is_some b) 1 0
one_weighed b = grind (arith, common_steps)

occupied_sum : (rows : List Row) → sum_of (λ _. 1) rows ≡ occupied rows
occupied_sum [] = refl
occupied_sum (r ∷ rs) = omega (arith, one_weighed (order_of r), occupied_sum rs)

-- as many orders stand as places hold one
pub standing_rows : (places n : ℕ) (s : Orders) (rows : List Row) → Holds places s rows → ((k : ℕ) (o : Order) → s k ≡ Some o → k < n) → standing s n ≡ occupied rows
standing_rows places n s rows h y = total_rows (λ _. 1) places n s rows h y ∙ occupied_sum rows

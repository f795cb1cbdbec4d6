-- Scans through the places in turn, that keep the better of what they have seen.
use Rattle.std.proofs.Common.{◌≡◌, ℕ, suc, ◌+◌, ◌-◌, ◌<◌, Bool, true, false, cond, ◌⊎◌, List, [], ◌∷◌, length, get_or, Some, None, Option, sym, refl, ap, ◌∙◌, subst, inl, inr, ⊎_elim, add-one, add-zero, add-suc, suc-add, zero-add, arith}
use Rattle.std.specs.List.{fold, reduce, filter, filter_map, cons_option, enumerate_from}
use Rattle.std.proofs.lemmas.Bool.{cases_Bool, cond-true, cond-false}
use Rattle.orders.specs.Rows.{order_of, cleared}
use Rattle.orders.specs.declared.order.Order.{Order}
use Rattle.orders.specs.declared.row.Row.{Row}
use Rattle.matching.specs.Sums.{weighed, sum_of}
use Rattle.matching.proofs.Reductions.{better}

-- which way a choice went
pub cond_came : {X : Type 0} (t : Bool) (x y z : X) → cond t x y ≡ z → ((t ≡ true) × (x ≡ z)) ⊎ ((t ≡ false) × (y ≡ z))
cond_came true x y z e = inl (refl, e)
cond_came false x y z e = inr (refl, e)

module _ {X : Type 0} (ahead : X → X → Bool) where
  -- of one that is held and the next, where either may be none
  abbrev pub kept : (held next : Option X) → Option X
  kept None c = c
  kept (Some b) None = Some b
  kept (Some b) (Some c) = cond (ahead c b) (Some c) (Some b)

  kept_came : (b c : Option X) (x : X) → kept b c ≡ Some x → (b ≡ Some x) ⊎ (c ≡ Some x)
  kept_came None c x e = inr e
  kept_came (Some b) None x e = inl e
  kept_came (Some b) (Some c) x e = ⊎_elim (λ h. inr h.1) (λ h. inl h.1) (cond_came (ahead c b) (Some c) (Some b) (Some x) e)

  -- a definition that goes through the rows, and keeps the better of what they give
  pub record Scans (at : ℕ → Row → Option X) (scan : ℕ → Option X → List Row → Option X) : Type 0 where
    pub ends : (i : ℕ) (b : Option X) → scan i b [] ≡ b
    pub steps : (i : ℕ) (b : Option X) (r : Row) (rs : List Row) → scan i b (r ∷ rs) ≡ scan (suc i) (kept b (at i r)) rs

  abbrev from : Option X → List X → Option X
  from None xs = reduce (better ahead) xs
  from (Some b) xs = Some (fold (better ahead) b xs)

  from_one : (t : Bool) (b c : X) (xs : List X) → Some (fold (better ahead) (cond t c b) xs) ≡ from (cond t (Some c) (Some b)) xs
  from_one true b c xs = refl
  from_one false b c xs = refl

  from_more : (b c : Option X) (xs : List X) → from b (cons_option c xs) ≡ from (kept b c) xs
  from_more None None xs = refl
  from_more None (Some c) xs = refl
  from_more (Some b) None xs = refl
  from_more (Some b) (Some c) xs = from_one (ahead c b) b c xs

module _ {X : Type 0} {ahead : X → X → Bool} {at : ℕ → Row → Option X} {scan : ℕ → Option X → List Row → Option X} (s : Scans ahead at scan) where
  -- what it gives was held before, or lies in a place
  came_from : (rows : List Row) (i : ℕ) (b : Option X) (x : X) → scan i b rows ≡ Some x → (b ≡ Some x) ⊎ ((k : ℕ) × (k < length rows) × (at (i + k) (get_or rows k cleared) ≡ Some x))
  came_from [] i b x e = inl (sym (s.ends i b) ∙ e)
  came_from (r ∷ rs) i b x e =
      ⊎_elim
      (λ h. ⊎_elim inl (λ c. inr (0, omega arith, subst (λ n. at n r ≡ Some x) (sym (add-zero i)) c)) (kept_came ahead b (at i r) x h))
      (λ h. inr (suc h.0, omega (arith, h.1), subst (λ n. at n (get_or rs h.0 cleared) ≡ Some x) (suc-add i h.0 ∙ sym (add-suc i h.0)) h.2))
      (came_from rs (suc i) (kept ahead b (at i r)) x (sym (s.steps i b r rs) ∙ e))

  pub came : (rows : List Row) (x : X) → scan 0 None rows ≡ Some x → (k : ℕ) × (k < length rows) × (at k (get_or rows k cleared) ≡ Some x)
  came rows x e = ⊎_elim (λ h. absurd cc) (λ h. (h.0, h.1, subst (λ n. at n (get_or rows h.0 cleared) ≡ Some x) (zero-add h.0) h.2)) (came_from rows 0 None x e)

  -- it is what is held, and the reduction of what the places give after that
  from_is : (i : ℕ) (b : Option X) (rows : List Row) → scan i b rows ≡ from ahead b (filter_map (λ p. at p.0 p.1) (enumerate_from i rows))
  from_is i None [] = s.ends i None
  from_is i (Some b) [] = s.ends i (Some b)
  from_is i b (r ∷ rs) =
      let rest = λ (n : ℕ). filter_map (λ p. at p.0 p.1) (enumerate_from n rs) in
      s.steps i b r rs ∙ from_is (suc i) (kept ahead b (at i r)) rs
      ∙ ap (λ n. from ahead (kept ahead b (at i r)) (rest n)) (sym (add-one i)) ∙ sym (from_more ahead b (at i r) (rest (i + 1)))

  pub reduces : (rows : List Row) → scan 0 None rows ≡ reduce (better ahead) (filter_map (λ p. at p.0 p.1) (enumerate_from 0 rows))
  reduces rows = from_is 0 None rows

-- what is lacking of some shares, counted down
pub fold_lacks : (g : Order → ℕ) (shares : ℕ) (rows : List Row) → fold (λ lack r. lack - weighed g (order_of r)) shares rows ≡ shares - sum_of g rows
fold_lacks g shares [] = omega arith
fold_lacks g shares (r ∷ rs) = fold_lacks g (shares - weighed g (order_of r)) rs ∙ omega arith

-- what is left out gives nothing, so nothing changes
pub filtered_map : {A B : Type 0} (test : A → Bool) (h : A → Option B) → ((x : A) → test x ≡ false → h x ≡ None) → (xs : List A) → filter_map h (filter test xs) ≡ filter_map h xs
filtered_map test h none [] = refl
filtered_map test h none (x ∷ xs) =
    let rest = filtered_map test h none xs in
    ⊎_elim
    (λ (t : test x ≡ true). ap (filter_map h) (cond-true (test x) (x ∷ filter test xs) (filter test xs) t) ∙ ap (cons_option (h x)) rest)
    (λ (f : test x ≡ false). ap (filter_map h) (cond-false (test x) (x ∷ filter test xs) (filter test xs) f) ∙ rest ∙ ap (λ o. cons_option o (filter_map h xs)) (sym (none x f)))
    (cases_Bool (test x))

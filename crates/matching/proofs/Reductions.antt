-- What `reduce` and `min_by_key` return: the better of all the items, by a test, and of two that are level the first.
use Rattle.std.proofs.Common.{◌≡◌, ℕ, Bool, cond, ltb, List, [], ◌∷◌, Some, None, Option, Bor, refl, ap, ◌∙◌, subst, arith}
use Rattle.std.specs.declared.cmp.Ordering.{Ordering}
use Rattle.std.specs.declared.cmp.Ordering.TheVariants.{Less, Equal, Greater}
use Rattle.std.specs.Fn.{Mut, Called, CalledAt}
use Rattle.std.specs.Iterator.{ReducesItems, FoldTurn, ActsAsOnTwo, PicksMinByKey, KeyTurn, ActsAsAt}
use Rattle.std.specs.List.{FoldsTo, reduce}
use Rattle.std.specs.Ordering.{nat_cmp, min_by_ordering}
use Rattle.std.proofs.lemmas.Bool.Decides.{nat_tests}
use Rattle.std.proofs.lemmas.Iterator.{YieldsList}
use Rattle.std.proofs.lemmas.Iterator.Consumers.{reduce_from_yields_List}

module _ {X : Type 0} (ahead : X → X → Bool) where
  -- the one that is held, unless the next is ahead of it
  abbrev pub better : (held next : X) → X
  better b c = cond (ahead c b) c b

  -- what `reduce` returns, where each call leaves the closure as it was
  folded : {F : Type 0} (g : Mut F (X × (X × Unit {0})) X) (f : F) → ActsAsOnTwo g f better → (x : X) (xs : List X) (k h : F) (y : X) → k ≡ f → FoldsTo {P = F × X} (FoldTurn g) (k, x) xs (h, y) → FoldsTo (λ p z c. c ≡ better p z) x xs y
  folded g f acts x [] k h y e t = ap (λ p. p.1) t
  folded g f acts x (z ∷ zs) k h y e (j, called, rest) =
      let a = acts x z j.1 j.0 (subst (λ q. Called g q (x, (z, tt)) j.1 j.0) e called) in
      (j.1, a.1, folded g f acts j.1 zs j.0 h y a.0 rest)

  pub reduced : {S F : Type 0} {steps : S → Option X → S → Type 0} {s : S} {all : List X} (g : Mut F (X × (X × Unit {0})) X) (f : F) → ActsAsOnTwo g f better → (r : Option X) → ReducesItems steps g s f r → YieldsList steps (λ x. x) s all → r ≡ reduce better all
  reduced {s = s} g f acts None ran road = reduce_from_yields_List better s None ran road
  reduced {s = s} g f acts (Some y) (x, xs, f', drains, folds) road = reduce_from_yields_List better s (Some y) (x, xs, drains, folded g f acts x xs f f' y refl folds) road

-- what `min_by_key` returns, where each call leaves the closure as it was: the one with the lesser key is ahead
module _ {X : Type 0} (key : X → ℕ) where
  abbrev pub lesser : X → X → Bool
  lesser c b = ltb (key c) (key b)

  keyed : (o : Ordering) (x z : X) → min_by_ordering o (key x) (key z) ≡ key (min_by_ordering o x z)
  keyed Less x z = refl
  keyed Equal x z = refl
  keyed Greater x z = refl

  picks : (o : Ordering) (x z : X) → nat_cmp (key x) (key z) ≡ o → min_by_ordering o x z ≡ better lesser x z
  picks Less x z e = grind (arith, nat_tests)
  picks Equal x z e = grind (arith, nat_tests)
  picks Greater x z e = grind (arith, nat_tests)

  picked : {F : Type 0} (g : Mut F (Bor X × Unit {0}) ℕ) (f : F) → ActsAsAt g f key → (x : X) (xs : List X) (k h : F × ℕ) (y : X) → k.0 ≡ f → k.1 ≡ key x
      → FoldsTo {P = (F × ℕ) × X} (KeyTurn min_by_ordering min_by_ordering g nat_cmp) (k, x) xs (h, y) → FoldsTo (λ p z c. c ≡ better lesser p z) x xs y
  picked g f acts x [] k h y e n t = ap (λ p. p.1) t
  picked g f acts x (z ∷ zs) k h y e n (j, (v, o, called, ranks, keeps, takes), rest) =
      let a = acts z v j.0.0 (subst (λ q. CalledAt g q z v j.0.0) e called) in
      let is : nat_cmp (key x) (key z) ≡ o = cc in
      let held : j.0.1 ≡ key j.1 = cc (keyed o x z) in
      (j.1, takes ∙ picks o x z is, picked g f acts j.1 zs j.0 h y a.0 held rest)

  pub least : {S F : Type 0} {steps : S → Option X → S → Type 0} {s : S} {all : List X} (g : Mut F (Bor X × Unit {0}) ℕ) (f : F) → ActsAsAt g f key → (r : Option X) → PicksMinByKey steps g nat_cmp s f r → YieldsList steps (λ x. x) s all → r ≡ reduce (better lesser) all
  least {s = s} g f acts None ran road = reduce_from_yields_List (better lesser) s None ran road
  least {s = s} g f acts (Some y) (x, xs, k, f', q, drains, called, folds) road =
      let a = acts x k f' called in
      reduce_from_yields_List (better lesser) s (Some y) (x, xs, drains, picked g f acts x xs (f', k) q y a.0 a.1 folds) road

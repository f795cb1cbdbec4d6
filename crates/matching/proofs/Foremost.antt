-- The chosen order: no candidate comes before it, for every lawful priority, also among equal stamps.
use Rattle.std.proofs.Common.{◌≡◌, ℕ, zero, suc, ◌+◌, ◌<◌, Bool, true, false, cond, not, ◌⊎◌, List, [], ◌∷◌, length, get_or, Some, None, Option, sym, refl, ap, ◌∙◌, subst, inl, inr, le_of_suc-le-suc, not-suc-le-zero, add-zero, add-suc, suc-add, zero-add, arith}
use Rattle.std.proofs.lemmas.Bool.{lt-ltb}
use Rattle.orders.specs.Rows.{order_of, cleared}
use Rattle.orders.specs.declared.order.Order.{Order}
use Rattle.orders.specs.declared.row.Row.{Row}
use Rattle.priority.specs.declared.candidate.Candidate.{Candidate}
use Rattle.matching.specs.declared.meeting.Found.{Found}
use Rattle.matching.specs.Market.{Market}
use Rattle.matching.specs.Firsts.{priced, offered, candidate_at, earlier, first_from, first}
use Rattle.std.proofs.lemmas.Option.{same_Some}

-- what is used of a lawful priority
pub record Lawful (before : Order → Candidate → Candidate → Bool) : Type 0 where
  pub irreflexive : (a : Order) (x : Candidate) → before a x x ≡ false
  pub transitive : (a : Order) (x y z : Candidate) → before a x y ≡ true → before a y z ≡ true → before a x z ≡ true
  pub one_first : (a : Order) (x y : Candidate) → (x.order.stamp ≡ y.order.stamp → ⊥) → before a x y ≡ not (before a y x)

-- an older order with a deal is a candidate
pub candidate_of : (m : Market) (a : Order) (i : ℕ) (r : Row) (o : Order) (p : ℕ) → order_of r ≡ Some o → o.stamp < a.stamp → m.deal a o ≡ Some p
    → candidate_at m a i r ≡ Some (record { place = i; candidate = record { order = o; price = p } })
candidate_of m a i r o p e h d =
    ap (offered m a i) e ∙ ap (λ (b : Bool). cond b (priced i o (m.deal a o)) None) (lt-ltb o.stamp a.stamp h) ∙ ap (priced i o) d

module _ (m : Market) (lawful : Lawful m.before) (a : Order) where
  -- x does not come before y
  abbrev pub Behind : Found → Found → Type 0
  Behind x y = m.before a x.candidate y.candidate ≡ false

  -- x is y, or comes before it
  abbrev Leads : Found → Found → Type 0
  Leads x y = (x ≡ y) ⊎ (m.before a x.candidate y.candidate ≡ true)

  behind_if : (x y : Found) → Leads x y → Behind y x
  behind_if x y l = grind (arith, lawful.irreflexive a y.candidate, lawful.transitive a y.candidate x.candidate y.candidate)

  -- with the better of two f leads the one that was held, and the next does not come before f
  leads_if : (b c f : Found) (t : Bool) → m.before a c.candidate b.candidate ≡ t → ((w : Found) → cond t (Some c) (Some b) ≡ Some w → Leads f w) → Leads f b × Behind c f
  leads_if b c f true t h = let l = h c refl in (inr (grind (arith, lawful.transitive a f.candidate c.candidate b.candidate)), behind_if f c l)
  leads_if b c f false t h = let l = h b refl in (l, grind (arith, lawful.transitive a c.candidate f.candidate b.candidate))

  leads_more : (b c : Option Found) (f : Found) → ((w : Found) → earlier m a b c ≡ Some w → Leads f w) → ((y : Found) → b ≡ Some y → Leads f y) × ((x : Found) → c ≡ Some x → Behind x f)
  leads_more None c f h = ((λ y e. absurd cc), λ x e. behind_if f x (h x e))
  leads_more (Some b) None f h = (h, λ x e. absurd cc)
  leads_more (Some b) (Some c) f h =
      let s = leads_if b c f (m.before a c.candidate b.candidate) refl h in
      ((λ y e. subst (Leads f) (same_Some b y e) s.0), λ x e. subst (λ z. Behind z f) (same_Some c x e) s.1)

  leads_all : (rows : List Row) (i : ℕ) (b : Option Found) (f : Found) → first_from m a i b rows ≡ Some f
      → ((y : Found) → b ≡ Some y → Leads f y) × ((k : ℕ) (c : Found) → k < length rows → candidate_at m a (i + k) (get_or rows k cleared) ≡ Some c → Behind c f)
  leads_all [] i b f e = (λ y s. inl (same_Some f y (sym e ∙ s)), λ k c l q. absurd (not-suc-le-zero l))
  leads_all (r ∷ rs) i b f e =
      let ih = leads_all rs (suc i) (earlier m a b (candidate_at m a i r)) f e in
      let s = leads_more b (candidate_at m a i r) f ih.0 in
      (s.0, at s.1 ih.1)
    where
      at : ((x : Found) → candidate_at m a i r ≡ Some x → Behind x f) → ((k : ℕ) (c : Found) → k < length rs → candidate_at m a (suc i + k) (get_or rs k cleared) ≡ Some c → Behind c f)
          → (k : ℕ) (c : Found) → k < suc (length rs) → candidate_at m a (i + k) (get_or (r ∷ rs) k cleared) ≡ Some c → Behind c f
      at u v zero c l q = u c (subst (λ (n : ℕ). candidate_at m a n r ≡ Some c) (add-zero i) q)
      at u v (suc k) c l q = v k c (le_of_suc-le-suc l) (subst (λ (n : ℕ). candidate_at m a n (get_or rs k cleared) ≡ Some c) (add-suc i k ∙ sym (suc-add i k)) q)

  -- no candidate comes before the chosen one
  pub first_foremost : (rows : List Row) (f : Found) → first m a rows ≡ Some f → (k : ℕ) (c : Found) → k < length rows → candidate_at m a k (get_or rows k cleared) ≡ Some c → Behind c f
  first_foremost rows f e k c l q = (leads_all rows 0 None f e).1 k c l (subst (λ (n : ℕ). candidate_at m a n (get_or rows k cleared) ≡ Some c) (sym (zero-add k)) q)

  -- and one with another stamp comes behind it
  pub first_before : (rows : List Row) (f : Found) → first m a rows ≡ Some f → (k : ℕ) (c : Found) → k < length rows → candidate_at m a k (get_or rows k cleared) ≡ Some c
      → (f.candidate.order.stamp ≡ c.candidate.order.stamp → ⊥) → m.before a f.candidate c.candidate ≡ true
  first_before rows f e k c l q ne = lawful.one_first a f.candidate c.candidate ne ∙ ap not (first_foremost rows f e k c l q)

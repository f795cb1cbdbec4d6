-- An entry that a book's rules take makes an order, and its minimum is at most its shares: for all rules that keep to the
-- ranges of orders.
use Rattle.std.specs.Prelude.{◌≡◌, ℕ, ◌≤◌, Bool, true, false, cond, not, ◌&&◌, ◌||◌, is_some, IfSome, Some, None, Ok, Err, Option, MatchOption, ◌==◌, refl}
use Rattle.std.proofs.Common.{arith}
use Rattle.std.proofs.lemmas.Bool.{and_parts, and_from, or_left}
use Rattle.std.proofs.lemmas.Bool.Decides.{nat_tests}
use Rattle.orders.specs.Codes.{kind_of, hidden_of}
use Rattle.orders.specs.Kinds.{limit_fits, minimum_fits, hides}
use Rattle.orders.specs.Ranges.{shares_fit, kind_fits}
use Rattle.orders.specs.Rows.{order_of, entry_row, fits_as}
use Rattle.orders.proofs.Bounds.{fits_from}
use Rattle.orders.proofs.Decoding.{order_from}
use Rattle.orders.specs.declared.entry.Entry.{Entry}
use Rattle.orders.specs.declared.kind.Kind.{Kind}
use Rattle.terms.specs.declared.rejection.Rejection.TheVariants.{BadKind}
use Rattle.terms.specs.Verdicts.{party_fits, first_wrong, EntryRules, verdict_at}

-- nothing is wrong just when every test passed
none_wrong : (a b c d : Bool) → first_wrong a b c d ≡ Ok tt → (a ≡ true) × (b ≡ true) × (c ≡ true) × (d ≡ true)
none_wrong true true true true e = (refl, refl, refl, refl)
none_wrong true true true false e = (cc, cc, cc, cc)
none_wrong true true false d e = (cc, cc, cc, cc)
none_wrong true false c d e = (cc, cc, cc, cc)
none_wrong false b c d e = (cc, cc, cc, cc)

-- a price under a test
pub priced_if : (b : Bool) (p : ℕ) → (b ≡ true → (1 ≤ p) × (p ≤ 4000000)) → IfSome (cond b (Some p) None) (λ n. (1 ≤ n) × (n ≤ 4000000))
priced_if true p f = f refl
priced_if false p f = tt

-- the hidden mark of an entry
abbrev is_hidden : Entry → Bool
is_hidden e = e.hidden == 1

module _ (e : Entry) (k : Kind) (may_hide : Bool) (s : ℕ) (low : 1 ≤ s) (high : s ≤ 1000000)
    (party : party_fits e may_hide ≡ true) (shares : shares_fit e.shares ≡ true)
    (kind : kind_of e.kind ≡ Some k) (ranges : kind_fits k e.limit e.minimum (is_hidden e) ≡ true) where
  hidden_known : hidden_of e.hidden ≡ Some (is_hidden e)
  hidden_known = grind (arith, nat_tests)

  fits : fits_as (entry_row e s) k (is_hidden e) ≡ true
  fits =
      fits_from k e.shares e.shares e.limit e.minimum e.broker (is_hidden e) s s (grind (arith, nat_tests)) ranges

  makes_order : is_some (order_of (entry_row e s)) ≡ true
  makes_order = order_from (entry_row e s) _ _ _ _ k (is_hidden e) (grind (arith, nat_tests)) kind (grind (arith, nat_tests)) hidden_known fits

-- rules that keep to the ranges of orders
pub record Sound (b : EntryRules) : Type 0 where
  pub hidden : (k : Kind) → b.trades k ≡ true → b.may_hide k ≡ true → hides k ≡ true
  pub below : (k : Kind) (n m : ℕ) → b.trades k ≡ true → 1 ≤ n → b.allows k n m ≡ true → m ≤ n
  pub minimum : (k : Kind) (n m : ℕ) → b.trades k ≡ true → 1 ≤ n → n ≤ 10000000 → b.allows k n m ≡ true → minimum_fits k m ≡ true

hidden_allowed : (may able : Bool) (n : ℕ) → (n == 0 || (may && n == 1)) ≡ true → (may ≡ true → able ≡ true) → (able || not (n == 1)) ≡ true
hidden_allowed true able n h f = or_left _ _ (f refl)
hidden_allowed false able n h f = grind (arith, nat_tests)

-- what a taken entry has passed
pub record Passed (b : EntryRules) (e : Entry) (k : Kind) : Type 0 where
  pub trades : b.trades k ≡ true
  pub party : party_fits e (b.may_hide k) ≡ true
  pub shares : shares_fit e.shares ≡ true
  pub limit : limit_fits k e.limit ≡ true
  pub allows : b.allows k e.shares e.minimum ≡ true

module _ (b : EntryRules) (e : Entry) where
  passed_if : (k : Kind) (t : Bool) → b.trades k ≡ t
      → cond t (first_wrong (party_fits e (b.may_hide k)) (shares_fit e.shares && b.whole e.shares) (limit_fits k e.limit) (b.allows k e.shares e.minimum)) (Err BadKind) ≡ Ok tt
      → Passed b e k
  passed_if k false t h = let z : ◌≡◌ {A = ℕ} 0 1 = cc in absurd (omega arith)
  passed_if k true t h =
      let j = none_wrong (party_fits e (b.may_hide k)) (shares_fit e.shares && b.whole e.shares) (limit_fits k e.limit) (b.allows k e.shares e.minimum) h in
      record { trades = t; party = j.0; shares = (and_parts _ _ j.1).0; limit = j.2; allows = j.3 }

  passed_at : (k : Option Kind) → verdict_at b e k ≡ Ok tt → MatchOption k ⊥ (Passed b e)
  passed_at None h = let z : ◌≡◌ {A = ℕ} 0 1 = cc in omega arith
  passed_at (Some k) h = passed_if k (b.trades k) refl h

module _ (b : EntryRules) (sound : Sound b) (e : Entry) where
  least : (k : Kind) → Passed b e k → e.minimum ≤ e.shares
  least k p =
      let n = p.shares in let one : 1 ≤ e.shares = grind (arith, nat_tests) in
      sound.below k e.shares e.minimum p.trades one p.allows

  taken_modest : (k : Option Kind) → MatchOption k ⊥ (Passed b e) → e.minimum ≤ e.shares
  taken_modest None p = absurd p
  taken_modest (Some k) p = least k p

  -- its minimum is at most its shares
  pub modest : verdict_at b e (kind_of e.kind) ≡ Ok tt → e.minimum ≤ e.shares
  modest h = taken_modest (kind_of e.kind) (passed_at b e (kind_of e.kind) h)

  taken_order : (s : ℕ) → 1 ≤ s → s ≤ 1000000 → (k : Option Kind) → kind_of e.kind ≡ k → MatchOption k ⊥ (Passed b e) → is_some (order_of (entry_row e s)) ≡ true
  taken_order s low high None ek p = absurd p
  taken_order s low high (Some k) ek p =
      let n = p.shares in
      let one : 1 ≤ e.shares = grind (arith, nat_tests) in
      let most : e.shares ≤ 10000000 = grind (arith, nat_tests) in
      let m = sound.minimum k e.shares e.minimum p.trades one most p.allows in
      makes_order e k (b.may_hide k) s low high p.party p.shares ek
      (and_from _ _ (and_from _ _ p.limit m) (hidden_allowed (b.may_hide k) (hides k) e.hidden (and_parts _ _ p.party).1 (sound.hidden k p.trades)))

  -- at any stamp its row is an order
  pub takes : verdict_at b e (kind_of e.kind) ≡ Ok tt → (s : ℕ) → 1 ≤ s → s ≤ 1000000 → is_some (order_of (entry_row e s)) ≡ true
  takes h s low high = taken_order s low high (kind_of e.kind) refl (passed_at b e (kind_of e.kind) h)

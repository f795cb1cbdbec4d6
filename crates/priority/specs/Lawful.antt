-- A priority by price, display, broker, a size and time is lawful, whatever size counts.
use Rattle.std.specs.Prelude.{◌≡◌, ℕ, Bool, true, false, not, ◌≢◌}
use Rattle.std.proofs.Common.{arith}
use Rattle.std.proofs.lemmas.Bool.{or_left}
use Rattle.std.proofs.lemmas.Bool.Decides.{nat_tests}
use Rattle.orders.specs.Codes.{hidden_code}
use Rattle.orders.specs.Sides.{better}
use Rattle.orders.specs.declared.order.Order.{Order}
use Rattle.orders.specs.declared.side.Side.{Side}
use Rattle.priority.specs.declared.candidate.Candidate.{Candidate}
use Rattle.priority.specs.Ranking.{lower, better_or, other_broker, sized_before}

-- one comparison keeps each law of what follows it
lower_through : (x y z : ℕ) (u v w : Bool) → (u ≡ true → v ≡ true → w ≡ true) → lower x y u ≡ true → lower y z v ≡ true → lower x z w ≡ true
lower_through x y z u v w f h k = grind (arith, nat_tests)

lower_one : (x y : ℕ) (u v : Bool) → u ≡ not v → lower x y u ≡ not (lower y x v)
lower_one x y u v h = grind (arith, nat_tests)

-- and so does the price, for either side
price_through : (s : Side) (p q r : ℕ) (u v w : Bool) → (u ≡ true → v ≡ true → w ≡ true) → better_or s p q u ≡ true → better_or s q r v ≡ true → better_or s p r w ≡ true
price_through s p q r u v w f h k = grind (arith, nat_tests)

price_one : (s : Side) (p q : ℕ) (u v : Bool) → u ≡ not v → better_or s p q u ≡ not (better_or s q p v)
price_one s p q u v h = grind (arith, nat_tests)

module _ (size : Order → ℕ) (a : Order) where
  abbrev by : Candidate → Candidate → Bool
  by = sized_before size a

  pub irreflexive : (x : Candidate) → by x x ≡ false
  irreflexive x = grind (arith, nat_tests)

  pub transitive : (x y z : Candidate) → by x y ≡ true → by y z ≡ true → by x z ≡ true
  transitive x y z =
      price_through a.side x.price y.price z.price _ _ _
      (lower_through (hidden_code x.order.hidden) (hidden_code y.order.hidden) (hidden_code z.order.hidden) _ _ _
      (lower_through (other_broker a x.order) (other_broker a y.order) (other_broker a z.order) _ _ _
      (λ h k. lower_through (size z.order) (size y.order) (size x.order) _ _ _ (λ p q. grind (arith, nat_tests)) k h)))

  pub one_first : (x y : Candidate) → (x.order.stamp ≢ y.order.stamp) → by x y ≡ not (by y x)
  one_first x y n = search (price_one, lower_one, arith, nat_tests)

  pub better_price : (x y : Candidate) → better a.side x.price y.price ≡ true → by x y ≡ true
  better_price x y h = or_left _ _ h

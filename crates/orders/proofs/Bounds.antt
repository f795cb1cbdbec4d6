-- What the ranges of orders, quotes and lots say in numbers.
use Rattle.std.proofs.Common.{◌≡◌, ℕ, ◌<◌, ◌≤◌, Bool, true, arith}
use Rattle.std.proofs.lemmas.Bool.{and_parts, and_from, ltb-true}
use Rattle.std.proofs.lemmas.Bool.Decides.{nat_tests}
use Rattle.orders.specs.Grid.{on_grid}
use Rattle.orders.specs.Kinds.{limit_fits}
use Rattle.orders.specs.Ranges.{order_fits, plain_fits, kind_fits}
use Rattle.orders.specs.declared.kind.Kind.{Kind}
use Rattle.orders.specs.declared.kind.Kind.TheVariants.{Limit, LimitAtOnce, Market, MiddlePeg, MinimumImprovement, MinimumEach, MinimumSum, SeekImprovement}
use Rattle.orders.specs.declared.order.Order.{Order}
use Rattle.orders.specs.declared.price.Price.{Price}
use Rattle.orders.specs.declared.quote.Quote.{Quote}

grid_between : (n : ℕ) → on_grid n ≡ true → (2 ≤ n) × (n ≤ 4000000)
grid_between n h = (grind (arith, nat_tests), grind (arith, nat_tests))

pub price_between : (p : Price) → (2 ≤ p.quarters) × (p.quarters ≤ 4000000)
price_between p = grid_between p.quarters p.ok

pub bid_below : (q : Quote) → q.bid.quarters < q.offer.quarters
bid_below q = ltb-true q.bid.quarters q.offer.quarters q.ok

-- the limit that the kind allows
pub limit_fits_lem : (o : Order) → limit_fits o.kind o.limit ≡ true
unfolding order_fits
limit_fits_lem o = (and_parts _ _ (and_parts _ _ (and_parts _ _ o.ok).1).0).0

limit_under : (k : Kind) (n : ℕ) → limit_fits k n ≡ true → n ≤ 4000000
limit_under Limit n h = (grid_between n h).1
limit_under LimitAtOnce n h = (grid_between n h).1
limit_under Market n h = grind (arith, nat_tests)
limit_under MiddlePeg n h = grind (arith, nat_tests)
limit_under MinimumImprovement n h = grind (arith, nat_tests)
limit_under MinimumEach n h = (grid_between n h).1
limit_under MinimumSum n h = (grid_between n h).1
limit_under SeekImprovement n h = (grid_between n h).1

pub limit_most : (o : Order) → o.limit ≤ 4000000
limit_most o = limit_under o.kind o.limit (limit_fits_lem o)

-- the ranges from their two parts
pub fits_from : (k : Kind) (left size limit minimum broker : ℕ) (hidden : Bool) (stamp number : ℕ)
    → plain_fits left size broker stamp number ≡ true → kind_fits k limit minimum hidden ≡ true
    → order_fits k left size limit minimum broker hidden stamp number ≡ true
unfolding order_fits
fits_from k left size limit minimum broker hidden stamp number a b = and_from _ _ a b

-- What an order with a minimum in sum finds at the touch.
use Rattle.std.specs.Prelude.{ℕ, ◌+◌, Bool, true, false, cond, not, ◌&&◌, List, [], ◌∷◌, Some, None, Option, ◌==◌, nat_lt}
use Rattle.orders.specs.Quotes.{touch}
use Rattle.orders.specs.Rows.{order_of, in_force}
use Rattle.orders.specs.declared.kind.Kind.{Kind}
use Rattle.orders.specs.declared.kind.Kind.TheVariants.{Limit, LimitAtOnce, Market, MiddlePeg, MinimumImprovement, MinimumEach, MinimumSum, SeekImprovement}
use Rattle.orders.specs.declared.order.Order.{Order}
use Rattle.orders.specs.declared.quote.Quote.{Quote}
use Rattle.orders.specs.declared.row.Row.{Row}
use Rattle.orders.specs.declared.side.Side.{Side}
use Rattle.matching.specs.Market as market

-- without a quote there is no touch
abbrev pub is_touch : Option Quote → Side → (price : ℕ) → Bool
is_touch None side price = false
is_touch (Some q) side price = price == touch side q

abbrev pub dealt_at_touch : Option Quote → Side → (deal : Option ℕ) → Bool
dealt_at_touch q side None = false
dealt_at_touch q side (Some price) = is_touch q side price

-- an order counts with its shares left if its minimum is 0 and it has a deal at the touch with the active one
abbrev pub counted : market.Market → (active : Order) → Order → ℕ
counted m a o = cond {A = ℕ} (o.minimum == 0 && dealt_at_touch m.quote a.side (m.deal a o)) o.left 0

abbrev pub weighed : (Order → ℕ) → Option Order → ℕ
weighed g None = 0
weighed g (Some o) = g o

-- a sum over all orders in the places
abbrev pub sum_of : (Order → ℕ) → List Row → ℕ
sum_of g [] = 0
sum_of g (r ∷ rs) = weighed g (order_of r) + sum_of g rs

-- only the minimum in sum is measured
abbrev pub asks_in_sum : Kind → Bool
asks_in_sum Limit = false
asks_in_sum LimitAtOnce = false
asks_in_sum Market = false
asks_in_sum MiddlePeg = false
asks_in_sum MinimumImprovement = false
asks_in_sum MinimumEach = false
asks_in_sum MinimumSum = true
asks_in_sum SeekImprovement = false

-- An order with a minimum in sum stops before its first fill at the touch, if what it finds there is less than its
-- minimum in force. Once it has filled at the touch it is not measured again.
abbrev pub stops : market.Market → (touched : Bool) → (active : Order) → List Row → (price : ℕ) → Bool
stops m touched a rows price =
    not touched && asks_in_sum a.kind && is_touch m.quote a.side price && nat_lt (sum_of (counted m a) rows) (in_force a)

-- What turns on the kind of an order alone.
use Rattle.std.specs.Prelude.{ℕ, Bool, true, false, ◌==◌, nat_le}
use Rattle.orders.specs.Grid.{on_grid}
use Rattle.orders.specs.declared.kind.Kind.{Kind}
use Rattle.orders.specs.declared.kind.Kind.TheVariants.{Limit, LimitAtOnce, Market, MiddlePeg, MinimumImprovement, MinimumEach, MinimumSum, SeekImprovement}

-- a remainder rests; that of the other kinds, the at-once kinds, is cancelled
abbrev pub rests : Kind → Bool
rests Limit = true
rests LimitAtOnce = false
rests Market = false
rests MiddlePeg = true
rests MinimumImprovement = true
rests MinimumEach = false
rests MinimumSum = false
rests SeekImprovement = false

-- market orders and pegs carry limit 0, the others a price on the grid
abbrev pub limit_fits : Kind → ℕ → Bool
limit_fits Limit limit = on_grid limit
limit_fits LimitAtOnce limit = on_grid limit
limit_fits Market limit = limit == 0
limit_fits MiddlePeg limit = limit == 0
limit_fits MinimumImprovement limit = limit == 0
limit_fits MinimumEach limit = on_grid limit
limit_fits MinimumSum limit = on_grid limit
limit_fits SeekImprovement limit = on_grid limit

-- the most shares that an order has or asks for
abbrev pub most_shares : ℕ
most_shares = 10000000

-- market and seeking orders carry no minimum; what more is asked of a minimum turns on the book and its lot
abbrev pub minimum_fits : Kind → ℕ → Bool
minimum_fits Limit minimum = nat_le minimum most_shares
minimum_fits LimitAtOnce minimum = nat_le minimum most_shares
minimum_fits Market minimum = minimum == 0
minimum_fits MiddlePeg minimum = nat_le minimum most_shares
minimum_fits MinimumImprovement minimum = nat_le minimum most_shares
minimum_fits MinimumEach minimum = nat_le minimum most_shares
minimum_fits MinimumSum minimum = nat_le minimum most_shares
minimum_fits SeekImprovement minimum = minimum == 0

-- only a plain limit order can be hidden
abbrev pub hides : Kind → Bool
hides Limit = true
hides LimitAtOnce = false
hides Market = false
hides MiddlePeg = false
hides MinimumImprovement = false
hides MinimumEach = false
hides MinimumSum = false
hides SeekImprovement = false

-- The terms of the dark book.
use Rattle.std.specs.Prelude.{ℕ, ◌*◌, ◌%◌, min, max, Bool, true, false, cond, ◌&&◌, ◌||◌, Some, None, Option, Result, ◌==◌, nat_le, nat_lt}
use Rattle.orders.specs.Grid.{step_above, step_below}
use Rattle.orders.specs.Quotes.{middle, narrow, touch}
use Rattle.orders.specs.Rows.{in_force}
use Rattle.orders.specs.Sides.{opposite, no_worse}
use Rattle.orders.specs.declared.entry.Entry.{Entry}
use Rattle.orders.specs.declared.kind.Kind.{Kind}
use Rattle.orders.specs.declared.kind.Kind.TheVariants.{Limit, LimitAtOnce, Market, MiddlePeg, MinimumImprovement, MinimumEach, MinimumSum, SeekImprovement}
use Rattle.orders.specs.declared.lot.Lot.{Lot}
use Rattle.orders.specs.declared.order.Order.{Order}
use Rattle.orders.specs.declared.quote.Quote.{Quote}
use Rattle.orders.specs.declared.side.Side.{Side}
use Rattle.orders.specs.declared.side.Side.TheVariants.{Buy, Sell}
use Rattle.terms.specs.Verdicts.{EntryRules, verdict_by}
use Rattle.terms.specs.declared.rejection.Rejection.{Rejection}

-- where a plain limit order stands: a buyer never above the offer, a seller never below the bid
abbrev pub capped : Side → (limit : ℕ) → Quote → ℕ
capped Buy limit q = min limit q.offer.quarters
capped Sell limit q = max limit q.bid.quarters

-- one step inside the quote from the order's own side, or the middle of a narrow quote
abbrev pub inside_price : Side → Quote → ℕ
inside_price Buy q = cond (narrow q) (middle q) (step_above q.bid.quarters)
inside_price Sell q = cond (narrow q) (middle q) (step_below q.offer.quarters)

-- the standing price of a resting order; one of a kind that does not rest has none
abbrev pub standing : Kind → Side → (limit : ℕ) → Quote → Option ℕ
standing Limit side limit q = Some (capped side limit q)
standing LimitAtOnce side limit q = None
standing Market side limit q = None
standing MiddlePeg side limit q = Some (middle q)
standing MinimumImprovement side limit q = Some (inside_price side q)
standing MinimumEach side limit q = None
standing MinimumSum side limit q = None
standing SeekImprovement side limit q = None

-- the own limit of an active order: a peg's is its standing price, and a market order has none
abbrev pub own_limit : Kind → Side → (limit : ℕ) → Quote → Option ℕ
own_limit Limit side limit q = Some limit
own_limit LimitAtOnce side limit q = Some limit
own_limit Market side limit q = None
own_limit MiddlePeg side limit q = Some (middle q)
own_limit MinimumImprovement side limit q = Some (inside_price side q)
own_limit MinimumEach side limit q = Some limit
own_limit MinimumSum side limit q = Some limit
own_limit SeekImprovement side limit q = Some limit

-- a price is no worse than a limit, if there is one
abbrev pub keeps : Side → (price : ℕ) → (limit : Option ℕ) → Bool
keeps side price None = true
keeps side price (Some limit) = no_worse side price limit

abbrev pub within_limit : Kind → Side → (limit : ℕ) → Quote → (price : ℕ) → Bool
within_limit kind side limit q price = keeps side price (own_limit kind side limit q)

-- the improving edge: one step inside the quote from the other side, or the middle of a narrow quote
abbrev pub improving_edge : Side → Quote → ℕ
improving_edge Buy q = cond (narrow q) (middle q) (step_below q.offer.quarters)
improving_edge Sell q = cond (narrow q) (middle q) (step_above q.bid.quarters)

-- the size test: more than 50 lots, or more than 40,000,000 quarter cents at the touch
abbrev pub passes : Side → (size : ℕ) → Quote → Lot → Bool
passes side size q lot = nat_lt (50 * lot.shares) size || nat_lt 40000000 (size * touch side q)

-- the edge: the touch for an order that passes the size test and does not seek improvement, else the improving edge
abbrev pub edge : Kind → Side → (size : ℕ) → Quote → Lot → ℕ
edge Limit side size q lot = cond (passes side size q lot) (touch side q) (improving_edge side q)
edge LimitAtOnce side size q lot = cond (passes side size q lot) (touch side q) (improving_edge side q)
edge Market side size q lot = cond (passes side size q lot) (touch side q) (improving_edge side q)
edge MiddlePeg side size q lot = cond (passes side size q lot) (touch side q) (improving_edge side q)
edge MinimumImprovement side size q lot = cond (passes side size q lot) (touch side q) (improving_edge side q)
edge MinimumEach side size q lot = cond (passes side size q lot) (touch side q) (improving_edge side q)
edge MinimumSum side size q lot = cond (passes side size q lot) (touch side q) (improving_edge side q)
edge SeekImprovement side size q lot = improving_edge side q

-- the shares that an active order asks of the one it meets: its minimum in force, but a minimum for each order asks only
-- at the touch, and a minimum in sum asks nothing of one order
abbrev pub asks : Kind → (in_force touch price : ℕ) → ℕ
asks Limit m t price = m
asks LimitAtOnce m t price = m
asks Market m t price = m
asks MiddlePeg m t price = m
asks MinimumImprovement m t price = m
asks MinimumEach m t price = cond (price == t) m 0
asks MinimumSum m t price = 0
asks SeekImprovement m t price = m

-- an active order takes the price at which a resting one stands, and each has what the other asks
abbrev pub agrees : (active resting : Order) → Quote → Lot → (price : ℕ) → Bool
agrees a r q lot price =
    within_limit a.kind a.side a.limit q price
    && no_worse a.side price (edge a.kind a.side a.size q lot)
    && nat_le (asks a.kind (in_force a) (touch a.side q) price) r.left
    && nat_le (in_force r) a.left

abbrev pub deal_at : (active resting : Order) → Quote → Lot → (standing : Option ℕ) → Option ℕ
deal_at a r q lot None = None
deal_at a r q lot (Some price) = cond (agrees a r q lot price) (Some price) None

-- under a quote and between opposite sides, the standing price if the two agree
abbrev pub dark_deal : (active resting : Order) → Option Quote → Lot → Option ℕ
dark_deal a r None lot = None
dark_deal a r (Some q) lot = cond (opposite a.side r.side) (deal_at a r q lot (standing r.kind r.side r.limit q)) None

abbrev pub whole_lots : Lot → ℕ → Bool
whole_lots lot n = n % lot.shares == 0

-- the minimum of an entry: whole lots and no more than the shares, at least one lot for the kinds named after it, and none
-- for market and seeking orders
abbrev pub dark_minimum : Lot → Kind → (shares minimum : ℕ) → Bool
dark_minimum lot Limit n m = nat_le m n && whole_lots lot m
dark_minimum lot LimitAtOnce n m = nat_le m n && whole_lots lot m
dark_minimum lot Market n m = m == 0
dark_minimum lot MiddlePeg n m = nat_le m n && whole_lots lot m
dark_minimum lot MinimumImprovement n m = nat_le m n && whole_lots lot m
dark_minimum lot MinimumEach n m = nat_le lot.shares m && nat_le m n && whole_lots lot m
dark_minimum lot MinimumSum n m = nat_le lot.shares m && nat_le m n && whole_lots lot m
dark_minimum lot SeekImprovement n m = m == 0

-- every kind, none hidden, whole lots
abbrev pub dark_rules : Lot → EntryRules
dark_rules lot = record { trades = λ _. true; may_hide = λ _. false; whole = whole_lots lot; allows = dark_minimum lot }

abbrev pub dark_verdict : Entry → Lot → Result (Unit {0}) Rejection
dark_verdict e lot = verdict_by (dark_rules lot) e

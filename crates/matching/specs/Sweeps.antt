-- The sweep: the oldest resting order that has a deal, as active, with an older one fills with the first of these, again
-- and again.
use Rattle.std.specs.Prelude.{ℕ, zero, suc, ◌+◌, cond, List, [], ◌∷◌, ◌++◌, is_some, Some, None, Option, nat_lt, slice_set}
use Rattle.orders.specs.Rows.{order_of}
use Rattle.orders.specs.declared.call.Fill.{Fill}
use Rattle.orders.specs.declared.order.Order.{Order}
use Rattle.orders.specs.declared.row.Row.{Row}
use Rattle.matching.specs.declared.meeting.Found.{Found}
use Rattle.matching.specs.declared.meeting.Pair.{Pair}
use Rattle.matching.specs.Market.{Market}
use Rattle.matching.specs.Trades.{fill_of, left_active, left_passive}
use Rattle.matching.specs.Firsts.{first}

-- what a sweep leaves: the places, and the fills that were made
pub record Swept : Type 0 where
  pub rows : List Row
  pub fills : List Fill

abbrev pub pair_of : ℕ → (active : Order) → Option Found → Option Pair
pair_of i a None = None
pair_of i a (Some f) = Some (record { place = i; meeting = record { active = a; found = f } })

abbrev pub pair_by : Market → List Row → ℕ → Option Order → Option Pair
pair_by m all i None = None
pair_by m all i (Some a) = pair_of i a (first m a all)

-- the order of a place, as active, with the first that it could meet
abbrev pub pair_at : Market → List Row → ℕ → Row → Option Pair
pair_at m all i r = pair_by m all i (order_of r)

-- the pair with the older active order; the one that is held, where the stamps are equal
abbrev pub older : (held next : Option Pair) → Option Pair
older None c = c
older (Some b) None = Some b
older (Some b) (Some c) = cond (nat_lt c.meeting.active.stamp b.meeting.active.stamp) (Some c) (Some b)

abbrev pub oldest_from : Market → List Row → ℕ → (held : Option Pair) → List Row → Option Pair
oldest_from m all i held [] = held
oldest_from m all i held (r ∷ rs) = oldest_from m all (suc i) (older held (pair_at m all i r)) rs

abbrev pub oldest : Market → List Row → Option Pair
oldest m rows = oldest_from m rows 0 None rows

-- the places after a trade of two resting orders
abbrev pub traded : List Row → Pair → List Row
traded rows p = slice_set (slice_set rows p.place (left_active p.meeting)) p.meeting.found.place (left_passive p.meeting)

abbrev pub still : List Row → Swept
still rows = record { rows = rows; fills = [] }

abbrev pub ahead : List Fill → Swept → Swept
ahead fs d = record { rows = d.rows; fills = fs ++ d.fills }

abbrev pub round : List Row → (List Row → Swept) → Option Pair → Swept
round rows go None = still rows
round rows go (Some p) = ahead (fill_of p.meeting ∷ []) (go (traded rows p))

-- at most n trades
abbrev pub sweep : Market → ℕ → List Row → Swept
sweep m zero rows = still rows
sweep m (suc n) rows = round rows (λ ss. sweep m n ss) (oldest m rows)

-- how many places hold an order
abbrev pub occupied : List Row → ℕ
occupied [] = 0
occupied (r ∷ rs) = cond {A = ℕ} (is_some (order_of r)) 1 0 + occupied rs

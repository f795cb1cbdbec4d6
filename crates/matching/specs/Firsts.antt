-- The first by priority of the older orders with a deal.
use Rattle.std.specs.Prelude.{ℕ, suc, Bool, cond, ◌||◌, List, [], ◌∷◌, Some, None, Option, ◌==◌, nat_le, nat_lt}
use Rattle.orders.specs.Codes.{side_code}
use Rattle.orders.specs.Rows.{order_of}
use Rattle.orders.specs.declared.order.Order.{Order}
use Rattle.orders.specs.declared.row.Row.{Row}
use Rattle.matching.specs.declared.meeting.Found.{Found}
use Rattle.matching.specs.Market.{Market}

abbrev pub priced : ℕ → Order → (deal : Option ℕ) → Option Found
priced i o None = None
priced i o (Some p) = Some (record { place = i; candidate = record { order = o; price = p } })

abbrev pub offered : Market → (active : Order) → ℕ → Option Order → Option Found
offered m a i None = None
offered m a i (Some o) = cond (nat_lt o.stamp a.stamp) (priced i o (m.deal a o)) None

-- what a place offers an active order: an order that is older and has a deal with it, or nothing
abbrev pub candidate_at : Market → (active : Order) → ℕ → Row → Option Found
candidate_at m a i r = offered m a i (order_of r)

-- what two numbers of a row tell: whatever order it holds is not older, or on the same side
abbrev pub passed_over : (active : Order) → Row → Bool
passed_over a r = nat_le a.stamp r.stamp || r.side == side_code a.side

-- of the one that is held and the next, the one that comes first; the one that is held, where they are level
abbrev pub earlier : Market → (active : Order) → (held next : Option Found) → Option Found
earlier m a None c = c
earlier m a (Some b) None = Some b
earlier m a (Some b) (Some c) = cond (m.before a c.candidate b.candidate) (Some c) (Some b)

-- through the places in turn, from place i on
abbrev pub first_from : Market → (active : Order) → ℕ → (held : Option Found) → List Row → Option Found
first_from m a i held [] = held
first_from m a i held (r ∷ rs) = first_from m a (suc i) (earlier m a held (candidate_at m a i r)) rs

abbrev pub first : Market → (active : Order) → List Row → Option Found
first m a rows = first_from m a 0 None rows

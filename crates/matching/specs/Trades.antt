-- What a trade of two orders is, and what it leaves of them.
use Rattle.std.specs.Prelude.{ℕ, ◌-◌, min, cond, nat_lt}
use Rattle.orders.specs.Rows.{row_of, cleared}
use Rattle.orders.specs.declared.call.Fill.{Fill}
use Rattle.orders.specs.declared.row.Row.{Row}
use Rattle.orders.specs.declared.side.Side.{Side}
use Rattle.orders.specs.declared.side.Side.TheVariants.{Buy, Sell}
use Rattle.matching.specs.declared.meeting.Meeting.{Meeting}

abbrev pub with_left : Row → ℕ → Row
with_left r n = record {
  side = r.side;
  kind = r.kind;
  left = n;
  size = r.size;
  limit = r.limit;
  minimum = r.minimum;
  broker = r.broker;
  mark = r.mark;
  hidden = r.hidden;
  stamp = r.stamp;
  number = r.number;
}

-- a row with some shares fewer; a cleared one where none is left
abbrev pub lessened : Row → ℕ → Row
lessened r n = cond (nat_lt n r.left) (with_left r (r.left - n)) cleared

-- the fewer of what the two have left
abbrev pub shares : Meeting → ℕ
shares t = min t.active.left t.found.candidate.order.left

abbrev pub fill_between : Side → (active passive price shares : ℕ) → Fill
fill_between Buy a p price n = record { buyer = a; seller = p; price = price; shares = n; active = Buy }
fill_between Sell a p price n = record { buyer = p; seller = a; price = price; shares = n; active = Sell }

-- at the price of the deal
abbrev pub fill_of : Meeting → Fill
fill_of t = fill_between t.active.side t.active.number t.found.candidate.order.number t.found.candidate.price (shares t)

-- what is left of the active order
abbrev pub left_active : Meeting → Row
left_active t = lessened (row_of t.active) (shares t)

-- what is left of the resting order
abbrev pub left_passive : Meeting → Row
left_passive t = lessened (row_of t.found.candidate.order) (shares t)

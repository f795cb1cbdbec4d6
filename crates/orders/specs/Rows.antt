-- An order as a row of plain numbers, and the order of a row.
use Rattle.std.specs.Prelude.{◌≡◌, ℕ, min, Bool, true, false, cond, ◌&&◌, ◌||◌, Some, None, Option, ◌==◌, nat_le, refl}
use Rattle.orders.specs.Codes.{side_code, kind_code, mark_code, hidden_code, side_of, kind_of, mark_of, hidden_of}
use Rattle.orders.specs.Grid.{on_grid}
use Rattle.orders.specs.Kinds.{most_shares}
use Rattle.orders.specs.Ranges.{plain_fits, order_fits}
use Rattle.orders.specs.declared.side.Side.{Side}
use Rattle.orders.specs.declared.kind.Kind.{Kind}
use Rattle.orders.specs.declared.mark.Mark.{Mark}
use Rattle.orders.specs.declared.order.Order.{Order}
use Rattle.orders.specs.declared.row.Row.{Row}
use Rattle.orders.specs.declared.entry.Entry.{Entry}

-- a free place that was cleared
abbrev pub cleared : Row
cleared = record { side = 0; kind = 0; left = 0; size = 0; limit = 0; minimum = 0; broker = 0; mark = 0; hidden = 0; stamp = 0; number = 0 }

abbrev pub row_of : Order → Row
row_of o = record {
  side = side_code o.side;
  kind = kind_code o.kind;
  left = o.left;
  size = o.size;
  limit = o.limit;
  minimum = o.minimum;
  broker = o.broker;
  mark = mark_code o.mark;
  hidden = hidden_code o.hidden;
  stamp = o.stamp;
  number = o.number;
}

-- the row's numbers are in range for an order of this kind and hidden mark
abbrev pub fits_as : Row → Kind → Bool → Bool
fits_as r kind hidden = order_fits kind r.left r.size r.limit r.minimum r.broker hidden r.stamp r.number

-- the order with these parts, if the test of its ranges passed
abbrev pub ordered : (r : Row) (side : Side) (kind : Kind) (mark : Mark) (hidden passed : Bool) → fits_as r kind hidden ≡ passed → Option Order
ordered r side kind mark hidden true e = Some (record {
  side = side;
  kind = kind;
  left = r.left;
  size = r.size;
  limit = r.limit;
  minimum = r.minimum;
  broker = r.broker;
  mark = mark;
  hidden = hidden;
  stamp = r.stamp;
  number = r.number;
  ok = e;
})
ordered r side kind mark hidden false e = None

abbrev pub decoded : Row → Option Side → Option Kind → Option Mark → Option Bool → Option Order
decoded r None kind mark hidden = None
decoded r (Some s) None mark hidden = None
decoded r (Some s) (Some k) None hidden = None
decoded r (Some s) (Some k) (Some m) None = None
decoded r (Some s) (Some k) (Some m) (Some h) = ordered r s k m h (fits_as r k h) refl

-- the order that stands in a row, or none: then the place is free
abbrev pub order_of : Row → Option Order
order_of r = decoded r (side_of r.side) (kind_of r.kind) (mark_of r.mark) (hidden_of r.hidden)

-- the numbers of side, kind, mark and hidden mark stand for something
abbrev pub codes_fit : (side kind mark hidden : ℕ) → Bool
codes_fit side kind mark hidden = (side == 1 || side == 2) && (nat_le 1 kind && nat_le kind 8) && nat_le mark 2 && nat_le hidden 1

-- in plain numbers: kinds 3, 4 and 5 have limit 0 and the others a price, kinds 3 and 8 have no minimum, and only kind 1
-- may be hidden
abbrev pub kind_numbers_fit : (kind limit minimum hidden : ℕ) → Bool
kind_numbers_fit kind limit minimum hidden =
    cond (nat_le 3 kind && nat_le kind 5) (limit == 0) (on_grid limit)
    && cond (kind == 3 || kind == 8) (minimum == 0) (nat_le minimum most_shares)
    && (kind == 1 || hidden == 0)

-- every field of the row is in its own range: just then it holds an order
abbrev pub row_fits : Row → Bool
row_fits r =
    codes_fit r.side r.kind r.mark r.hidden
    && (plain_fits r.left r.size r.broker r.stamp r.number && kind_numbers_fit r.kind r.limit r.minimum r.hidden)

-- the row of an entry that takes this stamp: its size is its shares, and its number its first stamp
abbrev pub entry_row : Entry → ℕ → Row
entry_row e stamp = record {
  side = e.side;
  kind = e.kind;
  left = e.shares;
  size = e.shares;
  limit = e.limit;
  minimum = e.minimum;
  broker = e.broker;
  mark = e.mark;
  hidden = e.hidden;
  stamp = stamp;
  number = stamp;
}

-- the minimum in force
abbrev pub in_force : Order → ℕ
in_force o = min o.minimum o.left

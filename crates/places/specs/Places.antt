-- What lies where in the places.
use Rattle.std.specs.Prelude.{ℕ, Bool, cond, not, ◌&&◌, List, length, get_or, position, is_some, Some, None, Ok, Err, Option, Result, ◌==◌, nat_lt, slice_index_or, slice_set}
use Rattle.orders.specs.declared.refusal.Refusal.{Refusal}
use Rattle.orders.specs.declared.refusal.Refusal.TheVariants.{NotResting}
use Rattle.orders.specs.Rows.{order_of, cleared}
use Rattle.orders.specs.declared.row.Row.{Row}

abbrev pub is_free : Row → Bool
is_free r = not (is_some (order_of r))

-- the lowest place that holds no order
abbrev pub free_place : List Row → Option ℕ
free_place rows = position is_free rows

abbrev pub holds_number : (number : ℕ) → Row → Bool
holds_number n r = is_some (order_of r) && r.number == n

-- the lowest place that holds the order of this number
abbrev pub place_of : (number : ℕ) → List Row → Option ℕ
place_of n rows = position (holds_number n) rows

abbrev pub look_up : (place : Option ℕ) → Result ℕ Refusal
look_up None = Err NotResting
look_up (Some i) = Ok i

-- a row that stays is written into its place
abbrev pub placed : (place : Option ℕ) → (stays : Bool) → Row → List Row → List Row
placed None stays r rows = rows
placed (Some i) stays r rows = cond (stays && nat_lt i (length rows)) (slice_set rows i r) rows

-- the shares left in a place, of an order that stayed there
abbrev pub left_at : (place : Option ℕ) → (stays : Bool) → List Row → ℕ
left_at None stays rows = 0
left_at (Some i) stays rows = cond {A = ℕ} (stays && nat_lt i (length rows)) (get_or rows i cleared).left 0

-- the row of a place
abbrev pub row_at : (place : Option ℕ) → List Row → Row
row_at None rows = cleared
row_at (Some i) rows = slice_index_or rows i cleared

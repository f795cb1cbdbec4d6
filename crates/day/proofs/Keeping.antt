-- What holds of the sheet and the places between two calls, and while an entered order is active.
use Rattle.std.proofs.Common.{◌≡◌, ℕ, ◌<◌, ◌⊎◌, List, Some, None}
use Rattle.orders.specs.Rows.{row_of, cleared}
use Rattle.orders.specs.declared.order.Order.{Order}
use Rattle.orders.specs.declared.row.Row.{Row}
use Rattle.book.specs.States.{State}
use Rattle.day.specs.Sheets.{Orders, Sheet, put}
use Rattle.day.specs.Law.{Holds}

-- the book of a sheet
abbrev pub state_on : (places : ℕ) → Sheet → State
state_on places s = record { lot = s.lot; quote = s.quote; phase = s.phase; places = places; next = s.next }

-- stamps and numbers are below the next one, and no two orders share a stamp
pub record Stamped (next : ℕ) (s : Orders) : Type 0 where
  pub young : (n : ℕ) (o : Order) → s n ≡ Some o → (o.stamp < next) × (n < next)
  pub apart : (i j : ℕ) (x y : Order) → s i ≡ Some x → s j ≡ Some y → x.stamp ≡ y.stamp → i ≡ j

-- between two calls
pub record Sound (places next : ℕ) (s : Orders) (rows : List Row) : Type 0 where
  pub holds : Holds places s rows
  pub stamped : Stamped next s

-- while the order of number k, the youngest, is active: it stands in a row of its own and not in the places
pub record Aside (places next k : ℕ) (r : Row) (s : Orders) (rows : List Row) : Type 0 where
  pub holds : Holds places (put k None s) rows
  pub stamped : Stamped next s
  pub active : ((r ≡ cleared) × (s k ≡ None)) ⊎ ((a : Order) × (r ≡ row_of a) × (s k ≡ Some a) × (a.number ≡ k))
  pub last : (n : ℕ) (o : Order) → s n ≡ Some o → (n ≡ k → ⊥) → n < k
  pub youngest : (a o : Order) (n : ℕ) → s k ≡ Some a → s n ≡ Some o → (n ≡ k → ⊥) → o.stamp < a.stamp

-- Rows that hold an order.
use Rattle.std.proofs.Common.{◌≡◌, ℕ, ◌≤◌, IfSome, Some, Option, subst, arith}
use Rattle.std.proofs.lemmas.Bool.Decides.{nat_tests}
use Rattle.orders.specs.Rows.{order_of, row_of, cleared}
use Rattle.orders.proofs.Decoding.{row_back}
use Rattle.orders.specs.declared.order.Order.{Order}
use Rattle.orders.specs.declared.row.Row.{Row}
use Rattle.matching.specs.Trades.{lessened}

-- a row that holds an order is that order's row
pub row_is : (r : Row) (o : Order) → order_of r ≡ Some o → row_of o ≡ r
row_is r o e = subst (λ (x : Option Order). IfSome x (λ y. row_of y ≡ r)) e (row_back r)

-- a row that loses all its shares is cleared
pub lessened_all : (r : Row) (n : ℕ) → r.left ≤ n → lessened r n ≡ cleared
lessened_all r n h = grind (arith, nat_tests)

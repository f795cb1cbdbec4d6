-- What the fills of a call take from each order.
use Rattle.std.proofs.Common.{◌≡◌, ℕ, ◌+◌, ◌≤◌, ◌⊎◌, List, [], ◌∷◌, Some, ap, ◌∙◌, inl, inr, arith}
use Rattle.orders.specs.declared.call.Fill.{Fill}
use Rattle.orders.specs.declared.order.Order.{Order}
use Rattle.matching.specs.Market.{Market}
use Rattle.day.specs.Sheets.{Orders, less_of, took, took_all, left_of, takes, takes_all}
use Rattle.day.specs.Fairness.{active_number, passive_number, Fair, AllFair}
use Rattle.day.proofs.Putting.{row_order, cleared_none}
use Rattle.day.proofs.Changing.{less_is, names_both, cases_named, took_named, took_unnamed}

-- an order with no fewer shares than are taken
less_left : (o : Order) (q : ℕ) → q ≤ o.left → o.left ≡ q + left_of (less_of q (Some o))
less_left o q h = grind (arith, less_is, cleared_none, row_order)

-- a fill takes no more than each of its two orders has left
named_left : (m : Market) (s : Orders) (f : Fill) → Fair m s f → (n : ℕ) → (n ≡ active_number f) ⊎ (n ≡ passive_number f) → (o : Order) × (s n ≡ Some o) × (f.shares ≤ o.left)
named_left m s f h n (inl e) = (h.active, ap s e ∙ h.active_at, omega (arith, h.shares))
named_left m s f h n (inr e) = (h.passive, ap s e ∙ h.passive_at, omega (arith, h.shares))

fill_left : (m : Market) (s : Orders) (f : Fill) → Fair m s f → (n : ℕ) → left_of (s n) ≡ takes f n + left_of (took f s n)
fill_left m s f h n = grind (arith, named_left, names_both, took_named, took_unnamed, cases_named, less_left)

-- what an order had left is what the fills took and what it has left after them
pub fair_left : (m : Market) (s : Orders) (fs : List Fill) → AllFair m s fs → (n : ℕ) → left_of (s n) ≡ takes_all fs n + left_of (took_all fs s n)
fair_left m s [] h n = omega arith
fair_left m s (f ∷ fs) h n = omega (arith, fill_left m s f h.0 n, fair_left m (took f s) fs h.1 n)

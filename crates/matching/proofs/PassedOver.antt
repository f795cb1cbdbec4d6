-- A row that is passed over holds no candidate: terms deal only between opposite sides.
use Rattle.std.proofs.Common.{◌≡◌, ℕ, true, false, is_some, Some, None, Option, refl, ap, arith}
use Rattle.std.proofs.lemmas.Bool.Decides.{nat_tests}
use Rattle.orders.specs.Codes.{side_code}
use Rattle.orders.specs.Rows.{order_of}
use Rattle.orders.specs.Sides.{opposite}
use Rattle.orders.specs.declared.order.Order.{Order}
use Rattle.orders.specs.declared.row.Row.{Row}
use Rattle.orders.specs.declared.side.Side.{Side}
use Rattle.orders.specs.declared.side.Side.TheVariants.{Buy, Sell}
use Rattle.matching.specs.Market.{Market}
use Rattle.matching.specs.Firsts.{offered, candidate_at, passed_over}
use Rattle.matching.proofs.Rows.{row_is}

same_side : (x y : Side) → side_code x ≡ side_code y → opposite y x ≡ false
same_side Buy Buy e = refl
same_side Buy Sell e = absurd (omega arith)
same_side Sell Buy e = absurd (omega arith)
same_side Sell Sell e = refl

module _ (m : Market) (opposites : (a r : Order) → is_some (m.deal a r) ≡ true → opposite a.side r.side ≡ true) (a : Order) (i : ℕ) where
  passed_by : (r : Row) (o : Option Order) → order_of r ≡ o → passed_over a r ≡ true → offered m a i o ≡ None
  passed_by r None e h = refl
  passed_by r (Some o) e h =
      let w = row_is r o e in
      let stamp = ap (λ x. x.stamp) w in
      let side = ap (λ x. x.side) w in
      grind (arith, nat_tests, same_side o.side a.side, opposites a o)

  pub passed_none : (r : Row) → passed_over a r ≡ true → candidate_at m a i r ≡ None
  passed_none r h = passed_by r (order_of r) refl h

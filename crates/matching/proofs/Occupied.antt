-- How many places hold an order, and what a trade does to that.
use Rattle.std.proofs.Common.{◌≡◌, ℕ, zero, suc, ◌+◌, ◌<◌, ◌≤◌, Bool, cond, ◌⊎◌, List, [], ◌∷◌, length, get_or, set, is_some, Some, Option, ap, ◌∙◌, inl, inr, ⊎_elim, le_of_suc-le-suc, not-suc-le-zero, arith}
use Rattle.std.proofs.lemmas.List.{length-set, get_or-set_other}
use Rattle.std.proofs.lemmas.Bool.{cases_lt}
use Rattle.std.proofs.lemmas.Bool.Decides.{nat_tests}
use Rattle.orders.specs.Rows.{order_of, row_of, cleared}
use Rattle.orders.specs.declared.order.Order.{Order}
use Rattle.orders.specs.declared.row.Row.{Row}
use Rattle.matching.specs.declared.meeting.Meeting.{Meeting}
use Rattle.matching.specs.declared.meeting.Pair.{Pair}
use Rattle.matching.specs.Market.{Market}
use Rattle.matching.specs.Trades.{shares, left_active, left_passive}
use Rattle.matching.specs.Sweeps.{oldest, traded, occupied}
use Rattle.matching.proofs.Rows.{lessened_all}
use Rattle.matching.proofs.Pairing.{pair_is, pair_meets, pair_apart}

-- 1 for a row that holds an order, 0 for any other
abbrev pub one : Row → ℕ
one r = cond {A = ℕ} (is_some (order_of r)) 1 0

pub one_most : (r : Row) → one r ≤ 1
one_most r = most (is_some (order_of r))
  where
    most : (b : Bool) → cond {A = ℕ} b 1 0 ≤ 1
    most b = grind (arith, nat_tests)

pub one_is : (r : Row) (o : Order) → order_of r ≡ Some o → one r ≡ 1
one_is r o e = ap (λ (x : Option Order). cond {A = ℕ} (is_some x) 1 0) e

pub occupied_most : (rows : List Row) → occupied rows ≤ length rows
occupied_most [] = omega arith
occupied_most (r ∷ rs) = omega (arith, occupied_most rs, one_most r)

-- one place is written
pub occupied_set : (rows : List Row) (i : ℕ) (v : Row) → i < length rows → occupied (set rows i v) + one (get_or rows i cleared) ≡ occupied rows + one v
occupied_set [] i v h = absurd (not-suc-le-zero h)
occupied_set (r ∷ rs) zero v h = omega arith
occupied_set (r ∷ rs) (suc i) v h = omega (arith, occupied_set rs i v (le_of_suc-le-suc h))

-- a trade leaves one of the two orders with none
pub spends : (t : Meeting) → (one (left_active t) ≡ 0) ⊎ (one (left_passive t) ≡ 0)
spends t =
    ⊎_elim
    (λ h. inl (ap one (lessened_all (row_of t.active) (shares t) (omega arith))))
    (λ h. inr (ap one (lessened_all (row_of t.found.candidate.order) (shares t) (omega arith))))
    (cases_lt t.active.left t.found.candidate.order.left)

module _ (m : Market) (rows : List Row) (p : Pair) (e : oldest m rows ≡ Some p) where
  -- the place of the one that is met, once the active one's place is written
  met_set : (v : Row) → one (get_or (set rows p.place v) p.meeting.found.place cleared) ≡ 1
  met_set v =
      ap one (get_or-set_other rows p.place p.meeting.found.place v cleared (pair_apart m rows p e))
      ∙ one_is (get_or rows p.meeting.found.place cleared) p.meeting.found.candidate.order (pair_meets m rows p e).1.order

  both_set : (v w : Row) → occupied (set (set rows p.place v) p.meeting.found.place w) + 2 ≡ occupied rows + one v + one w
  both_set v w =
      let i = one_is (get_or rows p.place cleared) p.meeting.active (pair_is m rows p e).active in
      let j = met_set v in
      let l : p.meeting.found.place < length (set rows p.place v) = omega (arith, length-set rows p.place v, (pair_meets m rows p e).0) in
      let x = occupied_set rows p.place v (pair_is m rows p e).within in
      let y = occupied_set (set rows p.place v) p.meeting.found.place w l in
      omega (arith, i, j, x, y)

  -- two places hold the pair
  pub pair_two : 2 ≤ occupied rows
  pair_two = let z = both_set cleared cleared in omega (arith, z)

  pub traded_fewer : occupied (traded rows p) + 1 ≤ occupied rows
  traded_fewer =
      grind (arith, both_set (left_active p.meeting) (left_passive p.meeting), spends p.meeting, one_most (left_active p.meeting), one_most (left_passive p.meeting))

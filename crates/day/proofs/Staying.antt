-- An order that is found in a place after a run or a sweep was there before, under its number.
use Rattle.std.proofs.Common.{◌≡◌, ℕ, zero, suc, ◌<◌, Bool, ◌||◌, List, length, get_or, set, Some, None, Option, sym, refl, ap, ◌∙◌, ⊎_elim, arith}
use Rattle.std.proofs.lemmas.List.{get_or-set_same, get_or-set_other, length-set}
use Rattle.std.proofs.lemmas.Bool.{cases_eq}
use Rattle.orders.specs.Rows.{order_of, row_of, cleared}
use Rattle.orders.specs.declared.order.Order.{Order}
use Rattle.orders.specs.declared.row.Row.{Row}
use Rattle.matching.specs.declared.meeting.Meeting.{Meeting}
use Rattle.matching.specs.declared.meeting.Pair.{Pair}
use Rattle.matching.specs.Market.{Market}
use Rattle.matching.specs.Trades.{lessened, shares, left_active}
use Rattle.matching.specs.Runs.{Done, meeting, touches, passed, turn, run}
use Rattle.matching.specs.Sweeps.{Swept, oldest, traded, round, sweep}
use Rattle.matching.proofs.Chosen.{first_is, meeting_is}
use Rattle.matching.proofs.Pairing.{pair_is, pair_meets, pair_apart}
use Rattle.day.proofs.Putting.{row_number}
use Rattle.day.proofs.Changing.{less_for}

abbrev pub Stays : (rows rows' : List Row) → Type 0
Stays rows rows' = (k : ℕ) (o : Order) → order_of (get_or rows' k cleared) ≡ Some o → (p : Order) × (order_of (get_or rows k cleared) ≡ Some p) × (o.number ≡ p.number)

pub stays_same : (rows : List Row) → Stays rows rows
stays_same rows k o q = (o, q, refl)

stays_then : (a b c : List Row) → Stays a b → Stays b c → Stays a c
stays_then a b c f g k o q =
    let x = g k o q in
    let y = f k x.0 x.1 in
    (y.0, y.1, x.2 ∙ y.2)

-- an order in its place that loses some shares
stays_less : (rows : List Row) (i : ℕ) (a : Order) (q : ℕ) → i < length rows → order_of (get_or rows i cleared) ≡ Some a → Stays rows (set rows i (lessened (row_of a) q))
stays_less rows i a q l e k o t =
    ⊎_elim
    (λ x. let z : order_of (lessened (row_of a) q) ≡ Some o = ap order_of (sym (get_or-set_same rows i (lessened (row_of a) q) cleared l)) ∙ ap (λ (j : ℕ). order_of (get_or (set rows i (lessened (row_of a) q)) j cleared)) (sym x) ∙ t in
    (a, ap (λ (j : ℕ). order_of (get_or rows j cleared)) x ∙ e, row_number a.number (lessened (row_of a) q) (less_for a q) o z))
    (λ x. (o, ap order_of (sym (get_or-set_other rows i k (lessened (row_of a) q) cleared x)) ∙ t, refl))
    (cases_eq k i)

module _ (m : Market) where
  turn_stays : (b : Bool) (r : Row) (rows : List Row) (go : Bool → Row → List Row → Done) → ((b : Bool) (r : Row) (rows : List Row) → Stays rows (go b r rows).rows) → (o : Option Meeting) → meeting m b r rows ≡ o → Stays rows (turn m b r rows go o).rows
  turn_stays b r rows go ih None e = stays_same rows
  turn_stays b r rows go ih (Some t) e =
      let n = meeting_is m b r rows t e in
      let f = first_is m t.active rows t.found n.first in
      stays_then rows (passed rows t) (go (b || touches m t) (left_active t) (passed rows t)).rows
      (stays_less rows t.found.place t.found.candidate.order (shares t) f.0 f.1.order)
      (ih (b || touches m t) (left_active t) (passed rows t))

  pub run_stays : (n : ℕ) (b : Bool) (r : Row) (rows : List Row) → Stays rows (run m n b r rows).rows
  run_stays zero b r rows = stays_same rows
  run_stays (suc n) b r rows = turn_stays b r rows (λ b s ss. run m n b s ss) (run_stays n) (meeting m b r rows) refl

  pair_stays : (rows : List Row) (p : Pair) → oldest m rows ≡ Some p → Stays rows (traded rows p)
  pair_stays rows p e =
      let a = pair_is m rows p e in
      let f = pair_meets m rows p e in
      let mid : List Row = set rows p.place (left_active p.meeting) in
      stays_then rows mid (traded rows p)
      (stays_less rows p.place p.meeting.active (shares p.meeting) a.within a.active)
      (stays_less mid p.meeting.found.place p.meeting.found.candidate.order (shares p.meeting) (omega (arith, f.0, length-set rows p.place (left_active p.meeting)))
      (ap order_of (get_or-set_other rows p.place p.meeting.found.place (left_active p.meeting) cleared (pair_apart m rows p e)) ∙ f.1.order))

  round_stays : (rows : List Row) (go : List Row → Swept) → ((rows : List Row) → Stays rows (go rows).rows) → (o : Option Pair) → oldest m rows ≡ o → Stays rows (round rows go o).rows
  round_stays rows go ih None e = stays_same rows
  round_stays rows go ih (Some p) e = stays_then rows (traded rows p) (go (traded rows p)).rows (pair_stays rows p e) (ih (traded rows p))

  pub sweep_stays : (n : ℕ) (rows : List Row) → Stays rows (sweep m n rows).rows
  sweep_stays zero rows = stays_same rows
  sweep_stays (suc n) rows = round_stays rows (λ ss. sweep m n ss) (sweep_stays n) (oldest m rows) refl

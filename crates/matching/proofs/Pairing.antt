-- The pair that the sweep takes: two orders in two places, the younger active.
use Rattle.std.proofs.Common.{◌≡◌, ℕ, suc, ◌<◌, List, length, get_or, IfSome, Some, None, Option, sym, refl, ap, arith}
use Rattle.orders.specs.Rows.{order_of, cleared}
use Rattle.orders.specs.declared.order.Order.{Order}
use Rattle.orders.specs.declared.row.Row.{Row}
use Rattle.matching.specs.declared.meeting.Pair.{Pair}
use Rattle.matching.specs.Market.{Market}
use Rattle.matching.specs.Firsts.{first}
use Rattle.matching.specs.Sweeps.{pair_by, pair_at, older, oldest_from, oldest}
use Rattle.matching.proofs.Reductions.{lesser}
use Rattle.matching.proofs.Scans.{kept, Scans, came}
use Rattle.matching.proofs.Chosen.{Meets, first_is}

-- what is known of the pair
pub record Pairs (m : Market) (rows : List Row) (p : Pair) : Type 0 where
  pub within : p.place < length rows
  pub active : order_of (get_or rows p.place cleared) ≡ Some p.meeting.active
  pub first : first m p.meeting.active rows ≡ Some p.meeting.found

abbrev pub stamp : Pair → ℕ
stamp p = p.meeting.active.stamp

older_keeps : (b c : Option Pair) → older b c ≡ kept (lesser stamp) b c
older_keeps None c = refl
older_keeps (Some b) None = refl
older_keeps (Some b) (Some c) = refl

module _ (m : Market) where
  pub oldest_scans : (all : List Row) → Scans (lesser stamp) (pair_at m all) (oldest_from m all)
  oldest_scans all = record { ends = λ i b. refl; steps = λ i b r rs. ap (λ k. oldest_from m all (suc i) k rs) (older_keeps b (pair_at m all i r)) }

  pair_by_is : (rows : List Row) (i : ℕ) → i < length rows → (o : Option Order) → order_of (get_or rows i cleared) ≡ o → (p : Pair) → pair_by m rows i o ≡ Some p → Pairs m rows p
  pair_by_is rows i l None q p e = absurd cc
  pair_by_is rows i l (Some a) q p e = record { within = grind arith; active = grind arith; first = grind arith }

  pub pair_is : (rows : List Row) (p : Pair) → oldest m rows ≡ Some p → Pairs m rows p
  pair_is rows p e = let (k, l, c) = came (oldest_scans rows) rows p e in pair_by_is rows k l (order_of (get_or rows k cleared)) refl p c

  module _ (rows : List Row) (p : Pair) (e : oldest m rows ≡ Some p) where
    -- the one that is met, in its place
    pub pair_meets : (p.meeting.found.place < length rows) × Meets m p.meeting.active p.meeting.found.place (get_or rows p.meeting.found.place cleared) p.meeting.found
    pair_meets = first_is m p.meeting.active rows p.meeting.found (pair_is rows p e).first

    -- the two lie in two places
    pub pair_apart : p.meeting.found.place ≡ p.place → ⊥
    pair_apart t =
        let met = pair_meets.1.order in
        let active = (pair_is rows p e).active in
        let s : p.meeting.found.candidate.order.stamp ≡ p.meeting.active.stamp = cc in
        omega (arith, pair_meets.1.older)

  pub oldest_within : (rows : List Row) (o : Option Pair) → o ≡ oldest m rows → IfSome o (λ p. (p.place < length rows) × (p.meeting.found.place < length rows))
  oldest_within rows None e = tt
  oldest_within rows (Some p) e = ((pair_is rows p (sym e)).within, (pair_meets rows p (sym e)).0)

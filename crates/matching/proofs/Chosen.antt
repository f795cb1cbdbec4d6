-- The order that is chosen is one that the active order could meet.
use Rattle.std.proofs.Common.{◌≡◌, ℕ, suc, ◌<◌, Bool, false, List, length, get_or, IfSome, Some, None, Option, sym, refl, ap, subst, arith}
use Rattle.std.proofs.lemmas.Bool.Decides.{nat_tests}
use Rattle.orders.specs.Rows.{order_of, cleared}
use Rattle.orders.specs.declared.order.Order.{Order}
use Rattle.orders.specs.declared.row.Row.{Row}
use Rattle.matching.specs.declared.meeting.Found.{Found}
use Rattle.matching.specs.declared.meeting.Meeting.{Meeting}
use Rattle.matching.specs.Market.{Market}
use Rattle.matching.specs.Firsts.{offered, candidate_at, earlier, first_from, first}
use Rattle.matching.specs.Sums.{stops}
use Rattle.matching.specs.Runs.{meeting_by, meeting}
use Rattle.matching.proofs.Scans.{kept, Scans, came}

-- an order in a place that an active order could meet: older, with a deal
pub record Meets (m : Market) (a : Order) (i : ℕ) (r : Row) (f : Found) : Type 0 where
  pub place : f.place ≡ i
  pub order : order_of r ≡ Some f.candidate.order
  pub older : f.candidate.order.stamp < a.stamp
  pub price : m.deal a f.candidate.order ≡ Some f.candidate.price

module _ (m : Market) (a : Order) where
  offered_is : (i : ℕ) (r : Row) (o : Option Order) (f : Found) → order_of r ≡ o → offered m a i o ≡ Some f → Meets m a i r f
  offered_is i r None f q e = absurd cc
  offered_is i r (Some o) f q e = record { place = grind (arith, nat_tests); order = grind (arith, nat_tests); older = grind (arith, nat_tests); price = grind (arith, nat_tests) }

  pub candidate_is : (i : ℕ) (r : Row) (f : Found) → candidate_at m a i r ≡ Some f → Meets m a i r f
  candidate_is i r f e = offered_is i r (order_of r) f refl e

  abbrev pub ahead : (next held : Found) → Bool
  ahead n h = m.before a n.candidate h.candidate

  earlier_keeps : (b c : Option Found) → earlier m a b c ≡ kept ahead b c
  earlier_keeps None c = refl
  earlier_keeps (Some b) None = refl
  earlier_keeps (Some b) (Some c) = refl

  pub first_scans : Scans ahead (candidate_at m a) (first_from m a)
  first_scans = record { ends = λ i b. refl; steps = λ i b r rs. ap (λ k. first_from m a (suc i) k rs) (earlier_keeps b (candidate_at m a i r)) }

  -- the chosen order is a candidate, in its place
  pub first_is : (rows : List Row) (f : Found) → first m a rows ≡ Some f → (f.place < length rows) × Meets m a f.place (get_or rows f.place cleared) f
  first_is rows f e =
      let (k, l, c) = came first_scans rows f e in
      let s = candidate_is k (get_or rows k cleared) f c in
      subst (λ n. (n < length rows) × Meets m a n (get_or rows n cleared) f) (sym s.place) (l, s)

  pub first_within : (rows : List Row) (o : Option Found) → o ≡ first m a rows → IfSome o (λ f. f.place < length rows)
  first_within rows None e = tt
  first_within rows (Some f) e = (first_is rows f (sym e)).0

-- what is known of the next trade of an active order
pub record Next (m : Market) (touched : Bool) (r : Row) (rows : List Row) (t : Meeting) : Type 0 where
  pub active : order_of r ≡ Some t.active
  pub first : first m t.active rows ≡ Some t.found
  pub goes_on : stops m touched t.active rows t.found.candidate.price ≡ false

module _ (m : Market) (touched : Bool) (r : Row) (rows : List Row) where
  meeting_by_is : (o : Option Order) → order_of r ≡ o → (t : Meeting) → meeting_by m touched o rows ≡ Some t → Next m touched r rows t
  meeting_by_is None q t e = absurd cc
  meeting_by_is (Some a) q t e = record { active = grind arith; first = grind arith; goes_on = grind arith }

  pub meeting_is : (t : Meeting) → meeting m touched r rows ≡ Some t → Next m touched r rows t
  meeting_is t e = meeting_by_is (order_of r) refl t e

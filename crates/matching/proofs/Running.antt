-- The turns of the loop in which an active order trades.
use Rattle.std.proofs.Common.{◌≡◌, ℕ, zero, suc, Bool, ◌||◌, List, [], ◌∷◌, Some, None, Option, refl, ap}
use Rattle.orders.specs.declared.row.Row.{Row}
use Rattle.matching.specs.declared.meeting.Meeting.{Meeting}
use Rattle.matching.specs.Market.{Market}
use Rattle.matching.specs.Trades.{fill_of, left_active}
use Rattle.matching.specs.Runs.{Done, meeting, touches, passed, ended, after, turn, run}

module _ (m : Market) where
  pub run_none : (n : ℕ) (b : Bool) (r : Row) (rows : List Row) → meeting m b r rows ≡ None → run m n b r rows ≡ ended r rows
  run_none zero b r rows e = refl
  run_none (suc n) b r rows e = ap (turn m b r rows (λ b s ss. run m n b s ss)) e

  pub run_some : (n : ℕ) (b : Bool) (r : Row) (rows : List Row) (t : Meeting) → meeting m b r rows ≡ Some t
      → run m (suc n) b r rows ≡ after (fill_of t ∷ []) (run m n (b || touches m t) (left_active t) (passed rows t))
  run_some n b r rows t e = ap (turn m b r rows (λ b s ss. run m n b s ss)) e

  -- what holds of the end, and of one trade with the run after it, holds of the run
  pub run_by : (P : Done → Type 0) (n : ℕ) (b : Bool) (r : Row) (rows : List Row) → (meeting m b r rows ≡ None → P (ended r rows))
      → ((t : Meeting) → meeting m b r rows ≡ Some t → P (after (fill_of t ∷ []) (run m n (b || touches m t) (left_active t) (passed rows t)))) → P (run m (suc n) b r rows)
  run_by P n b r rows none some = by (meeting m b r rows) refl
    where
      by : (o : Option Meeting) → meeting m b r rows ≡ o → P (turn m b r rows (λ b s ss. run m n b s ss) o)
      by None e = none e
      by (Some t) e = some t e

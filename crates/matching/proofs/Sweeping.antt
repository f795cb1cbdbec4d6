-- The turns of the sweep's loop.
use Rattle.std.proofs.Common.{◌≡◌, ℕ, zero, suc, List, [], ◌∷◌, Some, None, Option, refl, ap}
use Rattle.orders.specs.declared.row.Row.{Row}
use Rattle.matching.specs.declared.meeting.Pair.{Pair}
use Rattle.matching.specs.Market.{Market}
use Rattle.matching.specs.Trades.{fill_of}
use Rattle.matching.specs.Sweeps.{Swept, oldest, traded, still, ahead, round, sweep}

module _ (m : Market) where
  pub sweep_none : (n : ℕ) (rows : List Row) → oldest m rows ≡ None → sweep m n rows ≡ still rows
  sweep_none zero rows e = refl
  sweep_none (suc n) rows e = ap (round rows (λ ss. sweep m n ss)) e

  pub sweep_some : (n : ℕ) (rows : List Row) (p : Pair) → oldest m rows ≡ Some p → sweep m (suc n) rows ≡ ahead (fill_of p.meeting ∷ []) (sweep m n (traded rows p))
  sweep_some n rows p e = ap (round rows (λ ss. sweep m n ss)) e

  -- what holds of the end, and of one trade with the sweep after it, holds of the sweep
  pub sweep_by : (P : Swept → Type 0) (n : ℕ) (rows : List Row) → (oldest m rows ≡ None → P (still rows))
      → ((p : Pair) → oldest m rows ≡ Some p → P (ahead (fill_of p.meeting ∷ []) (sweep m n (traded rows p)))) → P (sweep m (suc n) rows)
  sweep_by P n rows none some = by (oldest m rows) refl
    where
      by : (o : Option Pair) → oldest m rows ≡ o → P (round rows (λ ss. sweep m n ss) o)
      by None e = none e
      by (Some p) e = some p e

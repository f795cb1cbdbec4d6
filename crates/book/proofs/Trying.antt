-- What is tried and swept, by the matcher's own bounds.
use Rattle.std.proofs.Common.{◌≡◌, ℕ, ◌+◌, ◌-◌, ◌≤◌, Bool, true, false, cond, List, length, None, ap, ◌∙◌, arith}
use Rattle.orders.specs.declared.row.Row.{Row}
use Rattle.matching.specs.Runs.{run}
use Rattle.matching.specs.Sweeps.{Swept, still, oldest, sweep, occupied}
use Rattle.matching.proofs.Occupied.{occupied_most}
use Rattle.matching.proofs.Spending.{run_same}
use Rattle.matching.proofs.Settling.{sweep_same, sweep_settles}
use Rattle.places.specs.Phases.{is_open}
use Rattle.book.specs.States.{State, Rules, market}
use Rattle.book.specs.Calls.{tried, swept}

module _ (u : Rules) (s : State) (rows : List Row) where
  pub tried_open : (r : Row) (k : ℕ) → is_open s.phase ≡ true → length rows ≤ k → run (market u s) k false r rows ≡ tried u s r rows
  tried_open r k e h = let same = run_same (market u s) k false r rows h in cc

  pub swept_open : (from k : ℕ) → is_open s.phase ≡ true → from + occupied rows ≤ k + 1 → sweep (market u s) (k - from) rows ≡ swept u s rows
  swept_open from k e h = let same = sweep_same (market u s) (k - from) (length rows) rows (omega arith) (omega (arith, occupied_most rows)) in cc

  pub swept_idle : is_open s.phase ≡ false → swept u s rows ≡ still rows
  swept_idle e = ap (λ (b : Bool). cond {A = Swept} b (sweep (market u s) (length rows) rows) (still rows)) e

  -- a call that ends in an open book leaves no pair to trade
  pub swept_settles : is_open s.phase ≡ true → oldest (market u s) (swept u s rows).rows ≡ None
  swept_settles e =
      ap (λ (b : Bool). oldest (market u s) (cond {A = Swept} b (sweep (market u s) (length rows) rows) (still rows)).rows) e
      ∙ sweep_settles (market u s) (length rows) rows (omega (arith, occupied_most rows))

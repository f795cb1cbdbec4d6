-- What is tried and swept keeps to the number of orders, so that a list with an entry for each place holds a call's fills.
use Rattle.std.proofs.Common.{ℕ, ◌+◌, ◌≤◌, Bool, true, false, cond, List, length, set, Some, None, Option, refl, inl, arith, length-set}
use Rattle.std.proofs.lemmas.Bool.Decides.{nat_tests}
use Rattle.orders.specs.Rows.{entry_row}
use Rattle.orders.specs.declared.entry.Entry.{Entry}
use Rattle.orders.specs.declared.row.Row.{Row}
use Rattle.matching.specs.Runs.{Done, ended, run}
use Rattle.matching.specs.Sweeps.{Swept, still, sweep, occupied}
use Rattle.matching.proofs.Occupied.{one, one_most, occupied_most, occupied_set}
use Rattle.matching.proofs.Spending as spending
use Rattle.matching.proofs.Settling as settling
use Rattle.places.specs.Phases.{is_open}
use Rattle.places.specs.Places.{free_place, placed}
use Rattle.book.specs.States.{State, Rules, market}
use Rattle.book.specs.Calls.{tried, swept, stays_as, resting}

module _ (u : Rules) (s : State) where
  pub tried_bounds : (r : Row) (rows : List Row) → spending.Bounds (market u s) r rows (tried u s r rows)
  tried_bounds r rows =
      elim (is_open s.phase) as (λ b. spending.Bounds (market u s) r rows (cond {A = Done} b (run (market u s) (length rows) false r rows) (ended r rows))) [
        | true ↦ spending.run_bounds (market u s) (length rows) false r rows
        | false ↦ record { all = omega arith; few = omega arith; long = refl }
      ]

  pub swept_bounds : (rows : List Row) → settling.Bounds (market u s) rows (swept u s rows)
  swept_bounds rows =
      elim (is_open s.phase) as (λ b. settling.Bounds (market u s) rows (cond {A = Swept} b (sweep (market u s) (length rows) rows) (still rows))) [
        | true ↦ settling.sweep_bounds (market u s) (length rows) rows
        | false ↦ record { few = inl refl; long = refl }
      ]

  -- a sweep makes no more fills than there are places
  pub swept_few : (rows : List Row) → length (swept u s rows).fills ≤ length rows
  swept_few rows = let h = (swept_bounds rows).few in grind (arith, occupied_most)

-- a row that stays takes one place more at most
placed_most : (k : Option ℕ) (b : Bool) (r : Row) (rows : List Row) → occupied (placed k b r rows) ≤ occupied rows + one r
placed_most None b r rows = omega arith
placed_most (Some i) b r rows = grind (arith, nat_tests, occupied_set)

module _ (u : Rules) (s : State) (e : Entry) (rows : List Row) where
  abbrev d : Done
  d = tried u s (entry_row e s.next) rows

  -- room for the sweep's fills after the order's own
  pub room : length d.fills + occupied (resting e rows d) ≤ length rows + 1
  room =
      omega (arith, (tried_bounds u s (entry_row e s.next) rows).all, placed_most (free_place rows) (stays_as e d) d.active d.rows, occupied_most rows, one_most (entry_row e s.next))

  -- no more fills than places
  pub few : length d.fills + length (swept u s (resting e rows d)).fills ≤ length rows
  few = let h = (swept_bounds u s (resting e rows d)).few in let k = (tried_bounds u s (entry_row e s.next) rows).few in grind (arith, occupied_most, room)

-- with one place written anew, there are no more orders than places
pub set_most : (rows : List Row) (i : ℕ) (r : Row) → occupied (set rows i r) ≤ length rows
set_most rows i r = omega (arith, occupied_most (set rows i r), length-set rows i r)

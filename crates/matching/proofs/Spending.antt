-- How many fills an active order makes, and that it comes to an end.
use Rattle.std.proofs.Common.{◌≡◌, ℕ, zero, suc, ◌+◌, ◌-◌, ◌<◌, ◌≤◌, Bool, ◌||◌, List, [], ◌∷◌, length, get_or, Some, None, Option, refl, ap, ◌∙◌, suc-add, arith}
use Rattle.std.proofs.lemmas.List.{length-set}
use Rattle.orders.specs.Rows.{cleared}
use Rattle.orders.specs.declared.row.Row.{Row}
use Rattle.matching.specs.declared.meeting.Meeting.{Meeting}
use Rattle.matching.specs.Market.{Market}
use Rattle.matching.specs.Trades.{fill_of, left_active, left_passive}
use Rattle.matching.specs.Runs.{Done, meeting, touches, passed, after, run}
use Rattle.matching.specs.Sweeps.{occupied}
use Rattle.matching.proofs.Chosen.{Meets, first_is, Next, meeting_is}
use Rattle.matching.proofs.Running.{run_none, run_some, run_by}
use Rattle.matching.proofs.Occupied.{one, one_most, one_is, occupied_most, occupied_set, spends}

module _ (m : Market) where
  module _ (b : Bool) (r : Row) (rows : List Row) (t : Meeting) (e : meeting m b r rows ≡ Some t) where
    n : Next m b r rows t
    n = meeting_is m b r rows t e

    pub active_one : one r ≡ 1
    active_one = one_is r t.active n.active

    met : (t.found.place < length rows) × Meets m t.active t.found.place (get_or rows t.found.place cleared) t.found
    met = first_is m t.active rows t.found n.first

    passive_one : one (get_or rows t.found.place cleared) ≡ 1
    passive_one = one_is (get_or rows t.found.place cleared) t.found.candidate.order met.1.order

    passed_set : occupied (passed rows t) + 1 ≡ occupied rows + one (left_passive t)
    passed_set = let s = occupied_set rows t.found.place (left_passive t) met.0 in omega (arith, s, passive_one)

    -- there is an order to meet
    pub meets_one : 1 ≤ occupied rows
    meets_one = let s = occupied_set rows t.found.place cleared met.0 in omega (arith, s, passive_one)

    -- of the active order and those in the places one is gone
    pub passed_fewer : occupied (passed rows t) + one (left_active t) ≤ occupied rows
    passed_fewer = grind (arith, passed_set, spends t, one_most (left_passive t), one_most (left_active t))

    pub passed_long : length (passed rows t) ≡ length rows
    passed_long = length-set rows t.found.place (left_passive t)

  -- what is left, with the fills, is no more than there was
  pub record Bounds (r : Row) (rows : List Row) (d : Done) : Type 0 where
    pub all : length d.fills + occupied d.rows + one d.active ≤ occupied rows + one r
    pub few : length d.fills ≤ occupied rows
    pub long : length d.rows ≡ length rows

  -- a row that is no order makes no fill
  pub run_dead : (n : ℕ) (b : Bool) (r : Row) (rows : List Row) → one r ≡ 0 → length (run m n b r rows).fills ≡ 0
  run_dead zero b r rows h = refl
  run_dead (suc n) b r rows h = run_by m (λ d. length d.fills ≡ 0) n b r rows (λ e. refl) (λ t e. absurd (omega (arith, active_one b r rows t e)))

  pub run_bounds : (n : ℕ) (b : Bool) (r : Row) (rows : List Row) → Bounds r rows (run m n b r rows)
  run_bounds zero b r rows = record { all = omega arith; few = omega arith; long = refl }
  run_bounds (suc n) b r rows =
      run_by m (Bounds r rows) n b r rows
      (λ e. record { all = omega arith; few = omega arith; long = refl })
      (λ t e. let g = run_bounds n (b || touches m t) (left_active t) (passed rows t) in
      record {
        all = omega (arith, g.all, passed_fewer b r rows t e, active_one b r rows t e);
        few = grind (arith, g.few, passed_set b r rows t e, spends t, meets_one b r rows t e, run_dead n (b || touches m t) (left_active t) (passed rows t));
        long = g.long ∙ passed_long b r rows t e;
      })

  -- trades enough for the orders that are there: more make no difference
  abbrev pub Enough : ℕ → Row → List Row → Type 0
  Enough n r rows = occupied rows + one r ≤ n + 1

  no_meeting : (b : Bool) (r : Row) (rows : List Row) → Enough zero r rows → (o : Option Meeting) → meeting m b r rows ≡ o → meeting m b r rows ≡ None
  no_meeting b r rows h None e = e
  no_meeting b r rows h (Some t) e = absurd (omega (arith, active_one b r rows t e, meets_one b r rows t e))

  pub run_enough : (n k : ℕ) (b : Bool) (r : Row) (rows : List Row) → Enough n r rows → run m (n + k) b r rows ≡ run m n b r rows
  run_enough zero k b r rows h = run_none m (zero + k) b r rows (no_meeting b r rows h (meeting m b r rows) refl)
  run_enough (suc n) k b r rows h =
      ap (λ i. run m i b r rows) (suc-add n k)
      ∙ run_by m (λ d. run m (suc (n + k)) b r rows ≡ d) n b r rows (run_none m (suc (n + k)) b r rows)
      (λ t e. run_some m (n + k) b r rows t e ∙ ap (after (fill_of t ∷ [])) (run_enough n k (b || touches m t) (left_active t) (passed rows t) (omega (arith, h, passed_fewer b r rows t e, active_one b r rows t e))))

  -- a list with an entry for each place suffices
  pub run_same : (k : ℕ) (b : Bool) (r : Row) (rows : List Row) → length rows ≤ k → run m k b r rows ≡ run m (length rows) b r rows
  run_same k b r rows h =
      let e : k ≡ length rows + (k - length rows) = omega arith in
      ap (λ (j : ℕ). run m j b r rows) e ∙ run_enough (length rows) (k - length rows) b r rows (omega (arith, occupied_most rows, one_most r))

-- How many fills a sweep makes, and that it leaves no pair.
use Rattle.std.proofs.Common.{◌≡◌, ℕ, zero, suc, ◌+◌, ◌-◌, ◌≤◌, ◌⊎◌, List, [], ◌∷◌, length, set, Some, None, Option, sym, refl, ap, ◌∙◌, inl, inr, ⊎_elim, suc-add, arith}
use Rattle.std.proofs.lemmas.List.{length-set}
use Rattle.std.proofs.lemmas.Bool.{cases_lt}
use Rattle.orders.specs.declared.row.Row.{Row}
use Rattle.matching.specs.declared.meeting.Pair.{Pair}
use Rattle.matching.specs.Market.{Market}
use Rattle.matching.specs.Trades.{fill_of, left_active, left_passive}
use Rattle.matching.specs.Sweeps.{Swept, oldest, traded, ahead, sweep, occupied}
use Rattle.matching.proofs.Occupied.{pair_two, traded_fewer}
use Rattle.matching.proofs.Sweeping.{sweep_none, sweep_some, sweep_by}

module _ (m : Market) where
  pub record Bounds (rows : List Row) (d : Swept) : Type 0 where
    pub few : (length d.fills ≡ 0) ⊎ (length d.fills + 1 ≤ occupied rows)
    pub long : length d.rows ≡ length rows

  traded_long : (rows : List Row) (p : Pair) → length (traded rows p) ≡ length rows
  traded_long rows p = length-set (set rows p.place (left_active p.meeting)) p.meeting.found.place (left_passive p.meeting) ∙ length-set rows p.place (left_active p.meeting)

  pub sweep_bounds : (n : ℕ) (rows : List Row) → Bounds rows (sweep m n rows)
  sweep_bounds zero rows = record { few = inl refl; long = refl }
  sweep_bounds (suc n) rows =
      sweep_by m (Bounds rows) n rows
      (λ e. record { few = inl refl; long = refl })
      (λ p e. let g = sweep_bounds n (traded rows p) in
      record {
        few = inr (grind (arith, g.few, pair_two m rows p e, traded_fewer m rows p e));
        long = g.long ∙ traded_long rows p;
      })

  -- one order alone is no pair
  no_pair : (rows : List Row) → occupied rows ≤ 1 → (o : Option Pair) → oldest m rows ≡ o → oldest m rows ≡ None
  no_pair rows h None e = e
  no_pair rows h (Some p) e = absurd (omega (arith, pair_two m rows p e))

  -- trades enough for the orders that are there: more make no difference
  pub sweep_enough : (n k : ℕ) (rows : List Row) → occupied rows ≤ n + 1 → sweep m (n + k) rows ≡ sweep m n rows
  sweep_enough zero k rows h = sweep_none m (zero + k) rows (no_pair rows (omega arith) (oldest m rows) refl)
  sweep_enough (suc n) k rows h =
      ap (λ i. sweep m i rows) (suc-add n k)
      ∙ sweep_by m (λ d. sweep m (suc (n + k)) rows ≡ d) n rows (sweep_none m (suc (n + k)) rows)
      (λ p e. sweep_some m (n + k) rows p e ∙ ap (ahead (fill_of p.meeting ∷ [])) (sweep_enough n k (traded rows p) (omega (arith, h, traded_fewer m rows p e))))

  -- no pair is left to trade
  pub sweep_settles : (n : ℕ) (rows : List Row) → occupied rows ≤ n + 1 → oldest m (sweep m n rows).rows ≡ None
  sweep_settles zero rows h = no_pair rows (omega arith) (oldest m rows) refl
  sweep_settles (suc n) rows h = sweep_by m (λ d. oldest m d.rows ≡ None) n rows (λ e. e) (λ p e. sweep_settles n (traded rows p) (omega (arith, h, traded_fewer m rows p e)))

  -- two bounds that both suffice
  pub sweep_same : (n k : ℕ) (rows : List Row) → occupied rows ≤ n + 1 → occupied rows ≤ k + 1 → sweep m n rows ≡ sweep m k rows
  sweep_same n k rows h i =
      ⊎_elim
      (λ l. let e : k ≡ n + (k - n) = omega arith in sym (ap (λ (j : ℕ). sweep m j rows) e ∙ sweep_enough n (k - n) rows h))
      (λ l. let e : n ≡ k + (n - k) = omega arith in ap (λ (j : ℕ). sweep m j rows) e ∙ sweep_enough k (n - k) rows i)
      (cases_lt n k)

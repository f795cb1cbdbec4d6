-- Days in the lit book at a last sale of 240, where large bids have priority. All trading is at 240.
use Rattle.std.specs.Prelude.{ℕ, List, [], ◌∷◌, ◌++◌}
use Rattle.orders.specs.declared.call.Call.{Call}
use Rattle.orders.specs.declared.refusal.Refusal.TheVariants.{WrongLimit}
use Rattle.terms.specs.Lit.{lit_deal, lit_verdict}
use Rattle.priority.specs.Ranking.{size_before}
use Rattle.book.specs.States.{Rules}
use Rattle.sampledays.specs.Playing.{Step, Day}
use Rattle.sampledays.specs.Writing.{buy, sell, amends, sold, gives, rests, fills, meets_refusal}

abbrev pub lit_by_size : Rules
lit_by_size = record { deals = lit_deal; verdict = lit_verdict; before = size_before }

abbrev pub lit_day : List Step → Day
lit_day steps = record { rules = lit_by_size; last = 240; places = 6; steps = steps }

abbrev pub bid : (broker shares : ℕ) → Call
bid broker shares = buy broker 1 shares 240 0

-- a sale that may rest, and one at once
abbrev pub sale : (shares : ℕ) → Call
sale shares = sell 1 shares 240

abbrev pub sale_at_once : (shares : ℕ) → Call
sale_at_once shares = sell 2 shares 240

-- 30,000 are large: that bid goes first and, with 25,000 left, falls back behind the older one
abbrev pub large : Day
large = lit_day (
    rests (bid 11 1000) 1 1000
    ∷ rests (bid 12 30000) 2 30000
    ∷ rests (bid 13 1000) 3 1000
    ∷ fills (sale 5000) 4 5000 (sold 2 4 240 5000 ∷ [])
    ∷ fills (sale 1000) 5 1000 (sold 1 5 240 1000 ∷ [])
    ∷ [])

-- 29,999 are not: the bids go by time
abbrev pub not_large : Day
not_large = lit_day (
    rests (bid 11 1000) 1 1000
    ∷ rests (bid 12 29999) 2 29999
    ∷ rests (bid 13 1000) 3 1000
    ∷ fills (sale 5000) 4 5000 (sold 1 4 240 1000 ∷ sold 2 4 240 4000 ∷ [])
    ∷ fills (sale 1000) 5 1000 (sold 2 5 240 1000 ∷ [])
    ∷ [])

-- three large bids, of which the largest fills and keeps 25,000
abbrev pub largest : List Step
largest =
    rests (bid 11 1000) 1 1000
    ∷ rests (bid 12 60000) 2 60000
    ∷ rests (bid 13 50000) 3 50000
    ∷ rests (bid 14 35000) 4 35000
    ∷ fills (sale 35000) 5 35000 (sold 2 5 240 35000 ∷ [])
    ∷ []

-- amended to 30,000 it takes stamp 6 and stands behind the other two large ones, and before the small one
abbrev pub raised_behind : Day
raised_behind = lit_day (largest ++ (
    gives (amends 2 30000 240) 2 0 30000 0 []
    ∷ fills (sale_at_once 1000) 7 1000 (sold 3 7 240 1000 ∷ [])
    ∷ fills (sale_at_once 115000) 8 115000 (sold 3 8 240 49000 ∷ sold 4 8 240 35000 ∷ sold 2 8 240 30000 ∷ sold 1 8 240 1000 ∷ [])
    ∷ []))

-- amended to 55,000 it stands before both
abbrev pub raised_before : Day
raised_before = lit_day (largest ++ (
    gives (amends 2 55000 240) 2 0 55000 0 []
    ∷ fills (sale_at_once 1000) 7 1000 (sold 2 7 240 1000 ∷ [])
    ∷ fills (sale_at_once 140000) 8 140000 (sold 2 8 240 54000 ∷ sold 3 8 240 50000 ∷ sold 4 8 240 35000 ∷ sold 1 8 240 1000 ∷ [])
    ∷ []))

-- limits on the grid and off it; a refused entry takes no stamp
abbrev pub limits : Day
limits = lit_day (
    rests (buy 11 1 500 2 0) 1 500
    ∷ rests (buy 11 1 500 198 0) 2 500
    ∷ meets_refusal (buy 11 1 500 0 0) WrongLimit
    ∷ meets_refusal (buy 11 1 500 199 0) WrongLimit
    ∷ meets_refusal (buy 11 1 500 202 0) WrongLimit
    ∷ meets_refusal (buy 11 1 500 4000004 0) WrongLimit
    ∷ rests (buy 11 1 500 200 0) 3 500
    ∷ [])

-- Days in the dark book at a last sale of 4040, where the lot is 100.
use Rattle.std.specs.Prelude.{List, [], ◌∷◌, ◌++◌}
use Rattle.orders.specs.declared.call.Call.TheVariants.{Cancel}
use Rattle.terms.specs.Dark.{dark_deal, dark_verdict}
use Rattle.priority.specs.Ranking.{time_before}
use Rattle.book.specs.States.{Rules}
use Rattle.sampledays.specs.Playing.{Step, Day}
use Rattle.sampledays.specs.Writing.{buy, sell, bought, sold, gives, rests, fills, lapses, quotes}

abbrev pub dark_by_time : Rules
dark_by_time = record { deals = dark_deal; verdict = dark_verdict; before = time_before }

abbrev pub dark_day : List Step → Day
dark_day steps = record { rules = dark_by_time; last = 4040; places = 6; steps = steps }

-- more than 50 lots sell at the bid
abbrev pub above_fifty_lots : Day
above_fifty_lots = dark_day (
    quotes 4040 4060
    ∷ rests (buy 11 1 100 4040 0) 1 100
    ∷ gives (sell 3 5100 0) 2 100 0 5000 (sold 1 2 4040 100 ∷ [])
    ∷ [])

-- 50 lots, worth 20,200,000, do not
abbrev pub fifty_lots : Day
fifty_lots = dark_day (
    quotes 4040 4060
    ∷ rests (buy 11 1 100 4040 0) 1 100
    ∷ lapses (sell 3 5000 0) 2 5000
    ∷ [])

-- 50 lots that are worth 40,020,000 do
abbrev pub above_the_value : Day
above_the_value = dark_day (
    quotes 8004 8024
    ∷ rests (buy 11 1 5000 8004 0) 1 5000
    ∷ fills (sell 3 5000 0) 2 5000 (sold 1 2 8004 5000 ∷ [])
    ∷ [])

-- and 50 lots that are worth just 40,000,000 do not
abbrev pub at_the_value : Day
at_the_value = dark_day (
    quotes 8000 8020
    ∷ rests (buy 11 1 5000 8000 0) 1 5000
    ∷ lapses (sell 3 5000 0) 2 5000
    ∷ [])

-- a sale of 900 is below the buyer's minimum; after 9,500 more the minimum in force is 500, and the sweep fills 500 of
-- the 900, so that 400 are left to cancel
abbrev pub shrunken_minimum : Day
shrunken_minimum = dark_day (
    quotes 4040 4060
    ∷ rests (buy 11 1 10000 4048 1000) 1 10000
    ∷ rests (sell 1 900 4044) 2 900
    ∷ fills (sell 1 9500 4044) 3 9500 (sold 1 3 4048 9500 ∷ sold 1 2 4048 500 ∷ [])
    ∷ gives (Cancel 2) 2 0 0 400 []
    ∷ [])

-- sellers at two better prices, and two of 5,000 at the touch
abbrev pub offers : List Step
offers =
    quotes 4040 4052
    ∷ rests (sell 1 500 4044) 1 500
    ∷ rests (sell 1 500 4048) 2 500
    ∷ rests (sell 1 5000 4052) 3 5000
    ∷ rests (sell 1 5000 4052) 4 5000
    ∷ []

-- at the touch no order has the 6,000 that kind 6 asks of each
abbrev pub minimum_each : Day
minimum_each = dark_day (offers ++ (
    gives (buy 11 6 10000 4052 6000) 5 1000 0 9000 (bought 5 1 4044 500 ∷ bought 5 2 4048 500 ∷ [])
    ∷ []))

-- in sum they have more than the 6,000 that kind 7 asks
abbrev pub minimum_sum : Day
minimum_sum = dark_day (offers ++ (
    fills (buy 11 7 10000 4052 6000) 5 10000 (bought 5 1 4044 500 ∷ bought 5 2 4048 500 ∷ bought 5 3 4052 5000 ∷ bought 5 4 4052 4000 ∷ [])
    ∷ []))

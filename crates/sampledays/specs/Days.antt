-- The table of days.
use Rattle.std.specs.Prelude.{List, [], ◌∷◌}
use Rattle.sampledays.specs.Playing.{Day}
use Rattle.sampledays.specs.LitDays.{large, not_large, raised_behind, raised_before, limits}
use Rattle.sampledays.specs.DarkDays.{above_fifty_lots, fifty_lots, above_the_value, at_the_value, shrunken_minimum, minimum_each, minimum_sum}

abbrev pub days : List Day
days =
    large
    ∷ not_large
    ∷ raised_behind
    ∷ raised_before
    ∷ limits
    ∷ above_fifty_lots
    ∷ fifty_lots
    ∷ above_the_value
    ∷ at_the_value
    ∷ shrunken_minimum
    ∷ minimum_each
    ∷ minimum_sum
    ∷ []

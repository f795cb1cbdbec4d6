-- What turns on the side of an order.
use Rattle.std.specs.Prelude.{ℕ, Bool, true, false, List, codes, nat_le, nat_lt}
use Rattle.orders.specs.declared.side.Side.{Side}
use Rattle.orders.specs.declared.side.Side.TheVariants.{Buy, Sell}

-- the word that a session and its listing have for a side
abbrev pub side_word : Side → List ℕ
side_word Buy = codes "BUY"
side_word Sell = codes "SELL"

abbrev pub other : Side → Side
other Buy = Sell
other Sell = Buy

abbrev pub opposite : Side → Side → Bool
opposite Buy Buy = false
opposite Buy Sell = true
opposite Sell Buy = true
opposite Sell Sell = false

-- the first price is better than the second, for an order of this side: a buyer wants less, a seller more
abbrev pub better : Side → ℕ → ℕ → Bool
better Buy p q = nat_lt p q
better Sell p q = nat_lt q p

-- a price is no worse than a bound, for an order of this side
abbrev pub no_worse : Side → ℕ → ℕ → Bool
no_worse Buy price bound = nat_le price bound
no_worse Sell price bound = nat_le bound price

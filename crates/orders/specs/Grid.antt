-- The price grid and the lot, over plain numbers. A price is a whole number of quarter cents.
use Rattle.std.specs.Prelude.{ℕ, ◌+◌, ◌-◌, ◌%◌, Bool, cond, ◌&&◌, ◌||◌, ◌==◌, nat_le, nat_lt}

abbrev pub highest_price : ℕ
highest_price = 4000000

-- an entered or quoted price: from 2 up, a multiple of 4 from 200 up, and of 2 below
abbrev pub on_grid : ℕ → Bool
on_grid p = nat_le 2 p && nat_le p highest_price && p % cond (nat_le 200 p) 4 2 == 0

-- the next price up, also from the highest
abbrev pub step_above : ℕ → ℕ
step_above p = cond (nat_le 200 p) (p + 4) (p + 2)

-- the next price down, also from the lowest; 200 itself is left by 2
abbrev pub step_below : ℕ → ℕ
step_below p = cond (nat_lt 200 p) (p - 4) (p - 2)

-- the shares of a lot, from the price of the last sale
abbrev pub lot_shares : ℕ → ℕ
lot_shares last = cond (nat_le 400 last) 100 (cond (nat_le 40 last) 500 1000)

-- the lots that there are
abbrev pub is_lot : ℕ → Bool
is_lot shares = shares == 100 || shares == 500 || shares == 1000

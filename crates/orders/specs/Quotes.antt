-- Prices, lots and quotes as values of their types, and what a quote says.
use Rattle.std.specs.Prelude.{◌≡◌, ℕ, ◌+◌, ◌/◌, Bool, true, false, cond, Some, None, Option, ◌==◌, nat_le, nat_lt, refl}
use Rattle.orders.specs.Grid.{on_grid, step_above, lot_shares, is_lot}
use Rattle.orders.specs.declared.side.Side.{Side}
use Rattle.orders.specs.declared.side.Side.TheVariants.{Buy, Sell}
use Rattle.orders.specs.declared.price.Price.{Price}
use Rattle.orders.specs.declared.lot.Lot.{Lot}
use Rattle.orders.specs.declared.quote.Quote.{Quote}

-- the price of this number, if the test of the grid passed
abbrev pub price_if : (n : ℕ) (passed : Bool) → on_grid n ≡ passed → Option Price
price_if n true e = Some (record { quarters = n; ok = e })
price_if n false e = None

abbrev pub price_of : ℕ → Option Price
price_of n = price_if n (on_grid n) refl

-- each number of shares that a last sale gives is a lot
pub is_lot_shares : (last : ℕ) → is_lot (lot_shares last) ≡ true
is_lot_shares last =
    elim (nat_le 400 last) as (λ a. is_lot (cond a 100 (cond (nat_le 40 last) 500 1000)) ≡ true) [
      | true ↦ refl
      | false ↦ elim (nat_le 40 last) as (λ b. is_lot (cond b 500 1000) ≡ true) [ true ↦ refl | false ↦ refl ]
    ]

-- the lot, from the price of the last sale
abbrev pub lot_of : ℕ → Lot
lot_of last = record { shares = lot_shares last; ok = is_lot_shares last }

-- the quote of these prices, if the test of their order passed
abbrev pub quote_if : (b o : Price) (passed : Bool) → nat_lt b.quarters o.quarters ≡ passed → Option Quote
quote_if b o true e = Some (record { bid = b; offer = o; ok = e })
quote_if b o false e = None

abbrev pub quote_by : Option Price → Option Price → Option Quote
quote_by None o = None
quote_by (Some b) None = None
quote_by (Some b) (Some o) = quote_if b o (nat_lt b.quarters o.quarters) refl

-- the quote of two numbers: both prices on the grid, the bid below the offer
abbrev pub quote_of : (bid offer : ℕ) → Option Quote
quote_of bid offer = quote_by (price_of bid) (price_of offer)

abbrev pub middle : Quote → ℕ
middle q = (q.bid.quarters + q.offer.quarters) / 2

-- one step wide
abbrev pub narrow : Quote → Bool
narrow q = q.offer.quarters == step_above q.bid.quarters

-- the quoted price of the other side, for an active order of this side
abbrev pub touch : Side → Quote → ℕ
touch Buy q = q.offer.quarters
touch Sell q = q.bid.quarters

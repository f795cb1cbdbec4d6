-- What makes a fill right, as the sheet stands just before it.
use Rattle.std.specs.Prelude.{◌≡◌, ℕ, ◌<◌, min, true, List, [], ◌∷◌, Some, None, ◌≢◌}
use Rattle.orders.specs.declared.call.Fill.{Fill}
use Rattle.orders.specs.declared.order.Order.{Order}
use Rattle.orders.specs.declared.side.Side.{Side}
use Rattle.orders.specs.declared.side.Side.TheVariants.{Buy, Sell}
use Rattle.priority.specs.declared.candidate.Candidate.{Candidate}
use Rattle.matching.specs.Market.{Market}
use Rattle.book.specs.States.{Rules}
use Rattle.day.specs.Sheets.{Orders, Sheet, took}

-- the deal and the priority under the quote and the lot of a sheet
abbrev pub market_on : Rules → Sheet → Market
market_on u s = record { deal = λ a r. u.deals a r s.quote s.lot; before = u.before; quote = s.quote }

-- the number of the active order of a fill, and of the passive one
abbrev pub active_by : Side → Fill → ℕ
active_by Buy f = f.buyer
active_by Sell f = f.seller

abbrev pub passive_by : Side → Fill → ℕ
passive_by Buy f = f.seller
passive_by Sell f = f.buyer

abbrev pub active_number : Fill → ℕ
active_number f = active_by f.active f

abbrev pub passive_number : Fill → ℕ
passive_number f = passive_by f.active f

abbrev pub dealt : Order → (price : ℕ) → Candidate
dealt o price = record { order = o; price = price }

-- Both orders stand, the passive one is older, the terms give this pair exactly this price, the shares are the smaller of
-- the two shares left, and the priority puts the passive one before every other older order with which the active one has
-- a deal.
pub record Fair (m : Market) (s : Orders) (f : Fill) : Type 0 where
  pub active : Order
  pub passive : Order
  pub active_at : s (active_number f) ≡ Some active
  pub passive_at : s (passive_number f) ≡ Some passive
  pub side : active.side ≡ f.active
  pub older : passive.stamp < active.stamp
  pub price : m.deal active passive ≡ Some f.price
  pub shares : f.shares ≡ min active.left passive.left
  pub first : (n : ℕ) (o : Order) (p : ℕ) → s n ≡ Some o → (n ≢ passive_number f) → o.stamp < active.stamp → m.deal active o ≡ Some p → m.before active (dealt passive f.price) (dealt o p) ≡ true

-- each fill in turn, on what the ones before left
abbrev pub AllFair : Market → Orders → List Fill → Type 0
AllFair m s [] = Unit {0}
AllFair m s (f ∷ fs) = Fair m s f × AllFair m (took f s) fs

-- no two orders have a deal with the younger as active
abbrev pub Quiet : Market → Orders → Type 0
Quiet m s = (i j : ℕ) (x y : Order) → s i ≡ Some x → s j ≡ Some y → y.stamp < x.stamp → m.deal x y ≡ None

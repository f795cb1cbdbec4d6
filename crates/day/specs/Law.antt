-- The law of a whole day.
use Rattle.std.specs.Prelude.{◌≡◌, ℕ, ◌<◌, min, List, [], ◌∷◌, length, Some, None, Ok, Err, Result, slice_index_or}
use Rattle.orders.specs.Rows.{order_of, row_of, cleared}
use Rattle.orders.specs.declared.call.Call.{Call}
use Rattle.orders.specs.declared.call.Fill.{Fill}
use Rattle.orders.specs.declared.call.Receipt.{Receipt}
use Rattle.orders.specs.declared.order.Order.{Order}
use Rattle.orders.specs.declared.refusal.Refusal.{Refusal}
use Rattle.orders.specs.declared.row.Row.{Row}
use Rattle.book.specs.States.{Rules}
use Rattle.day.specs.declared.item.Item.{Item}
use Rattle.day.specs.Steps.{Step}
use Rattle.day.specs.Sheets.{Orders, Sheet, written, accepted, after}
use Rattle.day.specs.Fairness.{market_on, AllFair, Quiet}
use Rattle.day.specs.Causes.{Lists, causes, Refused, Passed}
use Rattle.day.specs.Trades.{IfOpen, Traded}
use Rattle.day.specs.Receipts.{Receipted}
use Rattle.day.specs.Balances.{Tally, tallied, Balanced}

-- the lists that an item hands in, of so many places and fill entries
abbrev pub lists_of : (places entries : ℕ) → Item → Lists
lists_of places entries i = record { places = min i.places places; entries = min i.fills entries }

-- Answered. A call is refused just when a cause holds, with the first that does, and then there is no fill; an accepted
-- one makes its own fills and those of the sweep, and returns what became of its order.
abbrev pub Answered : Rules → (places : ℕ) → Sheet → Lists → Call → Result Receipt Refusal → List Fill → Type 0
Answered u places s l c (Err x) fs = Refused (causes u places s l c) x × (fs ≡ [])
Answered u places s l c (Ok r) fs = Passed (causes u places s l c) × Traded u s c fs × Receipted s (accepted c fs s).orders c r fs

-- Fair. Every fill is right as the sheet stood just before it.
abbrev pub FairFills : Rules → Sheet → Call → Result Receipt Refusal → List Fill → Type 0
FairFills u s c (Err x) fs = Unit {0}
FairFills u s c (Ok r) fs = AllFair (market_on u (written c s)) (written c s).orders fs

-- Kept. The places hold exactly the orders of the sheet, field for field, each in one place; every other place is all 0.
pub record Holds (places : ℕ) (s : Orders) (rows : List Row) : Type 0 where
  pub size : length rows ≡ places
  pub all : (n : ℕ) (o : Order) → s n ≡ Some o → (k : ℕ) × (k < length rows) × (slice_index_or rows k cleared ≡ row_of o) × (o.number ≡ n)
  pub only : (k : ℕ) (o : Order) → k < length rows → order_of (slice_index_or rows k cleared) ≡ Some o → s o.number ≡ Some o
  pub once : (i j : ℕ) (x y : Order) → i < length rows → j < length rows → order_of (slice_index_or rows i cleared) ≡ Some x → order_of (slice_index_or rows j cleared) ≡ Some y → x.number ≡ y.number → i ≡ j
  pub free : (k : ℕ) → k < length rows → order_of (slice_index_or rows k cleared) ≡ None → slice_index_or rows k cleared ≡ cleared

-- Settled. In an open book no two orders of the sheet have a deal with the younger as active.
abbrev pub Settled : Rules → Sheet → Type 0
Settled u s = IfOpen s.phase (Quiet (market_on u s) s.orders) (Unit {0})

-- one step of a day, from the sheet and the tally before it
pub record StepLaw (u : Rules) (places entries : ℕ) (s : Sheet) (t : Tally) (i : Item) (x : Step) : Type 0 where
  pub item : x.item ≡ i
  pub answered : Answered u places s (lists_of places entries i) i.call x.reply x.fills
  pub fair : FairFills u s i.call x.reply x.fills
  pub kept : Holds places (after i.call x.reply x.fills s).orders x.rows
  pub settled : Settled u (after i.call x.reply x.fills s)
  pub balanced : Balanced (tallied i.call x.reply x.fills s t) x.rows

-- a step for each call, each on the sheet and the tally that the ones before left
abbrev pub Day : Rules → (places entries : ℕ) → Sheet → Tally → List Item → List Step → Type 0
Day u places entries s t [] [] = Unit {0}
Day u places entries s t [] (x ∷ xs) = ⊥
Day u places entries s t (i ∷ is) [] = ⊥
Day u places entries s t (i ∷ is) (x ∷ xs) =
    StepLaw u places entries s t i x
    × Day u places entries (after i.call x.reply x.fills s) (tallied i.call x.reply x.fills s t) is xs

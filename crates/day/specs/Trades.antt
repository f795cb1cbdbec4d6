-- Which fills an accepted call makes: the entry's own, then those of the sweep.
use Rattle.std.specs.Prelude.{◌≡◌, ℕ, ◌<◌, Bool, true, false, ◌||◌, ◌⊎◌, List, [], ◌∷◌, ◌++◌, Some, None}
use Rattle.orders.specs.Rows.{in_force}
use Rattle.orders.specs.declared.call.Call.{Call}
use Rattle.orders.specs.declared.call.Call.TheVariants.{Enter, Amend, Cancel, Quote, Withdraw, Halt, Resume, Close}
use Rattle.orders.specs.declared.call.Fill.{Fill}
use Rattle.orders.specs.declared.kind.Kind.TheVariants.{MinimumSum}
use Rattle.orders.specs.declared.order.Order.{Order}
use Rattle.matching.specs.Market.{Market}
use Rattle.matching.specs.Sums.{is_touch, counted}
use Rattle.places.specs.declared.phase.Phase.{Phase}
use Rattle.places.specs.declared.phase.Phase.TheVariants as phase
use Rattle.book.specs.States.{Rules}
use Rattle.day.specs.Sheets.{Orders, Sheet, written, took, took_all, leaves}
use Rattle.day.specs.Fairness.{market_on, active_number, Fair, Quiet}
use Rattle.day.specs.Causes.{total}

-- one thing in an open book, another in any other
abbrev pub IfOpen : Phase → Type 0 → Type 0 → Type 0
IfOpen phase.Open A B = A
IfOpen phase.Halted A B = B
IfOpen phase.Closed A B = B

-- the entered order k has gone, or no older order has a deal with it
abbrev pub Spent : Market → (k : ℕ) → Orders → Type 0
Spent m k s = (a : Order) → s k ≡ Some a → (n : ℕ) (o : Order) → s n ≡ Some o → o.stamp < a.stamp → m.deal a o ≡ None

-- whether a fill is at the touch of its active order
abbrev pub touches : Market → Fill → Bool
touches m f = is_touch m.quote f.active f.price

-- The entered order k has a minimum in sum and has not yet filled at the touch, this fill would be there, and the shares
-- left of all orders with minimum 0 that have a deal with it at the touch sum to less than its minimum in force.
pub record Stops (m : Market) (k : ℕ) (touched : Bool) (s : Orders) (f : Fill) : Type 0 where
  pub active : Order
  pub active_at : s k ≡ Some active
  pub in_sum : active.kind ≡ MinimumSum
  pub untouched : touched ≡ false
  pub at_touch : touches m f ≡ true
  pub few : total (counted m active) s k < in_force active

-- The entered order's own fills: it is active in each, and none of them is stopped; they end when it has gone, or no older
-- order has a deal with it, or the fill that would come next is stopped.
abbrev pub Own : Market → (k : ℕ) → (touched : Bool) → Orders → List Fill → Type 0
Own m k touched s [] = Spent m k s ⊎ ((f : Fill) × Fair m s f × (active_number f ≡ k) × Stops m k touched s f)
Own m k touched s (f ∷ fs) = (active_number f ≡ k) × (Stops m k touched s f → ⊥) × Own m k (touched || touches m f) (took f s) fs

-- the active order of the fill is one of these orders, and none that is older has a deal, as active, with an older one
pub record Oldest (m : Market) (s : Orders) (f : Fill) : Type 0 where
  pub active : Order
  pub active_at : s (active_number f) ≡ Some active
  pub none_older : (i j : ℕ) (x y : Order) → s i ≡ Some x → s j ≡ Some y → x.stamp < active.stamp → y.stamp < x.stamp → m.deal x y ≡ None

-- the fills of a sweep: each time the oldest that can be active is; they end when no order can
abbrev pub InTurn : Market → Orders → List Fill → Type 0
InTurn m s [] = Quiet m s
InTurn m s (f ∷ fs) = Oldest m s f × InTurn m (took f s) fs

-- only an entry has fills of its own, and only in an open book
abbrev pub OwnFills : Rules → Sheet → Call → List Fill → Type 0
OwnFills u s (Enter e) fs = IfOpen s.phase (Own (market_on u s) s.next false (written (Enter e) s).orders fs) (fs ≡ [])
OwnFills u s (Amend a) fs = fs ≡ []
OwnFills u s (Cancel n) fs = fs ≡ []
OwnFills u s (Quote bid offer) fs = fs ≡ []
OwnFills u s Withdraw fs = fs ≡ []
OwnFills u s Halt fs = fs ≡ []
OwnFills u s Resume fs = fs ≡ []
OwnFills u s Close fs = fs ≡ []

-- the sweep of a book that is open after the call; an entered order of a kind that does not rest has no part in it
abbrev pub SweepFills : Rules → Sheet → Call → (own swept : List Fill) → Type 0
SweepFills u s c own fs =
    IfOpen (written c s).phase (InTurn (market_on u (written c s)) (leaves c s.next (took_all own (written c s).orders)) fs) (fs ≡ [])

pub record Traded (u : Rules) (s : Sheet) (c : Call) (fs : List Fill) : Type 0 where
  pub own : List Fill
  pub swept : List Fill
  pub parts : fs ≡ own ++ swept
  pub goes : OwnFills u s c own
  pub turns : SweepFills u s c own swept

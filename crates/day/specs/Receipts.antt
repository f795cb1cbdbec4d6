-- What an accepted call returns.
use Rattle.std.specs.Prelude.{◌≡◌, ℕ, ◌-◌, cond, List, length, Some, None, Option}
use Rattle.orders.specs.Codes.{kind_of}
use Rattle.orders.specs.declared.call.Call.{Call}
use Rattle.orders.specs.declared.call.Call.TheVariants.{Enter, Amend, Cancel, Quote, Withdraw, Halt, Resume, Close}
use Rattle.orders.specs.declared.call.Fill.{Fill}
use Rattle.orders.specs.declared.call.Receipt.{Receipt}
use Rattle.places.specs.Remainders.{rests_as}
use Rattle.day.specs.Sheets.{Orders, Sheet, left_of, takes_all}

-- the number of the call's order: an entry takes the next stamp; some calls have no order
abbrev pub number_in : Sheet → Call → Option ℕ
number_in s (Enter e) = Some s.next
number_in s (Amend a) = Some a.number
number_in s (Cancel n) = Some n
number_in s (Quote bid offer) = None
number_in s Withdraw = None
number_in s Halt = None
number_in s Resume = None
number_in s Close = None

-- what a call takes away untraded: of an at-once entry what did not fill, of an amendment what was left beyond the new
-- shares, of a cancel all that was left
abbrev pub cancelled_in : Sheet → Call → List Fill → ℕ
cancelled_in s (Enter e) fs = cond {A = ℕ} (rests_as (kind_of e.kind)) 0 (e.shares - takes_all fs s.next)
cancelled_in s (Amend a) fs = left_of (s.orders a.number) - a.shares
cancelled_in s (Cancel n) fs = left_of (s.orders n)
cancelled_in s (Quote bid offer) fs = 0
cancelled_in s Withdraw fs = 0
cancelled_in s Halt fs = 0
cancelled_in s Resume fs = 0
cancelled_in s Close fs = 0

-- the order's number, the shares of the fills that name it, its shares left after the call, or zeros
abbrev pub OrderTold : Option ℕ → (after : Orders) → Receipt → List Fill → Type 0
OrderTold None after r fs = (r.number ≡ 0) × (r.filled ≡ 0) × (r.resting ≡ 0)
OrderTold (Some n) after r fs = (r.number ≡ n) × (r.filled ≡ takes_all fs n) × (r.resting ≡ left_of (after n))

pub record Receipted (s : Sheet) (after : Orders) (c : Call) (r : Receipt) (fs : List Fill) : Type 0 where
  pub order : OrderTold (number_in s c) after r fs
  pub cancelled : r.cancelled ≡ cancelled_in s c fs
  pub count : r.fills ≡ length fs

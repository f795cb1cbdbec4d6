-- What became of the shares of every order, kept from calls and returns alone.
use Rattle.std.specs.Prelude.{◌≡◌, ℕ, ◌+◌, ◌-◌, cond, List, [], ◌∷◌, Ok, Err, Result, ◌==◌}
use Rattle.orders.specs.declared.call.Call.{Call}
use Rattle.orders.specs.declared.call.Call.TheVariants.{Enter, Amend, Cancel, Quote, Withdraw, Halt, Resume, Close}
use Rattle.orders.specs.declared.call.Fill.{Fill}
use Rattle.orders.specs.declared.call.Receipt.{Receipt}
use Rattle.orders.specs.declared.refusal.Refusal.{Refusal}
use Rattle.orders.specs.declared.row.Row.{Row}
use Rattle.places.specs.Places.{holds_number}
use Rattle.day.specs.Sheets.{Sheet, left_of, takes_all}

-- by number: the shares entered; added by amendments beyond what was left; filled; cut by amendments; cancelled by the
-- entry or a cancel
pub record Tally : Type 0 where
  pub entered : ℕ → ℕ
  pub added : ℕ → ℕ
  pub filled : ℕ → ℕ
  pub cut : ℕ → ℕ
  pub cancelled : ℕ → ℕ

abbrev pub nothing : Tally
nothing = record { entered = λ _. 0; added = λ _. 0; filled = λ _. 0; cut = λ _. 0; cancelled = λ _. 0 }

-- so many more under one number
abbrev pub plus : ℕ → ℕ → (ℕ → ℕ) → ℕ → ℕ
plus k x t n = t n + cond {A = ℕ} (n == k) x 0

-- what an accepted call adds, its fills apart
abbrev pub counted : Call → Receipt → Sheet → Tally → Tally
counted (Enter e) r s t = record t { entered = plus s.next e.shares t.entered; cancelled = plus s.next r.cancelled t.cancelled }
counted (Amend a) r s t = record t { added = plus a.number (a.shares - left_of (s.orders a.number)) t.added; cut = plus a.number r.cancelled t.cut }
counted (Cancel n) r s t = record t { cancelled = plus n r.cancelled t.cancelled }
counted (Quote bid offer) r s t = t
counted Withdraw r s t = t
counted Halt r s t = t
counted Resume r s t = t
counted Close r s t = t

abbrev pub with_fills : List Fill → Tally → Tally
with_fills fs t = record t { filled = λ n. t.filled n + takes_all fs n }

-- the tally after a call on the sheet that stood before it
abbrev pub tallied : Call → Result Receipt Refusal → List Fill → Sheet → Tally → Tally
tallied c (Err x) fs s t = t
tallied c (Ok r) fs s t = with_fills fs (counted c r s t)

-- the shares left that the places hold under a number
abbrev pub held : ℕ → List Row → ℕ
held n [] = 0
held n (r ∷ rs) = cond {A = ℕ} (holds_number n r) r.left 0 + held n rs

-- every share that was entered or added is filled, cut, cancelled or resting
abbrev pub Balanced : Tally → List Row → Type 0
Balanced t rows = (n : ℕ) → t.entered n + t.added n ≡ t.filled n + t.cut n + t.cancelled n + held n rows

-- A day: calls with what they shall come to, played by the definitions of the calls.
use Rattle.std.specs.Prelude.{◌≡◌, ℕ, List, [], ◌∷◌, length, map, replicate, Result}
use Rattle.orders.specs.Rows.{cleared}
use Rattle.orders.specs.declared.call.Call.{Call}
use Rattle.orders.specs.declared.call.Fill.{Fill}
use Rattle.orders.specs.declared.call.Receipt.{Receipt}
use Rattle.orders.specs.declared.refusal.Refusal.{Refusal}
use Rattle.orders.specs.declared.row.Row.{Row}
use Rattle.book.specs.States.{State, Rules, opened}
use Rattle.book.specs.Calls.{After, answer}

-- a call, and the reply and the fills that it shall have
pub record Step : Type 0 where
  pub call : Call
  pub reply : Result Receipt Refusal
  pub fills : List Fill

-- a book that is opened at a last sale with so many places, and the calls made in it
pub record Day : Type 0 where
  pub rules : Rules
  pub last : ℕ
  pub places : ℕ
  pub steps : List Step

-- a call that was made, and the steps that follow on the book and the places that it left
abbrev pub made : Call → (State → List Row → List Step) → After → List Step
made c next a = record { call = c; reply = a.reply; fills = a.fills } ∷ next a.state a.rows

-- each call is made on what the one before left, with a fill entry for each place
abbrev pub played_from : Rules → State → List Row → List Call → List Step
played_from u s rows [] = []
played_from u s rows (c ∷ cs) = made c (λ s' rows'. played_from u s' rows' cs) (answer u s c (length rows) rows)

-- the calls of a day with what they come to
abbrev pub played : Day → List Step
played d = played_from d.rules (opened d.last d.places) (replicate d.places cleared) (map (λ t. t.call) d.steps)

-- every call of these days comes to what it shall
abbrev pub AllDaysHold : List Day → Type 0
AllDaysHold ds = map played ds ≡ map (λ d. d.steps) ds

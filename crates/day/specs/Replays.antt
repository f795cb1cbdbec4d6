-- What a replay does.
use Rattle.std.specs.Prelude.{◌≡◌, ℕ, true, false, List, length, replicate, Ok, Err, Result}
use Rattle.orders.specs.Rows.{cleared}
use Rattle.orders.specs.declared.call.Fill.{Fill}
use Rattle.orders.specs.declared.refusal.Refusal.{Refusal}
use Rattle.orders.specs.declared.refusal.Refusal.TheVariants.{WrongOpening}
use Rattle.orders.specs.declared.row.Row.{Row}
use Rattle.book.specs.Causes.{openable}
use Rattle.book.specs.States.{Rules}
use Rattle.day.specs.declared.item.Item.{Item}
use Rattle.day.specs.Steps.{Step, Handed}
use Rattle.day.specs.Plays.{last_rows, overlaid}
use Rattle.day.specs.Sheets.{opening}
use Rattle.day.specs.Balances.{nothing}
use Rattle.day.specs.Law.{Day}

-- what is lent to a replay, before or after it
pub record Lent (R : Type 0) : Type 0 where
  pub rows : List Row
  pub fills : List Fill
  pub recorder : R

-- the day was played: there are steps that keep the law, one for each call, and the recorder was handed exactly these
pub record Played (u : Rules) {R : Type 0} (notes : R → Step → R → Type 0) (last : ℕ) (items : List Item) (was is : Lent R) : Type 0 where
  pub opens : openable last (length was.rows) ≡ true
  pub steps : List Step
  pub law : Day u (length was.rows) (length was.fills) (opening last) nothing items steps
  pub handed : Handed notes was.recorder steps is.recorder
  pub rows : is.rows ≡ last_rows (replicate (length was.rows) cleared) steps
  pub fills : is.fills ≡ overlaid was.fills steps

-- opening was refused, and nothing was touched
pub record NotOpened {R : Type 0} (last : ℕ) (x : Refusal) (was is : Lent R) : Type 0 where
  pub unfit : openable last (length was.rows) ≡ false
  pub refusal : x ≡ WrongOpening
  pub same : is ≡ was

abbrev pub Replayed : Rules → {R : Type 0} → (notes : R → Step → R → Type 0) → (last : ℕ) → List Item → (was is : Lent R) → Result (Unit {0}) Refusal → Type 0
Replayed u notes last items was is (Ok x) = Played u notes last items was is
Replayed u notes last items was is (Err x) = NotOpened last x was is

-- A day as the rules play it: every call on what the one before left.
use Rattle.std.specs.Prelude.{◌≡◌, ℕ, min, List, [], ◌∷◌, ◌++◌, length, take, drop}
use Rattle.orders.specs.declared.call.Fill.{Fill}
use Rattle.orders.specs.declared.row.Row.{Row}
use Rattle.terms.specs.declared.terms.Terms.{Ghosts as Terms}
use Rattle.priority.specs.declared.priority.Priority.{Ghosts as Priority}
use Rattle.book.specs.declared.book.Book.{Book}
use Rattle.book.specs.States.{State, Rules, state_of, rules_in}
use Rattle.book.specs.Calls.{After, answer}
use Rattle.day.specs.declared.item.Item.{Item}
use Rattle.day.specs.Steps.{Step, Handed}

-- how many of the lent places an item hands in
abbrev pub handed_in : Item → List Row → ℕ
handed_in i rows = min i.places (length rows)

-- what the book answers to an item, which hands in some of the rows and of so many fill entries
abbrev pub answer_to : Rules → (entries : ℕ) → State → List Row → Item → After
answer_to u entries s rows i = answer u s i.call (min i.fills entries) (take (handed_in i rows) rows)

-- all the rows after it
abbrev pub rows_after : Rules → (entries : ℕ) → State → List Row → Item → List Row
rows_after u entries s rows i = (answer_to u entries s rows i).rows ++ drop (handed_in i rows) rows

abbrev pub step_of : Rules → (entries : ℕ) → State → List Row → Item → Step
step_of u entries s rows i = record { item = i; reply = (answer_to u entries s rows i).reply; fills = (answer_to u entries s rows i).fills; rows = rows_after u entries s rows i }

unfoldable pub play : Rules → (entries : ℕ) → State → List Row → List Item → List Step
play u entries s rows [] = []
play u entries s rows (i ∷ is) = step_of u entries s rows i ∷ play u entries (answer_to u entries s rows i).state (rows_after u entries s rows i) is

-- the places after the last of the steps
abbrev pub last_rows : List Row → List Step → List Row
last_rows rows [] = rows
last_rows rows (x ∷ xs) = last_rows x.rows xs

-- a list of fills once each step has written its own over the first entries; entries that no step wrote stay
abbrev pub overlaid : List Fill → List Step → List Fill
overlaid old [] = old
overlaid old (x ∷ xs) = overlaid (x.fills ++ drop (length x.fills) old) xs

-- a day at a moment between two calls: the book's rules and state, and what is lent
pub record Stand (R : Type 0) : Type 0 where
  pub rules : Rules
  pub state : State
  pub rows : List Row
  pub fills : List Fill
  pub recorder : R

abbrev pub stand_of : {P T R : Type 0} → Priority P → Terms T → Book P T → List Row → List Fill → R → Stand R
stand_of priority terms b rows fills recorder = record { rules = rules_in priority terms b; state = state_of b; rows = rows; fills = fills; recorder = recorder }

-- what the book answers there to an item, and the step that this makes
abbrev pub answer_at : {R : Type 0} → Stand R → Item → After
answer_at x i = answer_to x.rules (length x.fills) x.state x.rows i

abbrev pub step_at : {R : Type 0} → Stand R → Item → Step
step_at x i = step_of x.rules (length x.fills) x.state x.rows i

-- the steps of a day that goes on from there with these items
abbrev pub play_from : {R : Type 0} → Stand R → List Item → List Step
play_from x items = play x.rules (length x.fills) x.state x.rows items

-- an item was played: it led from one stand to the next
pub record Turn {R : Type 0} (notes : R → Step → R → Type 0) (i : Item) (was is : Stand R) : Type 0 where
  pub rules : is.rules ≡ was.rules
  pub state : is.state ≡ (answer_at was i).state
  pub rows : is.rows ≡ (step_at was i).rows
  pub fills : is.fills ≡ (answer_at was i).fills ++ drop (length (answer_at was i).fills) was.fills
  pub noted : notes was.recorder (step_at was i) is.recorder

-- all these items were played in turn
pub record Turns {R : Type 0} (notes : R → Step → R → Type 0) (items : List Item) (was is : Stand R) : Type 0 where
  pub handed : Handed notes was.recorder (play_from was items) is.recorder
  pub rows : is.rows ≡ last_rows was.rows (play_from was items)
  pub fills : is.fills ≡ overlaid was.fills (play_from was items)

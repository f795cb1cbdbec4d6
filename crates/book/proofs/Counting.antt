-- A reply counts the fills that its call has made, and no call changes how many places the book has.
use Rattle.std.proofs.Common.{◌≡◌, ℕ, List, length, Ok, Err, Result, refl, rules, length-append}
use Rattle.orders.specs.declared.call.Call.{Call}
use Rattle.orders.specs.declared.call.Call.TheVariants as call
use Rattle.orders.specs.declared.refusal.Refusal.{Refusal}
use Rattle.orders.specs.declared.row.Row.{Row}
use Rattle.book.specs.States.{State, Rules}
use Rattle.book.specs.Calls.{After, count_in, decided, answer}

-- what both say of a call
record Keeps (s : State) (a : After) : Type 0 where
  counts : count_in a.reply ≡ length a.fills
  places : a.state.places ≡ s.places

decided_keeps : (cause : Result (Unit {0}) Refusal) (s : State) (rows : List Row) (a : After) → Keeps s a → Keeps s (decided cause s rows a)
decided_keeps (Ok u) s rows a h = h
decided_keeps (Err x) s rows a h = record { counts = refl; places = refl }

answer_keeps : (u : Rules) (s : State) (c : Call) (entries : ℕ) (rows : List Row) → Keeps s (answer u s c entries rows)
answer_keeps u s (call.Enter e) n rows = search (rules, decided_keeps, length-append)
answer_keeps u s (call.Amend a) n rows = search (rules, decided_keeps)
answer_keeps u s (call.Cancel number) n rows = search (rules, decided_keeps)
answer_keeps u s (call.Quote bid offer) n rows = search (rules, decided_keeps)
answer_keeps u s call.Withdraw n rows = search (rules, decided_keeps)
answer_keeps u s call.Halt n rows = search (rules, decided_keeps)
answer_keeps u s call.Resume n rows = search (rules, decided_keeps)
answer_keeps u s call.Close n rows = search (rules, decided_keeps)

module _ (u : Rules) (s : State) (c : Call) (entries : ℕ) (rows : List Row) where
  pub answer_counts : count_in (answer u s c entries rows).reply ≡ length (answer u s c entries rows).fills
  answer_counts = (answer_keeps u s c entries rows).counts

  pub answer_places : (answer u s c entries rows).state.places ≡ s.places
  answer_places = (answer_keeps u s c entries rows).places

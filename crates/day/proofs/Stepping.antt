-- One step of a day keeps the law.
use Rattle.std.proofs.Common.{◌≡◌, ℕ, ◌≤◌, min, List, ◌++◌, length, take, drop, Ok, Err, Result, sym, refl, ap, subst, arith}
use Rattle.std.proofs.lemmas.Grind.{common_steps}
use Rattle.std.proofs.lemmas.List.{length-take, take_all}
use Rattle.orders.specs.declared.call.Call.{Call}
use Rattle.orders.specs.declared.call.Call.TheVariants.{Enter, Amend, Cancel, Quote, Withdraw, Halt, Resume, Close}
use Rattle.orders.specs.declared.call.Fill.{Fill}
use Rattle.orders.specs.declared.call.Receipt.{Receipt}
use Rattle.orders.specs.declared.refusal.Refusal.{Refusal}
use Rattle.orders.specs.declared.row.Row.{Row}
use Rattle.matching.proofs.Foremost.{Lawful}
use Rattle.places.specs.declared.phase.Event.TheVariants as event
use Rattle.book.specs.States.{State, Rules}
use Rattle.book.specs.Causes.{entry_matter, amend_matter, cancel_matter, event_matter}
use Rattle.book.specs.Calls.{After, refused, decided}
use Rattle.book.proofs.Admitted.{clear}
use Rattle.day.specs.declared.item.Item.{Item}
use Rattle.day.specs.Steps.{Step}
use Rattle.day.specs.Plays.{handed_in, answer_to}
use Rattle.day.specs.Sheets.{Sheet, after}
use Rattle.day.specs.Causes.{Lists, causes, Refused, Passed}
use Rattle.day.specs.Balances.{Tally, tallied, Balanced}
use Rattle.day.specs.Law.{lists_of, Settled, StepLaw}
use Rattle.day.proofs.Keeping.{state_on, Sound}
use Rattle.day.proofs.Refusing.{Tells, cause_of, done_of, answer_is, told, all_handed}
use Rattle.day.proofs.Entered.{Kept, Taken, enter_kept}
use Rattle.day.proofs.Rewritten.{Outcome, amend_outcome, cancel_outcome, quote_outcome, withdraw_outcome, halt_outcome, resume_outcome, close_outcome}

-- what holds between two calls
pub record Between (u : Rules) (places : ℕ) (s : Sheet) (t : Tally) (rows : List Row) : Type 0 where
  pub sound : Sound places s.next s.orders rows
  pub settled : Settled u s
  pub balanced : Balanced t rows
  pub low : 1 ≤ s.next

-- the step of an item with any answer: the places that it did not hand in stay behind the others
abbrev step_by : Item → List Row → After → Step
step_by i rows a = record { item = i; reply = a.reply; fills = a.fills; rows = a.rows ++ drop (handed_in i rows) rows }

-- an accepted call, whatever it is
module _ (u : Rules) (lawful : Lawful u.before) (taken : Taken u) (places entries : ℕ) (s : Sheet) (t : Tally) (rows : List Row)
    (sound : Sound places s.next s.orders rows) (balanced : Balanced t rows) (low : 1 ≤ s.next) where
  pub call_kept : (c : Call) → cause_of u (state_on places s) c entries rows ≡ Ok tt → Outcome u places s t c (done_of u (state_on places s) c rows)
  call_kept (Enter e) ok = (_, refl, enter_kept u lawful taken places entries s t rows sound balanced low e (clear (entry_matter u (state_on places s) e entries rows) ok))
  call_kept (Amend a) ok = amend_outcome u lawful places entries s t rows sound balanced low taken a.number a.shares a.limit (clear (amend_matter u (state_on places s) a.number a.shares a.limit entries rows) ok)
  call_kept (Cancel n) ok = cancel_outcome u lawful places entries s t rows sound balanced low n (clear (cancel_matter (state_on places s) n entries rows) ok)
  call_kept (Quote bid offer) ok = quote_outcome u lawful places entries s t rows sound balanced low bid offer
  call_kept Withdraw ok = withdraw_outcome u lawful places entries s t rows sound balanced low
  call_kept Halt ok = halt_outcome u lawful places entries s t rows sound balanced low (clear (event_matter (state_on places s) event.Halt entries rows) ok)
  call_kept Resume ok = resume_outcome u lawful places entries s t rows sound balanced low (clear (event_matter (state_on places s) event.Resume entries rows) ok)
  call_kept Close ok = close_outcome u lawful places entries s t rows sound balanced low

-- what a step must show
abbrev pub Stepped : Rules → (places entries : ℕ) → Sheet → Tally → Item → List Row → After → Type 0
Stepped u places entries s t i rows a =
    StepLaw u places entries s t i (step_by i rows a)
    × Between u places (after i.call a.reply a.fills s) (tallied i.call a.reply a.fills s t) (step_by i rows a).rows
    × (a.state ≡ state_on places (after i.call a.reply a.fills s))

module _ (u : Rules) (lawful : Lawful u.before) (taken : Taken u) (places entries : ℕ) (s : Sheet) (t : Tally) (rows : List Row) (i : Item) (b : Between u places s t rows) where
  abbrev st : State
  st = state_on places s

  abbrev n : ℕ
  n = handed_in i rows

  abbrev h : List Row
  h = take n rows

  handed_long : length h ≡ min i.places places
  handed_long = let e = length-take n rows in let f = b.sound.holds.size in omega (arith, e, f)

  handed_all : length h ≡ places → h ≡ rows
  handed_all e = take_all n rows (omega (arith, b.sound.holds.size, handed_long))

  known : length h ≡ places → Sound places s.next s.orders h
  known e = subst (λ (x : List Row). Sound places s.next s.orders x) (sym (handed_all e)) b.sound

  lists : record { places = length h; entries = min i.fills entries } ≡ lists_of places entries i
  lists = ap (λ (k : ℕ). record { places = k; entries = min i.fills entries }) handed_long

  -- a call that is sent back
  refused_step : (x : Refusal) → Refused (causes u places s (lists_of places entries i) i.call) x → Stepped u places entries s t i rows (refused x st h)
  refused_step x why = grind (arith, common_steps)

  -- one that is accepted
  module _ (passed : Passed (causes u places s (lists_of places entries i) i.call)) (r : Receipt) (fs : List Fill) (rows' : List Row) (st' : State) (kept : Kept u places s t i.call r fs rows' st') (all : length h ≡ places) where
    accepted_step : Stepped u places entries s t i rows (record { reply = Ok r; state = st'; rows = rows'; fills = fs })
    accepted_step = grind (arith, common_steps)

  done_step : Passed (causes u places s (record { places = length h; entries = min i.fills entries }) i.call) → cause_of u st i.call (min i.fills entries) h ≡ Ok tt → Stepped u places entries s t i rows (done_of u st i.call h)
  done_step p ok =
      let e = all_handed u places s i.call (min i.fills entries) h known p in
      let balanced : Balanced t h = subst (λ (y : List Row). Balanced t y) (sym (handed_all e)) b.balanced in
      let a = done_of u st i.call h in
      let o = call_kept u lawful taken places (min i.fills entries) s t h (known e) balanced b.low i.call ok in
      subst (λ (y : Result Receipt Refusal). Stepped u places entries s t i rows (record { reply = y; state = a.state; rows = a.rows; fills = a.fills })) (sym o.1)
      (accepted_step (subst (λ (l : Lists). Passed (causes u places s l i.call)) lists p) o.0 a.fills a.rows a.state o.2 e)

  decided_step : (v : Result (Unit {0}) Refusal) → cause_of u st i.call (min i.fills entries) h ≡ v → Tells v (causes u places s (record { places = length h; entries = min i.fills entries }) i.call)
      → Stepped u places entries s t i rows (decided v st h (done_of u st i.call h))
  decided_step (Ok y) e w = done_step w e
  decided_step (Err x) e w = refused_step x (subst (λ (l : Lists). Refused (causes u places s l i.call) x) lists w)

  pub step_law : Stepped u places entries s t i rows (answer_to u entries (state_on places s) rows i)
  step_law =
      subst (λ (a : After). Stepped u places entries s t i rows a) (sym (answer_is u st i.call (min i.fills entries) h))
      (decided_step (cause_of u st i.call (min i.fills entries) h) refl (told u places s (min i.fills entries) h known i.call))

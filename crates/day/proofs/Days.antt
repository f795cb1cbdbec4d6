-- Every day keeps the law.
use Rattle.std.proofs.Common.{ℕ, List, [], ◌∷◌, length, replicate, sym, subst, arith}
use Rattle.std.proofs.lemmas.Grind.{common_steps}
use Rattle.orders.specs.Rows.{cleared}
use Rattle.orders.specs.declared.row.Row.{Row}
use Rattle.matching.proofs.Foremost.{Lawful}
use Rattle.std.proofs.lemmas.Option.{none-some}
use Rattle.book.specs.States.{State, Rules, opened}
use Rattle.book.specs.Calls.{After}
use Rattle.day.specs.declared.item.Item.{Item}
use Rattle.day.specs.Plays.{answer_to, rows_after, play}
use Rattle.day.specs.Sheets.{Sheet, opening, after}
use Rattle.day.specs.Balances.{Tally, nothing, tallied}
use Rattle.day.specs.Law.{Holds, Day}
use Rattle.day.proofs.Keeping.{state_on}
use Rattle.day.proofs.Looking.{held_is}
use Rattle.day.proofs.Entered.{Taken}
use Rattle.day.proofs.Stepping.{Between, step_law}

module _ (u : Rules) (lawful : Lawful u.before) (taken : Taken u) (places entries : ℕ) where
  day_law : (items : List Item) (s : Sheet) (t : Tally) (rows : List Row) → Between u places s t rows → Day u places entries s t items (play u entries (state_on places s) rows items)
  unfolding play
  day_law [] s t rows b = tt
  day_law (i ∷ is) s t rows b =
      let a : After = answer_to u entries (state_on places s) rows i in
      let rows' : List Row = rows_after u entries (state_on places s) rows i in
      let s' : Sheet = after i.call a.reply a.fills s in
      let t' : Tally = tallied i.call a.reply a.fills s t in
      let w = step_law u lawful taken places entries s t rows i b in
      (w.0, subst (λ (st : State). Day u places entries s' t' is (play u entries st rows' is)) (sym w.2) (day_law is s' t' rows' w.1))

-- places that are cleared hold the sheet of a book that was just opened
opening_holds : (places last : ℕ) → Holds places (opening last).orders (replicate places cleared)
opening_holds places last = grind (arith, common_steps)

opening_between : (u : Rules) (places last : ℕ) → Between u places (opening last) nothing (replicate places cleared)
opening_between u places last = record {
  sound = record {
    holds = opening_holds places last;
    stamped = record { young = λ n o q. absurd (none-some o q); apart = λ i j x y qi qj e. absurd (none-some x qi) };
  };
  settled = λ i j x y qx qy old. absurd (none-some x qx);
  balanced = λ n. let h = held_is places (opening last).orders (replicate places cleared) (opening_holds places last) n in omega (arith, h);
  low = omega arith;
}

-- a day from the opening on
pub day_kept : (u : Rules) → Lawful u.before → Taken u → (last entries : ℕ) (rows : List Row) (items : List Item)
    → Day u (length rows) entries (opening last) nothing items (play u entries (opened last (length rows)) (replicate (length rows) cleared) items)
day_kept u lawful taken last entries rows items =
    day_law u lawful taken (length rows) entries items (opening last) nothing (replicate (length rows) cleared) (opening_between u (length rows) last)

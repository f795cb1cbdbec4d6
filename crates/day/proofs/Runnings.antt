-- An entered order's own fills are those that the law asks for.
use Rattle.std.proofs.Common.{◌≡◌, ℕ, zero, suc, ◌<◌, ◌≤◌, Bool, true, ◌||◌, ◌⊎◌, List, [], length, Some, None, Option, sym, refl, ap, ◌∙◌, subst, inl, inr, ⊎_elim, arith}
use Rattle.std.proofs.lemmas.Grind.{common_steps}
use Rattle.std.proofs.lemmas.Bool.{cases_Bool, cond-false, both_ways, not-true, not_from_false, and_parts, and_from, ltb-true, lt-ltb}
use Rattle.orders.specs.Rows.{order_of, row_of, cleared, in_force}
use Rattle.orders.specs.declared.kind.Kind.{Kind}
use Rattle.orders.specs.declared.kind.Kind.TheVariants as kind
use Rattle.orders.specs.declared.order.Order.{Order}
use Rattle.orders.specs.declared.row.Row.{Row}
use Rattle.matching.specs.declared.meeting.Found.{Found}
use Rattle.matching.specs.declared.meeting.Meeting.{Meeting}
use Rattle.matching.specs.Market.{Market}
use Rattle.matching.specs.Firsts.{first}
use Rattle.matching.specs.Sums.{counted, sum_of, asks_in_sum, stops}
use Rattle.matching.specs.Trades.{fill_of, left_active}
use Rattle.matching.specs.Runs as runs
use Rattle.matching.specs.Runs.{Done, met_by, meeting_by, meeting, passed, turn, run}
use Rattle.std.proofs.lemmas.Option.{none-some, same_Some}
use Rattle.matching.proofs.Chosen.{meeting_is}
use Rattle.matching.proofs.Foremost.{Lawful}
use Rattle.matching.proofs.Occupied.{one_most, occupied_most}
use Rattle.matching.proofs.Spending.{active_one, meets_one, passed_fewer, Enough}
use Rattle.day.specs.Sheets.{Orders, put, took, took_all}
use Rattle.day.specs.Fairness.{active_number, Fair, AllFair}
use Rattle.day.specs.Causes.{total}
use Rattle.day.specs.Trades.{Spent, touches, Stops, Own}
use Rattle.day.proofs.Keeping.{Aside}
use Rattle.day.proofs.Putting.{gone_was, row_order}
use Rattle.day.proofs.Totals.{total_rows, total_put}
use Rattle.day.proofs.Changing.{fill_tells, none_deals, meeting_fair, aside_is, aside_sees, aside_took}

asks_sum : (k : Kind) → asks_in_sum k ≡ true → k ≡ kind.MinimumSum
asks_sum k e = grind (arith, common_steps)

fill_touches : (m : Market) (t : Meeting) → touches m (fill_of t) ≡ runs.touches m t
fill_touches m t = grind arith

module _ (m : Market) (lawful : Lawful m.before) (places next k : ℕ) where
  module _ (touched : Bool) (r : Row) (s : Orders) (rows : List Row) (h : Aside places next k r s rows) where
    -- what the order finds in the places is what stands on the sheet
    found_sum : (a : Order) → total (counted m a) s k ≡ sum_of (counted m a) rows
    found_sum a =
        sym (total_put (counted m a) s k)
        ∙ total_rows (counted m a) places k (put k None s) rows h.holds (λ n o q. let w = gone_was k s n o q in h.last n o w.1 w.0)

    -- the next trade, whether stopped or not
    module _ (t : Meeting) (at : order_of r ≡ Some t.active) (e : first m t.active rows ≡ Some t.found) where
      fair : Fair m s (fill_of t)
      fair = meeting_fair m next s rows t h.stamped (aside_sees places next k r s rows h t.active at) e lawful

      active_is : active_number (fill_of t) ≡ k
      active_is = (fill_tells t).active ∙ (aside_is places next k r s rows h t.active at).0

      stopped : stops m touched t.active rows t.found.candidate.price ≡ true → Stops m k touched s (fill_of t)
      stopped c =
          let x = and_parts _ _ c in
          let y = and_parts _ _ x.0 in
          let z = and_parts _ _ y.0 in
          record {
            active = t.active;
            active_at = (aside_is places next k r s rows h t.active at).1;
            in_sum = asks_sum t.active.kind z.1;
            untouched = not-true touched z.0;
            at_touch = fill_touches m t ∙ y.1;
            few = let l = ltb-true (sum_of (counted m t.active) rows) (in_force t.active) x.1 in omega (arith, l, found_sum t.active);
          }

      would_stop : Stops m k touched s (fill_of t) → stops m touched t.active rows t.found.candidate.price ≡ true
      would_stop c =
          let same : c.active ≡ t.active = same_Some c.active t.active (sym c.active_at ∙ (aside_is places next k r s rows h t.active at).1) in
          let asks : asks_in_sum t.active.kind ≡ true = ap asks_in_sum (ap (λ (o : Order). o.kind) (sym same) ∙ c.in_sum) in
          let few : total (counted m t.active) s k < in_force t.active = subst (λ (o : Order). total (counted m o) s k < in_force o) same c.few in
          and_from _ _
          (and_from _ _ (and_from _ _ (not_from_false touched c.untouched) asks) (sym (fill_touches m t) ∙ c.at_touch))
          (lt-ltb (sum_of (counted m t.active) rows) (in_force t.active) (omega (arith, few, found_sum t.active)))

    -- the end of the fills
    spent_none : order_of r ≡ None → ((r ≡ cleared) × (s k ≡ None)) ⊎ ((a : Order) × (r ≡ row_of a) × (s k ≡ Some a) × (a.number ≡ k)) → Spent m k s
    spent_none e h = grind (arith, row_order)

    spent_first : (a : Order) → order_of r ≡ Some a → first m a rows ≡ None → Spent m k s
    spent_first a at e b q n o qo old =
        let same : a ≡ b = same_Some a b (sym (aside_is places next k r s rows h a at).1 ∙ q) in
        none_deals m b s rows (aside_sees places next k r s rows h b (at ∙ ap Some same)) (ap (λ (x : Order). first m x rows) (sym same) ∙ e) n o qo old

    ended_met : (a : Order) → order_of r ≡ Some a → (f : Option Found) → first m a rows ≡ f → met_by m touched a rows f ≡ None → Own m k touched s []
    ended_met a at None e q = inl (spent_first a at e)
    ended_met a at (Some f) e q =
        let t : Meeting = record { active = a; found = f } in
        ⊎_elim
        (λ w. inr (fill_of t, fair t at e, active_is t at e, stopped t at e w))
        (λ w. absurd (none-some t (sym q ∙ cond-false (stops m touched a rows f.candidate.price) None (Some t) w)))
        (cases_Bool (stops m touched a rows f.candidate.price))

    ended_by : (a : Option Order) → order_of r ≡ a → meeting_by m touched a rows ≡ None → Own m k touched s []
    ended_by None at q = inl (spent_none at h.active)
    ended_by (Some a) at q = ended_met a at (first m a rows) refl q

    ended_own : meeting m touched r rows ≡ None → Own m k touched s []
    ended_own q = ended_by (order_of r) refl q

  -- what a run makes and leaves
  abbrev pub Ran : (touched : Bool) → Orders → Done → Type 0
  Ran touched s d = Own m k touched s d.fills × AllFair m s d.fills × Aside places next k d.active (took_all d.fills s) d.rows

  no_meeting : (touched : Bool) (r : Row) (rows : List Row) → Enough m zero r rows → (o : Option Meeting) → meeting m touched r rows ≡ o → meeting m touched r rows ≡ None
  no_meeting touched r rows c None e = e
  no_meeting touched r rows c (Some t) e = absurd (let z : ⊥ = omega (arith, active_one m touched r rows t e, meets_one m touched r rows t e) in z)

  turn_law : (n : ℕ) (touched : Bool) (r : Row) (s : Orders) (rows : List Row) (go : Bool → Row → List Row → Done) → ((touched : Bool) (r : Row) (s : Orders) (rows : List Row) → Aside places next k r s rows → Enough m n r rows → Ran touched s (go touched r rows))
      → Aside places next k r s rows → Enough m (suc n) r rows → (o : Option Meeting) → meeting m touched r rows ≡ o → Ran touched s (turn m touched r rows go o)
  turn_law n touched r s rows go ih h c None e = (ended_own touched r s rows h e, tt, h)
  turn_law n touched r s rows go ih h c (Some t) e =
      let x = meeting_is m touched r rows t e in
      let ran = ih (touched || runs.touches m t) (left_active t) (took (fill_of t) s) (passed rows t) (aside_took m places next k r s rows h t x.active x.first) (omega (arith, passed_fewer m touched r rows t e, active_one m touched r rows t e)) in
      let own = subst (λ (b : Bool). Own m k (touched || b) (took (fill_of t) s) (go (touched || runs.touches m t) (left_active t) (passed rows t)).fills) (sym (fill_touches m t)) ran.0 in (
        (
          active_is touched r s rows h t x.active x.first,
          (λ z. both_ways _ x.goes_on (would_stop touched r s rows h t x.active x.first z)),
          own,
        ),
        (fair touched r s rows h t x.active x.first, ran.1),
        ran.2,
      )

  -- trades enough for the orders that are there
  pub run_enough : (n : ℕ) (touched : Bool) (r : Row) (s : Orders) (rows : List Row) → Aside places next k r s rows → Enough m n r rows → Ran touched s (run m n touched r rows)
  run_enough zero touched r s rows h c = (ended_own touched r s rows h (no_meeting touched r rows c (meeting m touched r rows) refl), tt, h)
  run_enough (suc n) touched r s rows h c = turn_law n touched r s rows (λ b x xs. run m n b x xs) (run_enough n) h c (meeting m touched r rows) refl

-- with a trade for each place an entered order makes the fills that are its own, each fair, and stays aside
pub run_law : (m : Market) (lawful : Lawful m.before) (fuel : ℕ) (touched : Bool) (places next k : ℕ) (r : Row) (s : Orders) (rows : List Row) → Aside places next k r s rows → length rows ≤ fuel
    → Own m k touched s (run m fuel touched r rows).fills
    × AllFair m s (run m fuel touched r rows).fills
    × Aside places next k (run m fuel touched r rows).active (took_all (run m fuel touched r rows).fills s) (run m fuel touched r rows).rows
run_law m lawful fuel touched places next k r s rows h l = run_enough m lawful places next k fuel touched r s rows h (omega (arith, occupied_most rows, one_most r))

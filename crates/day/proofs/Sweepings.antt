-- The fills of a sweep are those that the law asks for.
use Rattle.std.proofs.Common.{◌≡◌, ℕ, zero, suc, ◌+◌, ◌<◌, ◌≤◌, ◌⊎◌, List, [], ◌∷◌, length, get_or, Some, None, Option, sym, refl, ap, ◌∙◌, inl, inr, not-suc-le-zero, arith}
use Rattle.std.proofs.lemmas.Bool.Decides.{nat_tests}
use Rattle.std.proofs.lemmas.Grind.{common_steps}
use Rattle.orders.specs.Rows.{order_of, cleared}
use Rattle.orders.specs.declared.order.Order.{Order}
use Rattle.orders.specs.declared.row.Row.{Row}
use Rattle.matching.specs.declared.meeting.Found.{Found}
use Rattle.matching.specs.declared.meeting.Pair.{Pair}
use Rattle.matching.specs.Market.{Market}
use Rattle.matching.specs.Firsts.{first}
use Rattle.matching.specs.Trades.{fill_of}
use Rattle.matching.specs.Sweeps.{Swept, pair_of, pair_by, pair_at, older, oldest_from, oldest, traded, round, sweep, occupied}
use Rattle.std.proofs.lemmas.Option.{none-some, same_Some}
use Rattle.matching.proofs.Foremost.{Lawful}
use Rattle.matching.proofs.Pairing.{pair_is}
use Rattle.matching.proofs.Occupied.{occupied_most, traded_fewer}
use Rattle.matching.proofs.Settling.{sweep_settles}
use Rattle.day.specs.Sheets.{Orders, took, took_all}
use Rattle.day.specs.Fairness.{AllFair, Quiet}
use Rattle.day.specs.Law.{Holds}
use Rattle.day.specs.Trades.{Oldest, InTurn}
use Rattle.day.proofs.Keeping.{Sound}
use Rattle.day.proofs.Putting.{row_order}
use Rattle.day.proofs.Changing.{each_more, fill_tells, sees_all, none_deals, meeting_fair, sound_took}

abbrev stamp_of : Pair → ℕ
stamp_of p = p.meeting.active.stamp

-- of two pairs the older is as old as either
older_least : (b c : Option Pair) (n : ℕ) → ((z : Pair) → older b c ≡ Some z → n ≤ stamp_of z) → (y : Pair) → (b ≡ Some y) ⊎ (c ≡ Some y) → n ≤ stamp_of y
older_least b c n h y e = grind (arith, nat_tests, none-some)

older_none : (b c : Option Pair) → older b c ≡ None → (b ≡ None) × (c ≡ None)
older_none b c e = grind (arith, common_steps)

module _ (m : Market) where
  oldest_least : (all rows : List Row) (i : ℕ) (b : Option Pair) (p : Pair) → oldest_from m all i b rows ≡ Some p
      → ((y : Pair) → b ≡ Some y → stamp_of p ≤ stamp_of y) × ((k : ℕ) → k < length rows → (y : Pair) → pair_at m all (i + k) (get_or rows k cleared) ≡ Some y → stamp_of p ≤ stamp_of y)
  oldest_least all [] i b p e = ((λ y q. let w = same_Some p y (sym e ∙ q) in omega (arith, ap stamp_of w)), λ k l. absurd (not-suc-le-zero l))
  oldest_least all (r ∷ rs) i b p e =
      let ih = oldest_least all rs (suc i) (older b (pair_at m all i r)) p e in
      let least = older_least b (pair_at m all i r) (stamp_of p) ih.0 in
      ((λ y q. least y (inl q)), each_more (λ n x. (y : Pair) → pair_at m all n x ≡ Some y → stamp_of p ≤ stamp_of y) i r rs (λ y q. least y (inr q)) ih.1)

  -- every order that could be active is as young as the one that is
  oldest_first : (rows : List Row) (p : Pair) → oldest m rows ≡ Some p → (k : ℕ) (x : Order) (f : Found) → k < length rows → order_of (get_or rows k cleared) ≡ Some x → first m x rows ≡ Some f → stamp_of p ≤ x.stamp
  oldest_first rows p e k x f l q c =
      (oldest_least rows rows 0 None p e).1 k l (record { place = 0 + k; meeting = record { active = x; found = f } }) (ap (pair_by m rows (0 + k)) q ∙ ap (pair_of (0 + k) x) c)

  oldest_none : (all rows : List Row) (i : ℕ) (b : Option Pair) → oldest_from m all i b rows ≡ None → (b ≡ None) × ((k : ℕ) → k < length rows → pair_at m all (i + k) (get_or rows k cleared) ≡ None)
  oldest_none all [] i b e = (e, λ k h. absurd (not-suc-le-zero h))
  oldest_none all (r ∷ rs) i b e =
      let ih = oldest_none all rs (suc i) (older b (pair_at m all i r)) e in
      let t = older_none b (pair_at m all i r) ih.0 in
      (t.0, each_more (λ n x. pair_at m all n x ≡ None) i r rs t.1 ih.1)

  pair_none : (i : ℕ) (a : Order) (o : Option Found) → pair_of i a o ≡ None → o ≡ None
  pair_none i a o e = grind (arith, common_steps)

  -- without a pair no order could be active
  none_first : (rows : List Row) → oldest m rows ≡ None → (k : ℕ) (a : Order) → k < length rows → order_of (get_or rows k cleared) ≡ Some a → first m a rows ≡ None
  none_first rows e k a l q = pair_none (0 + k) a (first m a rows) (ap (pair_by m rows (0 + k)) (sym q) ∙ (oldest_none rows rows 0 None e).1 k l)

  module _ (places : ℕ) (s : Orders) (rows : List Row) (h : Holds places s rows) where
    -- an order that could not be active has no deal with an older one
    idle : (i j : ℕ) (x y : Order) → s i ≡ Some x → s j ≡ Some y → y.stamp < x.stamp → ((k : ℕ) → k < length rows → order_of (get_or rows k cleared) ≡ Some x → first m x rows ≡ None) → m.deal x y ≡ None
    idle i j x y qx qy old none =
        let w = h.all i x qx in
        let at = row_order (get_or rows w.0 cleared) x w.2 in
        none_deals m x s rows (sees_all places s rows h w.0 x w.1 at) (none w.0 w.1 at) j y qy old

    pub none_quiet : oldest m rows ≡ None → Quiet m s
    none_quiet e i j x y qx qy old = idle i j x y qx qy old (λ k l at. none_first rows e k x l at)

    no_older : (p : Pair) → oldest m rows ≡ Some p → (x : Order) → x.stamp < stamp_of p → (k : ℕ) → k < length rows → order_of (get_or rows k cleared) ≡ Some x → (f : Option Found) → first m x rows ≡ f → first m x rows ≡ None
    no_older p e x old k l at f c = grind (arith, oldest_first)

    pair_oldest : (p : Pair) → oldest m rows ≡ Some p → Oldest m s (fill_of p.meeting)
    pair_oldest p e =
        let w = pair_is m rows p e in
        record {
          active = p.meeting.active;
          active_at = ap s (fill_tells p.meeting).active ∙ h.only p.place p.meeting.active w.within w.active;
          none_older = λ i j x y qx qy young old. idle i j x y qx qy old (λ k l at. no_older p e x young k l at (first m x rows) refl);
        }

module _ (m : Market) (lawful : Lawful m.before) (places next : ℕ) where
  -- what a sweep makes and leaves
  abbrev pub SweptOn : Orders → Swept → Type 0
  SweptOn s d = InTurn m s d.fills × AllFair m s d.fills × Sound places next (took_all d.fills s) d.rows

  round_law : (n : ℕ) (s : Orders) (rows : List Row) (go : List Row → Swept) → ((s : Orders) (rows : List Row) → Sound places next s rows → occupied rows ≤ n + 1 → SweptOn s (go rows))
      → Sound places next s rows → occupied rows ≤ suc n + 1 → (o : Option Pair) → oldest m rows ≡ o → SweptOn s (round rows go o)
  round_law n s rows go ih h c None e = (none_quiet m places s rows h.holds e, tt, h)
  round_law n s rows go ih h c (Some p) e =
      let w = pair_is m rows p e in
      let sees = sees_all places s rows h.holds p.place p.meeting.active w.within w.active in
      let swept = ih (took (fill_of p.meeting) s) (traded rows p) (sound_took m places next s rows h p.place p.meeting w.within w.active w.first) (omega (arith, traded_fewer m rows p e)) in (
        (pair_oldest m places s rows h.holds p e, swept.0),
        (meeting_fair m next s rows p.meeting h.stamped sees w.first lawful, swept.1),
        swept.2,
      )

  -- trades enough for the orders that are there
  pub sweep_enough : (n : ℕ) (s : Orders) (rows : List Row) → Sound places next s rows → occupied rows ≤ n + 1 → SweptOn s (sweep m n rows)
  sweep_enough zero s rows h c = (none_quiet m places s rows h.holds (sweep_settles m zero rows c), tt, h)
  sweep_enough (suc n) s rows h c = round_law n s rows (λ ss. sweep m n ss) (sweep_enough n) h c (oldest m rows) refl

-- with a trade for each place a sweep makes fills in turn, each fair, until no two orders have a deal
pub sweep_law : (m : Market) (lawful : Lawful m.before) (fuel : ℕ) (places next : ℕ) (s : Orders) (rows : List Row) → Sound places next s rows → length rows ≤ fuel
    → InTurn m s (sweep m fuel rows).fills
    × AllFair m s (sweep m fuel rows).fills
    × Sound places next (took_all (sweep m fuel rows).fills s) (sweep m fuel rows).rows
sweep_law m lawful fuel places next s rows h l = sweep_enough m lawful places next fuel s rows h (omega (arith, occupied_most rows))

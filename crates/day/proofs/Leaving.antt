-- An entered order that does not rest, and the fills after it has left.
use Rattle.std.proofs.Common.{◌≡◌, ℕ, ◌+◌, ◌<◌, List, [], ◌∷◌, ◌++◌, Some, None, sym, refl, ap, ◌∙◌, subst, ⊎_elim, arith}
use Rattle.std.proofs.lemmas.Bool.{cases_eq}
use Rattle.orders.specs.declared.call.Call.{Call}
use Rattle.orders.specs.declared.call.Fill.{Fill}
use Rattle.orders.specs.declared.order.Order.{Order}
use Rattle.matching.specs.Market.{Market}
use Rattle.day.specs.Sheets.{Orders, put, took, took_all, leaves, takes_all}
use Rattle.day.specs.Fairness.{Fair, AllFair, Quiet, active_number, passive_number}
use Rattle.day.specs.Trades.{InTurn}
use Rattle.day.proofs.Putting.{put_other, gone_was}
use Rattle.day.proofs.Changing.{took_was}

-- an order that is gone stays so
put_took : (k : ℕ) (f : Fill) (s : Orders) → put k None (took f s) ≡ took f (put k None s)
put_took k f s = grind arith

put_all : (k : ℕ) (fs : List Fill) (s : Orders) → put k None (took_all fs s) ≡ took_all fs (put k None s)
put_all k [] s = refl
put_all k (f ∷ fs) s = put_all k fs (took f s) ∙ ap (took_all fs) (put_took k f s)

pub leaves_took : (c : Call) (k : ℕ) (fs : List Fill) (s : Orders) → leaves c k (took_all fs s) ≡ took_all fs (leaves c k s)
leaves_took c k fs s = grind (arith, put_all)

pub took_append : (fs gs : List Fill) (s : Orders) → took_all (fs ++ gs) s ≡ took_all gs (took_all fs s)
took_append [] gs s = refl
took_append (f ∷ fs) gs s = took_append fs gs (took f s)

pub takes_append : (fs gs : List Fill) (n : ℕ) → takes_all (fs ++ gs) n ≡ takes_all fs n + takes_all gs n
takes_append [] gs n = omega arith
takes_append (f ∷ fs) gs n = omega (arith, takes_append fs gs n)

module _ (m : Market) where
  pub fair_append : (fs gs : List Fill) (s : Orders) → AllFair m s fs → AllFair m (took_all fs s) gs → AllFair m s (fs ++ gs)
  fair_append [] gs s a b = b
  fair_append (f ∷ fs) gs s a b = (a.0, fair_append fs gs (took f s) a.1 b)

  -- after the last fill of a sweep no order can be active
  pub turns_quiet : (fs : List Fill) (s : Orders) → InTurn m s fs → Quiet m (took_all fs s)
  turns_quiet [] s t = t
  turns_quiet (f ∷ fs) s t = turns_quiet fs (took f s) t.1

  -- the order of number k is younger than all others
  abbrev pub Youngest : ℕ → Orders → Type 0
  Youngest k s = (a o : Order) (n : ℕ) → s k ≡ Some a → s n ≡ Some o → (n ≡ k → ⊥) → o.stamp < a.stamp

  youngest_took : (k : ℕ) (s : Orders) (f : Fill) → Youngest k s → Youngest k (took f s)
  youngest_took k s f h a o n qa qo ne =
      let x = took_was f s k a qa in
      let y = took_was f s n o qo in
      let z = h x.0 y.0 n x.1 y.1 ne in
      omega (arith, z, x.3, y.3)

  -- a fill that is right without the youngest order is right with it
  fair_with : (k : ℕ) (s : Orders) (f : Fill) → Youngest k s → Fair m (put k None s) f → Fair m s f
  fair_with k s f h r =
      let a = gone_was k s (active_number f) r.active r.active_at in
      record {
        active = r.active;
        passive = r.passive;
        active_at = a.1;
        passive_at = (gone_was k s (passive_number f) r.passive r.passive_at).1;
        side = r.side;
        older = r.older;
        price = r.price;
        shares = r.shares;
        first = λ n o p q ne old d.
            ⊎_elim
            (λ x. let y = h o r.active (active_number f) (ap s (sym x) ∙ q) a.1 a.0 in absurd (let z : ⊥ = omega (arith, y) in z))
            (λ x. r.first n o p (put_other k None s n x ∙ q) ne old d)
            (cases_eq n k);
      }

  pub fairs_with : (k : ℕ) (fs : List Fill) (s : Orders) → Youngest k s → AllFair m (put k None s) fs → AllFair m s fs
  fairs_with k [] s h r = tt
  fairs_with k (f ∷ fs) s h r =
      (fair_with k s f h r.0, fairs_with k fs (took f s) (youngest_took k s f h) (subst (λ (o : Orders). AllFair m o fs) (sym (put_took k f s)) r.1))

  pub leaves_fair : (c : Call) (k : ℕ) (fs : List Fill) (s : Orders) → Youngest k s → AllFair m (leaves c k s) fs → AllFair m s fs
  leaves_fair c k fs s h r = grind (arith, fairs_with)

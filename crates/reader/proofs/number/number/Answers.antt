use Rattle.std.proofs.Common.{◌≡◌, ℕ, ◌+◌, ◌-◌, ◌*◌, true, false, cond, List, [], ◌∷◌, Some, None, MatchOption, Bor, Iter, Option, sym, refl, ap, subst, ◌∙◌, rules}
use denote.Param.Members.{Mut, Called}
use Rattle.std.specs.ControlFlow.{continue_value}
use Rattle.std.specs.Iterator.{AlwaysYields, Yields, TryFoldTurn}
use Rattle.std.specs.List.{FoldsTo}
use Rattle.std.proofs.iter.Yields.{fronts}
use Rattle.std.proofs.lemmas.Bool.{cond-true, cond-false}
use Rattle.std.proofs.lemmas.Iterator.{YieldsList-from_slice}
use Rattle.reader.specs.Numbers.{number_from}
use Rattle.reader.proofs.Numbers.{good, written}
use Rattle.reader.proofs.number.number.Goals as goal

-- one digit is read, and the number is m
digit_more : (n m b : ℕ) (bs : List ℕ) → Some m ≡ number_from n (b ∷ []) → number_from m bs ≡ number_from n (b ∷ bs)
digit_more n m b bs =
    elim (good n b) as (λ v. Some m ≡ cond v (Some (10 * n + (b - 48))) None → number_from m bs ≡ cond v (number_from (10 * n + (b - 48)) bs) None) [
      | true ↦ λ e. let s : m ≡ 10 * n + (b - 48) = cc in ap (λ k. number_from k bs) s
      | false ↦ λ e. cc
    ]

digit_none : (n b : ℕ) (bs : List ℕ) → None ≡ number_from n (b ∷ []) → None ≡ number_from n (b ∷ bs)
digit_none n b bs =
    elim (good n b) as (λ v. None ≡ cond v (Some (10 * n + (b - 48))) None → None ≡ cond v (number_from (10 * n + (b - 48)) bs) None) [
      | true ↦ λ e. cc
      | false ↦ λ e. refl
    ]

-- What `try_fold` makes of the bytes of a word, where its closure reads one more digit. The last four facts are the parts of
-- its clause `ran`.
module _ (E : Type 0) {F : Type 0} (g : Mut F (ℕ × (Bor ℕ × Unit {0})) (Option ℕ)) (reads : (f : F) (n : ℕ) (x : Bor ℕ) (r : Option ℕ) (q : F) → Called g f (n, (x, tt)) r q → r ≡ number_from n (x.now ∷ [])) where
  abbrev Turn : F × ℕ → Bor ℕ → F × ℕ → Type 0
  Turn = TryFoldTurn {E = E} g (λ r c. r ≡ continue_value c)

  abbrev End : Option ℕ → F → ℕ → Option (Bor ℕ) → Type 0
  End r last total o = MatchOption o (r ≡ Some total) (λ x. (v : Option ℕ) × (h : F) × E × Called g last (total, (x, tt)) v h × (v ≡ None) × (r ≡ None))

  digits_fold : (w : List ℕ) (n total : ℕ) (xs : List (Bor ℕ)) (o : Option (Bor ℕ)) (f last : F) (s t u : Iter ℕ) (r : Option ℕ) → AlwaysYields fronts (λ y. y.now) s w → Yields fronts s xs t → fronts t o u → FoldsTo Turn (f, n) xs (last, total) → End r last total o → r ≡ number_from n w
  digits_fold [] n total [] None f last s t u r all run next turns end = end ∙ ap (λ p. Some p.1) (sym turns)
  digits_fold [] n total [] (Some x) f last s t u r all run next turns end = absurd (all x u (subst (λ z. fronts z (Some x) u) (sym run) next))
  digits_fold [] n total (x ∷ xs) o f last s t u r all run next turns end = absurd (all x run.0 run.1)
  digits_fold (b ∷ bs) n total [] None f last s t u r all run next turns end = absurd (all.0 u (subst (λ z. fronts z None u) (sym run) next))
  digits_fold (b ∷ bs) n total [] (Some x) f last s t u r all run next turns end =
      let first = all.1 x u (subst (λ z. fronts z (Some x) u) (sym run) next) in
      let read = reads last total x end.0 end.1 end.3 in
      end.5 ∙ digit_none n b bs (sym end.4 ∙ read ∙ (λ i. number_from (sym turns i).1 (first.0 i ∷ [])))
  digits_fold (b ∷ bs) n total (x ∷ xs) o f last s t u r all run next turns end =
      let first = all.1 x run.0 run.1 in
      let call = turns.1 in
      let read = reads f n x call.0 turns.0.0 call.1 in
      digits_fold bs turns.0.1 total xs o turns.0.0 last run.0 t u r first.1 run.2 next turns.2 end
      ∙ digit_more n turns.0.1 b bs (sym call.2 ∙ read ∙ (λ i. number_from n (first.0 i ∷ [])))

pub returns-then-not-well_led-clause-written : goal.returns-then-not-well_led-clause-written
returns-then-not-well_led-clause-written c = written _ _ (sym (cond-false _ _ _ (sym c.if-not-well_led.ensures)))

pub returns : goal.returns
returns c =
    let w = c.args.word.now in
    let ran = c.try_fold.ensures.ran in
    let bytes = YieldsList-from_slice {s = c.iter.result} w c.iter.ensures.rest in
    let all = digits_fold _ _ (λ f n x r q k. search rules) w 0 ran.3 ran.0 ran.1 _ ran.2 _ ran.4.0 _ _ bytes.runs ran.4.1 ran.4.2 ran.5 ran.6 in
    let v = all ∙ sym (cond-true _ _ _ (sym c.if-not-well_led.ensures)) in
    record { value = v; written = written w _ v }

-- `lines` takes a text apart into its lines, and there are at most as many as bytes.
use Rattle.std.proofs.Common.{◌≡◌, ℕ, suc, ◌≤◌, true, false, cond, eqb, ◌⊎◌, List, [], ◌∷◌, length, sym, refl, ap, subst, inl, inr, ⊎_elim, arith}
use Rattle.std.specs.List.{onto_first}
use Rattle.std.proofs.lemmas.Bool.{eqb-true, eqb-false}
use Rattle.std.proofs.lemmas.List.Elements.{All-nil, All-cons, All-head, All-tail}
use Rattle.reader.specs.Lines.{line_end, Lacks, lines, joined, closed, AllEndless, LastFilled, Parted}

length_longer : (b : ℕ) (ls : List (List ℕ)) → length (onto_first b ls) ≤ suc (length ls)
length_longer b [] = omega arith
length_longer b (l ∷ ls) = omega arith

pub length_lines : (bs : List ℕ) → length (lines bs) ≤ length bs
length_lines [] = omega arith
length_lines (b ∷ bs) =
    let h = length_lines bs in
    let k = length_longer b (lines bs) in
    elim (eqb b line_end) as (λ v. length (cond v ([] ∷ lines bs) (onto_first b (lines bs))) ≤ suc (length bs)) [ true ↦ omega arith | false ↦ omega arith ]

abbrev Back : List ℕ → List (List ℕ) → Type 0
Back text ls = (text ≡ closed ls) ⊎ ((text ≡ joined ls) × LastFilled ls)

-- a line end in front: one more line, which is empty
back_end : (bs : List ℕ) (ls : List (List ℕ)) → Back bs ls → Back (line_end ∷ bs) ([] ∷ ls)
back_end bs [] h = ⊎_elim (λ e. inl (ap (λ x. line_end ∷ x) e)) (λ p. inl (ap (λ x. line_end ∷ x) p.0)) h
back_end bs (l ∷ ls) h = ⊎_elim (λ e. inl (ap (λ x. line_end ∷ x) e)) (λ p. inr (ap (λ x. line_end ∷ x) p.0, p.1)) h

-- another byte in front: the first line is longer
back_longer : (b : ℕ) (bs : List ℕ) (ls : List (List ℕ)) → Back bs ls → Back (b ∷ bs) (onto_first b ls)
back_longer b bs [] h = let e : bs ≡ [] = ⊎_elim (λ e. e) (λ p. p.0) h in inr (ap (λ x. b ∷ x) e, omega arith)
back_longer b bs (l ∷ []) h = ⊎_elim (λ e. inl (ap (λ x. b ∷ x) e)) (λ p. inr (ap (λ x. b ∷ x) p.0, omega arith)) h
back_longer b bs (l ∷ k ∷ ls) h = ⊎_elim (λ e. inl (ap (λ x. b ∷ x) e)) (λ p. inr (ap (λ x. b ∷ x) p.0, p.1)) h

abbrev Other : ℕ → Type 0
Other b = b ≡ line_end → ⊥

endless_longer : (b : ℕ) (ls : List (List ℕ)) → Other b → AllEndless ls → AllEndless (onto_first b ls)
endless_longer b [] n h = All-cons (Lacks line_end) (b ∷ []) [] (All-cons Other b [] n (All-nil Other)) (All-nil (Lacks line_end))
endless_longer b (l ∷ ls) n h =
    All-cons (Lacks line_end) (b ∷ l) ls (All-cons Other b l n (All-head (Lacks line_end) l ls h)) (All-tail (Lacks line_end) l ls h)

pub lines_parted : (text : List ℕ) → Parted text (lines text)
lines_parted [] = record { back = inl refl; endless = All-nil (Lacks line_end); none = λ z. refl }
lines_parted (b ∷ bs) =
    let h = lines_parted bs in
    elim (eqb b line_end) as (λ v. eqb b line_end ≡ v → Parted (b ∷ bs) (cond v ([] ∷ lines bs) (onto_first b (lines bs)))) [
      | true ↦ λ t. record {
        back = subst (λ x. Back (x ∷ bs) ([] ∷ lines bs)) (sym (eqb-true b line_end t)) (back_end bs (lines bs) h.back);
        endless = All-cons (Lacks line_end) [] (lines bs) (All-nil Other) h.endless;
        none = λ z. cc;
      }
      | false ↦ λ f. record {
        back = back_longer b bs (lines bs) h.back;
        endless = endless_longer b (lines bs) (eqb-false b line_end f) h.endless;
        none = λ z. cc;
      }
    ] refl

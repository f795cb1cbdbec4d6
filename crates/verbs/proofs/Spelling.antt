-- A word stands for a value only if it is the word of that value.
use Rattle.std.proofs.Common.{◌≡◌, ℕ, suc, true, false, cond, eqb, List, [], ◌∷◌, length, get_or, Some, refl, ap, ◌∙◌}
use Rattle.std.proofs.lemmas.Bool.{and_parts, eqb-true}
use Rattle.std.proofs.lemmas.Slice.Eq.{HasBytesAt, text_from_reads}
use Rattle.verbs.specs.Vocabulary.{reads, is, spelled}

reads_true : (w : List ℕ) (i : ℕ) (p : List ℕ) → reads w i p ≡ true → HasBytesAt w i p
reads_true w i [] e = tt
reads_true w i (c ∷ p) e = let h = and_parts (eqb (get_or w i 0) c) (reads w (suc i) p) e in (eqb-true _ c h.0, reads_true w (suc i) p h.1)

is_true : (w p : List ℕ) → is w p ≡ true → w ≡ p
is_true w p e = let h = and_parts (eqb (length w) (length p)) (reads w 0 p) e in text_from_reads w p (eqb-true _ _ h.0) (reads_true w 0 p h.1)

pub spelled_is : {A : Type 0} (word : A → List ℕ) (xs : List A) (w : List ℕ) (v : A) → spelled word xs w ≡ Some v → w ≡ word v
spelled_is word [] w v e = cc
spelled_is word (x ∷ xs) w v h =
    elim (is w (word x)) as (λ b. is w (word x) ≡ b → cond b (Some x) (spelled word xs w) ≡ Some v → w ≡ word v) [
      | true ↦ λ t e. let s : x ≡ v = cc in is_true w (word x) t ∙ ap word s
      | false ↦ λ f e. spelled_is word xs w v e
    ] refl h

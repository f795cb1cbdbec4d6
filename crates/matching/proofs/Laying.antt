-- Fills that are written into a list one after the other.
use Rattle.std.proofs.Common.{◌≡◌, ℕ, List, [], ◌++◌, length, zero-add, arith}
use Rattle.std.proofs.Math.Seq.{drop-append-add, take-append_seam}
use Rattle.std.proofs.lemmas.Grind.{common_steps}
use Rattle.std.proofs.lemmas.List.{append_assoc, drop-drop, length-append}
use Rattle.orders.specs.declared.call.Fill.{Fill}
use Rattle.matching.specs.Runs.{written}

pub written_none : (from : ℕ) (old : List Fill) → old ≡ written from [] old
written_none from old = grind (arith, common_steps)

-- fills written after others
pub written_twice : (a b old : List Fill) (n : ℕ) → n ≡ length a → written n b (written 0 a old) ≡ written 0 (a ++ b) old
written_twice a b old n e = simp (e, zero-add, length-append, take-append_seam, drop-append-add, drop-drop, append_assoc)

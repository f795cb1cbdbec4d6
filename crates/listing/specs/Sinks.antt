-- What a sink was handed.
use Rattle.std.specs.Prelude.{◌≡◌, ℕ, Bool, false, List, [], ◌∷◌, ◌++◌}
use Rattle.listing.specs.declared.line.Line.{Line}
use Rattle.listing.specs.Lines.{line_bytes}

-- the sink went from s to t by writing exactly these lines in turn
abbrev pub Handed : {S : Type 0} → (writes : S → Line → S → Type 0) → S → List Line → S → Type 0
Handed writes s [] t = s ≡ t
Handed {S = S} writes s (l ∷ ls) t = (m : S) × writes s l m × Handed writes m ls t

-- a keeper that is not full after a line was not full before it, and has the line's bytes after those that it had
abbrev pub Appends : (full : Bool) → List ℕ → Line → (full' : Bool) → List ℕ → Type 0
Appends full bytes l full' bytes' = full' ≡ false → (full ≡ false) × (bytes' ≡ bytes ++ line_bytes l)

-- What a keeper keeps.
use Rattle.std.specs.Prelude.{◌≡◌, List, [], ◌∷◌, ◌++◌, map, Ok, vec_items}
use Rattle.day.specs.declared.keeper.KeptStep.{KeptStep}
use Rattle.day.specs.declared.keeper.Keeper.{Keeper}
use Rattle.day.specs.Steps.{Step}

-- the step that was kept
abbrev pub step_in : KeptStep → Step
step_in k = record { item = k.item; reply = k.reply; fills = vec_items k.fills; rows = vec_items k.places }

abbrev pub kept_in : Keeper → List Step
kept_in k = map step_in (vec_items k.steps)

-- a keeper for which memory sufficed after a step had memory before it, and has the step after those that it had
abbrev pub Keeps : Keeper → Step → Keeper → Type 0
Keeps s x t = t.outcome ≡ Ok tt → (s.outcome ≡ Ok tt) × (kept_in t ≡ kept_in s ++ x ∷ [])

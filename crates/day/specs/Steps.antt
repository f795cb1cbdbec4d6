-- What a recorder is handed after each call of a day.
use Rattle.std.specs.Prelude.{◌≡◌, List, [], ◌∷◌, Result}
use Rattle.orders.specs.declared.call.Fill.{Fill}
use Rattle.orders.specs.declared.call.Receipt.{Receipt}
use Rattle.orders.specs.declared.refusal.Refusal.{Refusal}
use Rattle.orders.specs.declared.row.Row.{Row}
use Rattle.day.specs.declared.item.Item.{Item}
use Rattle.day.specs.declared.recorder.Told.{Told}

-- one call, its reply, its fills in turn, and all the lent places after it
pub record Step : Type 0 where
  pub item : Item
  pub reply : Result Receipt Refusal
  pub fills : List Fill
  pub rows : List Row

-- the step of which a recorder is told
abbrev pub step_told : Told → Step
step_told t = record { item = t.item.now; reply = t.reply.now; fills = t.fills.now; rows = t.places.now }

-- the recorder went from s to t by noting these steps in turn
abbrev pub Handed : {S : Type 0} → (notes : S → Step → S → Type 0) → S → List Step → S → Type 0
Handed notes s [] t = s ≡ t
Handed {S = S} notes s (x ∷ xs) t = (m : S) × notes s x m × Handed notes m xs t

-- A day that was played on a book that was just opened.
use Rattle.std.proofs.Common.{◌≡◌, ℕ, true, List, length, replicate, subst}
use Rattle.orders.specs.Rows.{cleared}
use Rattle.matching.proofs.Foremost.{Lawful}
use Rattle.book.specs.Causes.{openable}
use Rattle.book.specs.States.{Rules, opened}
use Rattle.day.specs.declared.item.Item.{Item}
use Rattle.day.specs.Steps.{Step}
use Rattle.day.specs.Plays.{Stand, play_from, Turns}
use Rattle.day.specs.Replays.{Lent, Played}
use Rattle.day.proofs.Entered.{Taken}
use Rattle.day.proofs.Days.{day_kept}

module _ {R : Type 0} (notes : R → Step → R → Type 0) (u : Rules) (lawful : Lawful u.before) (taken : Taken u) (last : ℕ) (items : List Item) (was : Lent R) (opens : openable last (length was.rows) ≡ true) where
  -- the stand at opening
  abbrev pub opening_stand : Stand R
  opening_stand = record { rules = u; state = opened last (length was.rows); rows = replicate (length was.rows) cleared; fills = was.fills; recorder = was.recorder }

  pub played : (start x : Stand R) → start ≡ opening_stand → Turns notes items start x → Played u notes last items was (record { rows = x.rows; fills = x.fills; recorder = x.recorder })
  played start x e t =
      let d : Turns notes items opening_stand x = subst (λ (z : Stand R). Turns notes items z x) e t in
      record {
        opens = opens;
        steps = play_from opening_stand items;
        law = day_kept u lawful taken last (length was.fills) was.rows items;
        handed = d.handed;
        rows = d.rows;
        fills = d.fills;
      }

-- How far a day was played.
use Rattle.std.proofs.Common.{◌≡◌, ℕ, ◌+◌, ◌<◌, ◌≤◌, List, [], ◌∷◌, length, get_or, drop, sym, refl, ap, ◌∙◌, subst}
use Rattle.std.proofs.lemmas.List.{at_drop_more, at_drop_all}
use Rattle.orders.specs.declared.call.Fill.{Fill}
use Rattle.orders.specs.declared.row.Row.{Row}
use Rattle.day.specs.declared.item.Item.{Item}
use Rattle.day.specs.Steps.{Step, Handed}
use Rattle.day.specs.Plays.{play, last_rows, overlaid, Stand, step_at, play_from, Turn, Turns}

module _ {R : Type 0} (notes : R → Step → R → Type 0) (items : List Item) where
  -- after k items: what the rest of the day makes of the stand, the day makes of the first
  pub record Going (start : Stand R) (k : ℕ) (x : Stand R) : Type 0 where
    pub handed : (t : R) → Handed notes x.recorder (play_from x (drop k items)) t → Handed notes start.recorder (play_from start items) t
    pub rows : last_rows x.rows (play_from x (drop k items)) ≡ last_rows start.rows (play_from start items)
    pub fills : overlaid x.fills (play_from x (drop k items)) ≡ overlaid start.fills (play_from start items)

  -- the next item is played
  module _ (start x y : Stand R) (k : ℕ) (d : Item) (g : Going start k x) (h : k < length items) (t : Turn notes (get_or items k d) x y) (long : length y.fills ≡ length x.fills) where
    steps : play_from x (drop k items) ≡ step_at x (get_or items k d) ∷ play_from y (drop (k + 1) items)
    unfolding play
    steps =
        at_drop_more (λ (l : List Item). play_from x l) items k d h
        ∙ rw (t.rules, t.state, t.rows, long) refl

    pub going_more : Going start (k + 1) y
    going_more = record {
      handed = λ z q. g.handed z (subst (λ (l : List Step). Handed notes x.recorder l z) (sym steps) (y.recorder, t.noted, q));
      rows = ap (λ (l : List Row). last_rows l (play_from y (drop (k + 1) items))) t.rows ∙ ap (last_rows x.rows) (sym steps) ∙ g.rows;
      fills = ap (λ (l : List Fill). overlaid l (play_from y (drop (k + 1) items))) t.fills ∙ ap (overlaid x.fills) (sym steps) ∙ g.fills;
    }

  -- all items are played
  pub gone : (start x : Stand R) (k : ℕ) → Going start k x → length items ≤ k → Turns notes items start x
  unfolding play
  gone start x k g h =
      let none : play_from x (drop k items) ≡ [] = at_drop_all (λ (l : List Item). play_from x l) items k h in
      record {
        handed = g.handed x.recorder (subst (λ (l : List Step). Handed notes x.recorder l x.recorder) (sym none) refl);
        rows = ap (last_rows x.rows) (sym none) ∙ g.rows;
        fills = ap (overlaid x.fills) (sym none) ∙ g.fills;
      }

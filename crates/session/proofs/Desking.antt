-- What a session is left with after a call, by what its book gave.
use Rattle.std.proofs.Common.{◌≡◌, ◌+◌, ◌≤◌, List, ◌++◌, length, take, drop, Some, Option, Result, refl, ap, ◌∙◌, take_at, arith}
use Rattle.orders.specs.declared.call.Call.{Call}
use Rattle.orders.specs.declared.call.Fill.{Fill}
use Rattle.orders.specs.declared.call.Receipt.{Receipt}
use Rattle.orders.specs.declared.refusal.Refusal.{Refusal}
use Rattle.orders.specs.declared.row.Row.{Row}
use Rattle.terms.specs.declared.terms.Terms.{Ghosts as Terms}
use Rattle.priority.specs.declared.priority.Priority.{Ghosts as Priority}
use Rattle.venue.specs.declared.ranking.Ranking.{Ranking}
use Rattle.venue.specs.declared.venue.Venue.{Venue}
use Rattle.book.specs.States.{State, state_of, rules_in}
use Rattle.book.specs.Calls.{answer, count_in, Leaves}
use Rattle.book.specs.declared.book.Book.{Book}
use Rattle.book.proofs.Counting.{answer_counts, answer_places}
use Rattle.session.specs.Desks.{rules_by, desk_in, desk_by, desk_of}
use Rattle.session.specs.Plays.{Played, Follows, answered_by, makes, most_places}
use Rattle.session.specs.declared.session.Session.{Session}

module _ (c : Call) (s : Session) {p : Priority Ranking} {t : Terms Venue} {b b' : Book Ranking Venue} {front part : List Row} {fills : List Fill} {r : Result Receipt Refusal}
    (h : Leaves p t (λ u st. answer u st c) b b' front part s.fills fills r) (is : s.book ≡ Some b) where
  same_places : b'.places ≡ b.places
  same_places = ap (λ (st : State). st.places) h.state ∙ answer_places (rules_in p t b) (state_of b) c (length s.fills) front

  pub still_room : (x : Book Ranking Venue) → Some b' ≡ Some x → x.places ≤ most_places
  still_room x is' =
      let same : b' ≡ x = cc in
      omega (arith, s.room b is, same_places, ap (λ (y : Book Ranking Venue). y.places) same)

  pub made : (s' : Session) (back : List Row) → s'.book ≡ Some b' → s'.fills ≡ fills → rules_in p t b ≡ rules_by (desk_in b s.rows) → length s.fills ≡ most_places
      → s.rows ≡ front ++ back → length front ≡ b.places → s'.rows ≡ part ++ back → length part ≡ length front → Follows (makes c (desk_of s)) r s'
  made s' back is' kept rules all rows size rows' size' =
      let a = answer (rules_in p t b) (state_of b) c (length s.fills) front in
      let first : take b.places s.rows ≡ front = rw rows (take_at front back b.places size) in
      let to : answered_by (desk_in b s.rows) a ≡ makes c (desk_of s) = rw (rules, all, ← first, is) refl in
      let left : take b'.places s'.rows ≡ a.rows = rw (same_places, rows') (take_at part back b.places (size' ∙ size) ∙ h.places) in
      let counts = ap count_in h.reply ∙ answer_counts (rules_in p t b) (state_of b) c (length s.fills) front in
      record {
        reply = h.reply ∙ ap (λ (p : Played Refusal). p.reply) to;
        desk = ap (λ (x : Option (Book Ranking Venue)). desk_by x s'.rows) is' ∙ cc (left, h.state, h.rules.0, h.rules.1) ∙ ap (λ (p : Played Refusal). p.desk) to;
        fills = rw (counts, kept, h.fills) (take_at a.fills (drop (0 + length a.fills) s.fills) (length a.fills) refl) ∙ ap (λ (p : Played Refusal). p.fills) to;
      }

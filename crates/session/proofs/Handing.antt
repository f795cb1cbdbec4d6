-- What a sink was handed, one line or one list of lines after another.
use Rattle.std.proofs.Common.{◌≡◌, ℕ, ◌+◌, ◌<◌, false, List, [], ◌∷◌, ◌++◌, length, get_or, take, is_err, IfOk, MatchResult, Ok, Err, Result, string_bytes, Option, Global, sym, refl, ◌∙◌, subst, append_assoc, append-nil}
use Rattle.std.specs.Prelude.{String}
use Rattle.std.specs.declared.alloc.AllocError.{AllocError}
use Rattle.std.proofs.lemmas.List.{take_more, map-append}
use Rattle.orders.specs.declared.call.Fill.{Fill}
use Rattle.listing.specs.declared.keeper.Keeper.{Keeper}
use Rattle.listing.specs.declared.line.Line.{Line}
use Rattle.listing.specs.declared.line.Report.TheVariants as report
use Rattle.listing.specs.Lines.{line_bytes, all_bytes}
use Rattle.listing.specs.Sinks.{Handed, Appends}
use Rattle.session.specs.Desks.{Desk}
use Rattle.session.specs.Plays.{plays}
use Rattle.session.specs.Listings.{listed, fill_lines, line_listing, listing_from}

module _ {S : Type 0} (writes : S → Line → S → Type 0) where
  pub handed_append : (xs ys : List Line) (s t u : S) → Handed writes s xs t → Handed writes t ys u → Handed writes s (xs ++ ys) u
  handed_append [] ys s t u e h = subst (λ (x : S). Handed writes x ys u) (sym e) h
  handed_append (x ∷ xs) ys s t u h k = (h.0, h.1, handed_append xs ys h.0 t u h.2 k)

  -- one more fill
  pub fills_more : (n : ℕ) (fs : List Fill) (i : ℕ) (d : Fill) (s t u : S) → i < length fs → Handed writes s (fill_lines n (take i fs)) t → writes t (listed n (report.Filled (get_or fs i d))) u
      → Handed writes s (fill_lines n (take (i + 1) fs)) u
  fills_more n fs i d s t u lt h w = rw (take_more fs i d lt, map-append) (handed_append (fill_lines n (take i fs)) (listed n (report.Filled (get_or fs i d)) ∷ []) s t u h (u, w, refl))

  -- what was handed so far, and what is still to be listed
  abbrev pub Listing : (goal : List Line) → (start now : S) → (number : ℕ) → List (List ℕ) → Option Desk → Type 0
  Listing goal start now number ls d = (done : List Line) × Handed writes start done now × (done ++ listing_from number ls d ≡ goal)

  -- one more line of the session
  pub lines_more : (goal : List Line) (start now next : S) (number : ℕ) (ls rest : List (List ℕ)) (line : List ℕ) (d e : Option Desk)
      → Listing goal start now number ls d → ls ≡ line ∷ rest → e ≡ (plays number line d).desk → Handed writes now (line_listing number (plays number line d)) next
      → Listing goal start next (number + 1) rest e
  unfolding listing_from
  lines_more goal start now next number ls rest line d e inv is desk h =
      let here = line_listing number (plays number line d) in
      (inv.0 ++ here, handed_append inv.0 here start now next inv.1 h, rw (append_assoc, desk) (rw is at inv.2))

  pub lines_all : (goal : List Line) (start now : S) (number : ℕ) (ls : List (List ℕ)) (d : Option Desk) → Listing goal start now number ls d → ls ≡ [] → Handed writes start goal now
  unfolding listing_from
  lines_all goal start now number ls d inv none =
      subst (λ (l : List Line). Handed writes start l now) (sym (append-nil inv.0) ∙ (rw none at inv.2)) inv.1

abbrev pub keeps : Keeper → Line → Keeper → Type 0
keeps s l t = Appends (is_err s.outcome) (string_bytes s.bytes) l (is_err t.outcome) (string_bytes t.bytes)

-- a keeper whose memory did not end in the end was never without, and has the bytes of all that it was handed
pub kept_all : (ls : List Line) (s t : Keeper) → Handed keeps s ls t → is_err t.outcome ≡ false → (is_err s.outcome ≡ false) × (string_bytes t.bytes ≡ string_bytes s.bytes ++ all_bytes ls)
kept_all [] s t e f = rw e (f, sym (append-nil (string_bytes t.bytes)))
kept_all (l ∷ ls) s t h f =
    let k = kept_all ls h.0 t h.2 f in
    let w = h.1 k.0 in
    (w.0, rw (k.1, w.1) (append_assoc (string_bytes s.bytes) (line_bytes l) (all_bytes ls)))

-- what a new keeper hands out in the end
pub kept_new : (ls : List Line) (s t : Keeper) (r : Result (String Global) AllocError) → string_bytes s.bytes ≡ [] → Handed keeps s ls t
    → MatchResult r (λ x. (x ≡ t.bytes) × (t.outcome ≡ Ok tt)) (λ e. t.outcome ≡ Err e) → IfOk r (λ b. string_bytes b ≡ all_bytes ls)
kept_new ls s t (Ok x) none h k =
    let f : is_err t.outcome ≡ false = rw k.1 refl in
    rw k.0 (rw ((kept_all ls s t h f).1, none) refl)
kept_new ls s t (Err e) none h k = tt

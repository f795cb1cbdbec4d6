-- What follows a verb is taken just when it is written as the command's words.
use Rattle.std.proofs.Common.{◌≡◌, ℕ, zero, suc, ◌⊎◌, List, [], ◌∷◌, Some, None, Ok, decimal, Option, sym, refl, ap, ◌∙◌, subst, inl, inr, ⊎_elim, arith}
use Rattle.orders.specs.Codes.{side_code}
use Rattle.orders.specs.Sides.{side_word}
use Rattle.orders.specs.declared.entry.Entry.{Entry}
use Rattle.orders.specs.declared.side.Side.{Side}
use Rattle.orders.specs.declared.call.Call.TheVariants as call
use Rattle.venue.specs.declared.venue.Venue.{Venue}
use Rattle.reader.specs.Numbers.{number_of}
use Rattle.reader.specs.Words.{number, Piece, named, token_in, Rest, onward, texts}
use Rattle.reader.proofs.Numbers.{number_from_lem, number_to}
use Rattle.reader.proofs.Spacing.{solid_decimal, Solids}
use Rattle.verbs.specs.declared.verb.Verb.{Verb}
use Rattle.verbs.specs.declared.verb.Verb.TheVariants as verb
use Rattle.verbs.specs.Vocabulary.{venue_word}
use Rattle.commands.specs.declared.command.Command.{Command}
use Rattle.commands.specs.declared.command.Command.TheVariants.{Open, Make, Ask}
use Rattle.commands.specs.Commands.{Parsed, bind, open_by, enter_by, marks_by, marks_in, command_by}
use Rattle.commands.specs.Written.{verb_in, Fit, EntryFits, entry_words, EntryWritten, Tail}
use Rattle.commands.proofs.Next.{bind_ok, first_is, no_pieces, word_then_ok, word_then_is, end_then_ok, end_then_is, Nums, AllFit, decimals, nums_then, nums_then_ok, nums_then_is, phrase, phrase_ok, phrase_is}
use Rattle.commands.proofs.Tables.{venues, sides}

-- the verb is the command's, and what is left are its other words
abbrev pub After : Verb → Rest → Command → Type 0
After v r c = (v ≡ verb_in c) × Tail c (texts r.todo)

abbrev opening : Venue → Nums 2 → Command
opening v x = Open v x.0 x.1.0

abbrev amendment : Nums 3 → Command
amendment x = Make (call.Amend (record { number = x.0; shares = x.1.0; limit = x.1.1.0 }))

abbrev cancelling : Nums 1 → Command
cancelling x = Make (call.Cancel x.0)

abbrev quoting : Nums 2 → Command
quoting x = Make (call.Quote x.0 x.1.0)

abbrev asking : Nums 1 → Command
asking x = Ask x.0

none_from : (v : Verb) (c0 : Command) → v ≡ verb_in c0 → ((ts : List (List ℕ)) → ts ≡ [] → Tail c0 ts) → (r : Rest) (c : Command) → phrase 0 (λ _. c0) r ≡ Ok c → After v r c
none_from v c0 vs tail r c e = let d = end_then_ok r c0 c e in subst (After v r) d.1 (vs, tail _ d.0)

open_from : (r : Rest) (c : Command) → open_by r ≡ Ok c → After verb.Open r c
open_from r c e =
    let w = word_then_ok venues r (λ v. phrase 2 (opening v) (onward r)) c e in
    let h = phrase_ok 2 (opening w.0) (onward r) c w.2 in
    subst (After verb.Open r) h.3 (refl, (w.1 ∙ ap (λ ts. venue_word w.0 ∷ ts) h.2, h.1.0, h.1.1.0))

open_to : (r : Rest) (v : Venue) (l p : ℕ) → Tail (Open v l p) (texts r.todo) → open_by r ≡ Ok (Open v l p)
open_to r v l p t =
    let w = word_then_is venues r (λ v. phrase 2 (opening v) (onward r)) v _ t.0 in
    w.0 ∙ phrase_is 2 (opening v) (onward r) (l, (p, tt)) (t.1, (t.2, tt)) w.1

-- the mark and the hidden mark of an entry
abbrev Marks : List (List ℕ) → ℕ × ℕ → Type 0
Marks ts x = Fit x.0 × Fit x.1 × ((ts ≡ decimal x.0 ∷ decimal x.1 ∷ []) ⊎ ((ts ≡ []) × (x.0 ≡ 0) × (x.1 ≡ 0)))

marks_named : (o : Option ℕ) (p : Piece) (r : Rest) (x : ℕ × ℕ) → number_of p.bytes ≡ o → marks_in (named o p) r ≡ Ok x → Marks (p.bytes ∷ texts r.todo) x
marks_named (Some n) p r x is e =
    let h = phrase_ok 1 (λ y. (n, y.0)) r x e in
    let w = number_from_lem p.bytes n is in
    let ts : p.bytes ∷ texts r.todo ≡ decimal n ∷ decimal h.0.0 ∷ [] = λ i. w.0 i ∷ h.2 i in
    subst (Marks (p.bytes ∷ texts r.todo)) h.3 (w.1, h.1.0, inl ts)
marks_named None p r x is e = cc

marks_first : (last : ℕ) (ps : List Piece) (x : ℕ × ℕ) → marks_in (token_in last ps) (onward (record { last = last; todo = ps })) ≡ Ok x → Marks (texts ps) x
marks_first last [] x e = let s : (0, 0) ≡ x = cc in subst (Marks []) s (omega arith, omega arith, inr (refl, refl, refl))
marks_first last (p ∷ ps) x e = marks_named (number_of p.bytes) p (record { last = last; todo = ps }) x refl e

marks_both : (r : Rest) (m h : ℕ) → Fit m → Fit h → texts r.todo ≡ decimal m ∷ decimal h ∷ [] → marks_by r ≡ Ok (m, h)
marks_both r m h fm fh e =
    let q = first_is r.todo (decimal m) (decimal h ∷ []) e in
    let t : token_in r.last r.todo ≡ number q.0.bytes m q.0.at = ap (token_in r.last) q.2 ∙ ap (λ o. named o q.0) (ap number_of q.3 ∙ number_to m fm) in
    let rest : texts (onward r).todo ≡ decimal h ∷ [] = ap (λ ps. texts (onward (record { last = r.last; todo = ps })).todo) q.2 ∙ q.4 in
    ap (λ k. marks_in k (onward r)) t ∙ phrase_is 1 (λ y. (m, y.0)) (onward r) (h, tt) (fh, tt) rest

marks_none : (r : Rest) → texts r.todo ≡ [] → marks_by r ≡ Ok (0, 0)
marks_none r e = ap (λ ps. marks_in (token_in r.last ps) (onward r)) (no_pieces r.todo e)

abbrev made : Side → Nums 5 → ℕ × ℕ → Entry
made s x m = record { side = side_code s; kind = x.0; shares = x.1.0; limit = x.1.1.0; minimum = x.1.1.1.0; broker = x.1.1.1.1.0; mark = m.0; hidden = m.1 }

-- an entry, once its side is read, and once its numbers are
abbrev marked : Side → Nums 5 → Rest → Parsed
marked s x r = bind (marks_by r) (λ m. Ok (Make (call.Enter (made s x m))))

abbrev sided : Side → Rest → Parsed
sided s r = nums_then 5 r (marked s)

enter_from : (r : Rest) (c : Command) → enter_by r ≡ Ok c → After verb.Enter r c
enter_from r c e =
    let w = word_then_ok sides r (λ s. sided s (onward r)) c e in
    let h = nums_then_ok 5 (onward r) (marked w.0) c w.2 in
    let m = bind_ok (marks_by h.1) (λ m. Ok (Make (call.Enter (made w.0 h.0 m)))) c h.4 in
    let last = m.2 in
    let entry = made w.0 h.0 m.0 in
    let is_c : Make (call.Enter entry) ≡ c = cc in
    let f = h.2 in
    let y = marks_first h.1.last h.1.todo m.0 m.1 in
    let front : (us : List (List ℕ)) → texts h.1.todo ≡ us → texts r.todo ≡ entry_words w.0 entry us = λ us k. w.1 ∙ ap (λ ts. side_word w.0 ∷ ts) (h.3 ∙ ap (decimals 5 h.0) k) in
    let t : EntryWritten entry (texts r.todo) =
    record {
      side = w.0;
      coded = refl;
      fits = (f.0, f.1.0, f.1.1.0, f.1.1.1.0, f.1.1.1.1.0, y.0, y.1);
      words_are = ⊎_elim (λ k. inl (front _ k)) (λ k. inr (front _ k.0, k.1, k.2)) y.2;
    } in
    subst (After verb.Enter r) is_c (refl, t)

enter_marked : (r : Rest) (n : Entry) (s : Side) (ts : List (List ℕ)) (x : ℕ × ℕ) → n.side ≡ side_code s → EntryFits n → texts r.todo ≡ entry_words s n ts → ((q : Rest) → texts q.todo ≡ ts → marks_by q ≡ Ok x) → n.mark ≡ x.0 → n.hidden ≡ x.1 → enter_by r ≡ Ok (Make (call.Enter n))
enter_marked r n s ts x coded f e marks em eh =
    let y : Nums 5 = (n.kind, (n.shares, (n.limit, (n.minimum, (n.broker, tt))))) in
    let w = word_then_is sides r (λ s. sided s (onward r)) s _ e in
    let h = nums_then_is 5 (onward r) (marked s) y ts (f.0, (f.1, (f.2, (f.3, (f.4, tt))))) w.1 in
    w.0
    ∙ h.1
    ∙ ap (λ z. bind z (λ m. Ok (Make (call.Enter (made s y m))))) (marks h.0 h.2)
    ∙ (λ i. Ok (Make (call.Enter (record { side = sym coded i; kind = n.kind; shares = n.shares; limit = n.limit; minimum = n.minimum; broker = n.broker; mark = sym em i; hidden = sym eh i }))))

enter_to : (r : Rest) (n : Entry) → EntryWritten n (texts r.todo) → enter_by r ≡ Ok (Make (call.Enter n))
enter_to r n t =
    let f = t.fits in
    ⊎_elim
    (λ e. enter_marked r n t.side _ (n.mark, n.hidden) t.coded f e (λ q h. marks_both q n.mark n.hidden f.5 f.6 h) refl refl)
    (λ e. enter_marked r n t.side _ (0, 0) t.coded f e.0 marks_none e.1 e.2)
    t.words_are

pub command_from : (v : Verb) (r : Rest) (c : Command) → command_by v r ≡ Ok c → After v r c
command_from verb.Open r c e = open_from r c e
command_from verb.Enter r c e = enter_from r c e
command_from verb.Amend r c e = let h = phrase_ok 3 amendment r c e in subst (After verb.Amend r) h.3 (refl, (h.2, h.1.0, h.1.1.0, h.1.1.1.0))
command_from verb.Cancel r c e = let h = phrase_ok 1 cancelling r c e in subst (After verb.Cancel r) h.3 (refl, (h.2, h.1.0))
command_from verb.Quote r c e = let h = phrase_ok 2 quoting r c e in subst (After verb.Quote r) h.3 (refl, (h.2, h.1.0, h.1.1.0))
command_from verb.NoQuote r c e = none_from verb.NoQuote (Make call.Withdraw) refl (λ ts e. e) r c e
command_from verb.Halt r c e = none_from verb.Halt (Make call.Halt) refl (λ ts e. e) r c e
command_from verb.Resume r c e = none_from verb.Resume (Make call.Resume) refl (λ ts e. e) r c e
command_from verb.Close r c e = none_from verb.Close (Make call.Close) refl (λ ts e. e) r c e
command_from verb.Ask r c e = let h = phrase_ok 1 asking r c e in subst (After verb.Ask r) h.3 (refl, (h.2, h.1.0))

pub command_to : (c : Command) (r : Rest) → Tail c (texts r.todo) → command_by (verb_in c) r ≡ Ok c
command_to (Open v l p) r t = open_to r v l p t
command_to (Make (call.Enter n)) r t = enter_to r n t
command_to (Make (call.Amend a)) r t = phrase_is 3 amendment r (a.number, (a.shares, (a.limit, tt))) (t.1, (t.2, (t.3, tt))) t.0
command_to (Make (call.Cancel n)) r t = phrase_is 1 cancelling r (n, tt) (t.1, tt) t.0
command_to (Make (call.Quote b o)) r t = phrase_is 2 quoting r (b, (o, tt)) (t.1, (t.2, tt)) t.0
command_to (Make call.Withdraw) r t = end_then_is r (Make call.Withdraw) t
command_to (Make call.Halt) r t = end_then_is r (Make call.Halt) t
command_to (Make call.Resume) r t = end_then_is r (Make call.Resume) t
command_to (Make call.Close) r t = end_then_is r (Make call.Close) t
command_to (Ask n) r t = phrase_is 1 asking r (n, tt) (t.1, tt) t.0

-- no word has a space
solid_nums : (n : ℕ) (x : Nums n) (ws : List (List ℕ)) → AllFit n x → Solids ws → Solids (decimals n x ws)
solid_nums zero x ws f h = h
solid_nums (suc n) x ws f h = (solid_decimal x.0 f.0, solid_nums n x.1 ws f.1 h)

entry_solid : (s : Side) (n : Entry) (ts : List (List ℕ)) → EntryFits n → Solids ts → Solids (entry_words s n ts)
entry_solid s n ts f h = ((sides.names s).solid, solid_nums 5 (n.kind, (n.shares, (n.limit, (n.minimum, (n.broker, tt))))) ts (f.0, (f.1, (f.2, (f.3, (f.4, tt))))) h)

pub tail_solid : (c : Command) (ts : List (List ℕ)) → Tail c ts → Solids ts
tail_solid (Open v l p) ts t = subst Solids (sym t.0) ((venues.names v).solid, solid_nums 2 (l, (p, tt)) [] (t.1, (t.2, tt)) tt)
tail_solid (Make (call.Enter n)) ts t =
    let f = t.fits in
    ⊎_elim
    (λ e. subst Solids (sym e) (entry_solid t.side n (decimal n.mark ∷ decimal n.hidden ∷ []) f (solid_nums 2 (n.mark, (n.hidden, tt)) [] (f.5, (f.6, tt)) tt)))
    (λ e. subst Solids (sym e.0) (entry_solid t.side n [] f tt))
    t.words_are
tail_solid (Make (call.Amend a)) ts t = subst Solids (sym t.0) (solid_nums 3 (a.number, (a.shares, (a.limit, tt))) [] (t.1, (t.2, (t.3, tt))) tt)
tail_solid (Make (call.Cancel n)) ts t = subst Solids (sym t.0) (solid_nums 1 (n, tt) [] (t.1, tt) tt)
tail_solid (Make (call.Quote b o)) ts t = subst Solids (sym t.0) (solid_nums 2 (b, (o, tt)) [] (t.1, (t.2, tt)) tt)
tail_solid (Make call.Withdraw) ts t = subst Solids (sym t) tt
tail_solid (Make call.Halt) ts t = subst Solids (sym t) tt
tail_solid (Make call.Resume) ts t = subst Solids (sym t) tt
tail_solid (Make call.Close) ts t = subst Solids (sym t) tt
tail_solid (Ask n) ts t = subst Solids (sym t.0) (solid_nums 1 (n, tt) [] (t.1, tt) tt)

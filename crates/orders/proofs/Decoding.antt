-- The row of an order decodes to that order, and a row decodes just when every field is in its range.
use Rattle.std.proofs.Common.{◌≡◌, ℕ, Bool, true, false, ◌&&◌, ◌||◌, eqb, leb, is_some, IfSome, Some, None, Option, Ok, Err, Result, refl, ap, ◌∙◌, arith}
use mathlib.Core.Bool.{Bool-set}
use Rattle.std.proofs.lemmas.Bool.{both_ways}
use Rattle.std.proofs.lemmas.Bool.Decides.{nat_tests}
use Rattle.std.specs.Result.{result_ok}
use Rattle.std.proofs.lemmas.Option.{none-some}
use Rattle.orders.specs.declared.code.UnknownCode.{UnknownCode}
use Rattle.orders.specs.Codes.{Decodes, side_code, kind_code, mark_code, hidden_code, side_of, kind_of, mark_of, hidden_of}
use Rattle.orders.specs.Ranges.{order_fits, kind_fits, plain_fits}
use Rattle.orders.specs.Rows.{row_of, order_of, fits_as, ordered, decoded, kind_numbers_fit, row_fits}
use Rattle.orders.specs.declared.side.Side.{Side}
use Rattle.orders.specs.declared.side.Side.TheVariants.{Buy, Sell}
use Rattle.orders.specs.declared.kind.Kind.{Kind}
use Rattle.orders.specs.declared.kind.Kind.TheVariants.{Limit, LimitAtOnce, Market, MiddlePeg, MinimumImprovement, MinimumEach, MinimumSum, SeekImprovement}
use Rattle.orders.specs.declared.mark.Mark.{Mark}
use Rattle.orders.specs.declared.mark.Mark.TheVariants.{Attributed, Anonymous, Jitney}
use Rattle.orders.specs.declared.order.Order.{Order}
use Rattle.orders.specs.declared.row.Row.{Row}

side_back : (s : Side) → side_of (side_code s) ≡ Some s
side_back Buy = refl
side_back Sell = refl

kind_back : (k : Kind) → kind_of (kind_code k) ≡ Some k
kind_back Limit = refl
kind_back LimitAtOnce = refl
kind_back Market = refl
kind_back MiddlePeg = refl
kind_back MinimumImprovement = refl
kind_back MinimumEach = refl
kind_back MinimumSum = refl
kind_back SeekImprovement = refl

mark_back : (m : Mark) → mark_of (mark_code m) ≡ Some m
mark_back Attributed = refl
mark_back Anonymous = refl
mark_back Jitney = refl

hidden_back : (h : Bool) → hidden_of (hidden_code h) ≡ Some h
hidden_back true = refl
hidden_back false = refl

-- a number that gave a case is the number of that case
side_code_lem : (n : ℕ) (s : Side) → side_of n ≡ Some s → n ≡ side_code s
side_code_lem n Buy e = grind (arith, nat_tests)
side_code_lem n Sell e = grind (arith, nat_tests)

kind_code_lem : (n : ℕ) (k : Kind) → kind_of n ≡ Some k → n ≡ kind_code k
kind_code_lem n Limit e = grind (arith, nat_tests)
kind_code_lem n LimitAtOnce e = grind (arith, nat_tests)
kind_code_lem n Market e = grind (arith, nat_tests)
kind_code_lem n MiddlePeg e = grind (arith, nat_tests)
kind_code_lem n MinimumImprovement e = grind (arith, nat_tests)
kind_code_lem n MinimumEach e = grind (arith, nat_tests)
kind_code_lem n MinimumSum e = grind (arith, nat_tests)
kind_code_lem n SeekImprovement e = grind (arith, nat_tests)

mark_code_lem : (n : ℕ) (m : Mark) → mark_of n ≡ Some m → n ≡ mark_code m
mark_code_lem n Attributed e = grind (arith, nat_tests)
mark_code_lem n Anonymous e = grind (arith, nat_tests)
mark_code_lem n Jitney e = grind (arith, nat_tests)

hidden_code_lem : (n : ℕ) (h : Bool) → hidden_of n ≡ Some h → n ≡ hidden_code h
hidden_code_lem n true e = grind (arith, nat_tests)
hidden_code_lem n false e = grind (arith, nat_tests)

-- what a number that was read gives, where the error of another is let go
pub decoded_ok : {A : Type 0} (code : A → ℕ) (decode : ℕ → Option A) (n : ℕ) (r : Result A UnknownCode) (x : A) → Decodes code decode n r → result_ok r ≡ Some x → decode n ≡ Some x
decoded_ok code decode n (Ok y) x d e = d.0 ∙ e
decoded_ok code decode n (Err u) x d e = absurd (none-some _ e)

module _ (r : Row) (s : Side) (k : Kind) (m : Mark) (h : Bool) where
  abbrev pub built : fits_as r k h ≡ true → Order
  built t = record {
    side = s;
    kind = k;
    left = r.left;
    size = r.size;
    limit = r.limit;
    minimum = r.minimum;
    broker = r.broker;
    mark = m;
    hidden = h;
    stamp = r.stamp;
    number = r.number;
    ok = t;
  }

  ordered_is : (b : Bool) (e : fits_as r k h ≡ b) (t : fits_as r k h ≡ true) → ordered r s k m h b e ≡ Some (built t)
  ordered_is true e t = ap (λ q. Some (built q)) (Bool-set _ _ e t)
  ordered_is false e t = absurd (both_ways _ e t)

  decoded_is : (a : Option Side) (b : Option Kind) (c : Option Mark) (d : Option Bool) (t : fits_as r k h ≡ true)
      → a ≡ Some s → b ≡ Some k → c ≡ Some m → d ≡ Some h → decoded r a b c d ≡ Some (built t)
  decoded_is a b c d t ea eb ec ed = rw (ea, eb, ec, ed) (ordered_is _ refl t)

  -- the order of a row whose parts are known
  pub order_is : (t : fits_as r k h ≡ true) → side_of r.side ≡ Some s → kind_of r.kind ≡ Some k → mark_of r.mark ≡ Some m → hidden_of r.hidden ≡ Some h → order_of r ≡ Some (built t)
  order_is t ea eb ec ed = decoded_is _ _ _ _ t ea eb ec ed

-- the row of an order decodes to it
pub order_back : (o : Order) → order_of (row_of o) ≡ Some o
order_back o = order_is (row_of o) o.side o.kind o.mark o.hidden o.ok (side_back o.side) (kind_back o.kind) (mark_back o.mark) (hidden_back o.hidden)

-- what turns on the kind, by the kind and by its number
kind_numbers : (k : Kind) (h : Bool) (limit minimum : ℕ) → kind_fits k limit minimum h ≡ kind_numbers_fit (kind_code k) limit minimum (hidden_code h)
kind_numbers Limit true limit minimum = refl
kind_numbers Limit false limit minimum = refl
kind_numbers LimitAtOnce true limit minimum = refl
kind_numbers LimitAtOnce false limit minimum = refl
kind_numbers Market true limit minimum = refl
kind_numbers Market false limit minimum = refl
kind_numbers MiddlePeg true limit minimum = refl
kind_numbers MiddlePeg false limit minimum = refl
kind_numbers MinimumImprovement true limit minimum = refl
kind_numbers MinimumImprovement false limit minimum = refl
kind_numbers MinimumEach true limit minimum = refl
kind_numbers MinimumEach false limit minimum = refl
kind_numbers MinimumSum true limit minimum = refl
kind_numbers MinimumSum false limit minimum = refl
kind_numbers SeekImprovement true limit minimum = refl
kind_numbers SeekImprovement false limit minimum = refl

ordered_test : (r : Row) (s : Side) (k : Kind) (m : Mark) (h b : Bool) (e : fits_as r k h ≡ b) → is_some (ordered r s k m h b e) ≡ b
ordered_test r s k m h true e = refl
ordered_test r s k m h false e = refl

module _ (r : Row) where
  -- the ranges of the numbers, the codes apart
  abbrev numbers_fit : Bool
  numbers_fit =
      plain_fits r.left r.size r.broker r.stamp r.number && kind_numbers_fit r.kind r.limit r.minimum r.hidden

  fits_numbers : (k : Kind) (h : Bool) → kind_of r.kind ≡ Some k → hidden_of r.hidden ≡ Some h → fits_as r k h ≡ numbers_fit
  unfolding order_fits
  fits_numbers k h ek eh =
      ap (λ b. plain_fits r.left r.size r.broker r.stamp r.number && b)
      (rw (kind_code_lem r.kind k ek, hidden_code_lem r.hidden h eh) (kind_numbers k h r.limit r.minimum))

  decoded_test : (a : Option Side) (b : Option Kind) (c : Option Mark) (d : Option Bool) → kind_of r.kind ≡ b → hidden_of r.hidden ≡ d
      → is_some (decoded r a b c d) ≡ ((is_some a && is_some b && is_some c && is_some d) && numbers_fit)
  decoded_test None b c d eb ed = refl
  decoded_test (Some s) None c d eb ed = refl
  decoded_test (Some s) (Some k) None d eb ed = refl
  decoded_test (Some s) (Some k) (Some m) None eb ed = refl
  decoded_test (Some s) (Some k) (Some m) (Some h) eb ed = ordered_test r s k m h _ refl ∙ fits_numbers k h eb ed

side_test : (n : ℕ) → is_some (side_of n) ≡ (eqb n 1 || eqb n 2)
side_test n = grind (arith, nat_tests)

kind_test : (n : ℕ) → is_some (kind_of n) ≡ (leb 1 n && leb n 8)
kind_test n = grind (arith, nat_tests)

mark_test : (n : ℕ) → is_some (mark_of n) ≡ leb n 2
mark_test n = grind (arith, nat_tests)

hidden_test : (n : ℕ) → is_some (hidden_of n) ≡ leb n 1
hidden_test n = grind (arith, nat_tests)

-- just when a row decodes
pub order_test : (r : Row) → is_some (order_of r) ≡ row_fits r
order_test r =
    decoded_test r (side_of r.side) (kind_of r.kind) (mark_of r.mark) (hidden_of r.hidden) refl refl
    ∙ rw (side_test r.side, kind_test r.kind, mark_test r.mark, hidden_test r.hidden)

with_codes : (r : Row) (s k m h : ℕ) → r.side ≡ s → r.kind ≡ k → r.mark ≡ m → r.hidden ≡ h
    → ◌≡◌ {A = Row} (record { side = s; kind = k; left = r.left; size = r.size; limit = r.limit; minimum = r.minimum; broker = r.broker; mark = m; hidden = h; stamp = r.stamp; number = r.number }) r
with_codes r s k m h es ek em eh = rw (← es, ← ek, ← em, ← eh)

ordered_back : (r : Row) (s : Side) (k : Kind) (m : Mark) (h b : Bool) (e : fits_as r k h ≡ b) → r.side ≡ side_code s → r.kind ≡ kind_code k → r.mark ≡ mark_code m → r.hidden ≡ hidden_code h
    → IfSome (ordered r s k m h b e) (λ o. row_of o ≡ r)
ordered_back r s k m h true e es ek em eh = with_codes r (side_code s) (kind_code k) (mark_code m) (hidden_code h) es ek em eh
ordered_back r s k m h false e es ek em eh = tt

decoded_back : (r : Row) (a : Option Side) (b : Option Kind) (c : Option Mark) (d : Option Bool) → side_of r.side ≡ a → kind_of r.kind ≡ b → mark_of r.mark ≡ c → hidden_of r.hidden ≡ d
    → IfSome (decoded r a b c d) (λ o. row_of o ≡ r)
decoded_back r None b c d ea eb ec ed = tt
decoded_back r (Some s) None c d ea eb ec ed = tt
decoded_back r (Some s) (Some k) None d ea eb ec ed = tt
decoded_back r (Some s) (Some k) (Some m) None ea eb ec ed = tt
decoded_back r (Some s) (Some k) (Some m) (Some h) ea eb ec ed =
    ordered_back r s k m h _ refl (side_code_lem r.side s ea) (kind_code_lem r.kind k eb) (mark_code_lem r.mark m ec) (hidden_code_lem r.hidden h ed)

-- the order of a row has that row
pub row_back : (r : Row) → IfSome (order_of r) (λ o. row_of o ≡ r)
row_back r = decoded_back r _ _ _ _ refl refl refl refl

-- a row whose codes are known and whose numbers fit decodes
pub order_from : (r : Row) (a : Option Side) (b : Option Kind) (c : Option Mark) (d : Option Bool) (k : Kind) (h : Bool)
    → is_some a ≡ true → b ≡ Some k → is_some c ≡ true → d ≡ Some h → fits_as r k h ≡ true → is_some (decoded r a b c d) ≡ true
order_from r None b c d k h p eb q ed t = absurd (both_ways _ refl p)
order_from r (Some s) b None d k h p eb q ed t = absurd (both_ways _ refl q)
order_from r (Some s) b (Some m) d k h p eb q ed t = ap is_some (decoded_is r s k m h (Some s) b (Some m) d t refl eb refl ed)

-- The lit terms are lawful.
use Rattle.std.specs.Prelude.{◌≡◌, ℕ, ◌≤◌, true, IfSome, Option, ◌==◌}
use Rattle.std.proofs.Common.{arith}
use Rattle.std.proofs.lemmas.Bool.Decides.{nat_tests}
use Rattle.orders.specs.Kinds.{minimum_fits}
use Rattle.orders.proofs.Bounds.{limit_most}
use Rattle.orders.specs.declared.kind.Kind.{Kind}
use Rattle.orders.specs.declared.kind.Kind.TheVariants.{Limit, LimitAtOnce, Market, MiddlePeg, MinimumImprovement, MinimumEach, MinimumSum, SeekImprovement}
use Rattle.orders.specs.declared.lot.Lot.{Lot}
use Rattle.orders.specs.declared.order.Order.{Order}
use Rattle.orders.specs.declared.quote.Quote.{Quote}
use Rattle.terms.specs.Lit.{lit_deal, lit_rules}
use Rattle.terms.specs.Taken.{Sound, priced_if}

pub lit_priced : (a r : Order) (q : Option Quote) (l : Lot) → IfSome (lit_deal a r q l) (λ p. (1 ≤ p) × (p ≤ 4000000))
lit_priced a r q l = priced_if _ r.limit (λ e. (grind (arith, nat_tests), limit_most r))

none_fits : (k : Kind) (m : ℕ) → (m == 0) ≡ true → minimum_fits k m ≡ true
none_fits Limit m h = grind (arith, nat_tests)
none_fits LimitAtOnce m h = grind (arith, nat_tests)
none_fits Market m h = h
none_fits MiddlePeg m h = grind (arith, nat_tests)
none_fits MinimumImprovement m h = grind (arith, nat_tests)
none_fits MinimumEach m h = grind (arith, nat_tests)
none_fits MinimumSum m h = grind (arith, nat_tests)
none_fits SeekImprovement m h = h

pub lit_sound : Sound lit_rules
lit_sound = record {
  hidden = λ k t h. h;
  below = λ k n m t one h. grind (arith, nat_tests);
  minimum = λ k n m t one most h. none_fits k m h;
}

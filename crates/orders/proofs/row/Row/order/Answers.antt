use Rattle.std.proofs.Common.{◌≡◌, is_some, IfSome, ap, ◌∙◌}
use mathlib.Core.Path.{subst⁻¹}
use Rattle.orders.specs.Rows.{row_of}
use Rattle.orders.proofs.Decoding.{order_test, row_back}
use Rattle.orders.proofs.row.Row.order.Goals as goal

pub returns : goal.returns
returns c = record {
  value = c.decoded.ensures;
  test = ap is_some c.decoded.ensures ∙ order_test c.args.self.now;
  back = subst⁻¹ (λ o. IfSome o (λ x. row_of x ≡ c.args.self.now)) c.decoded.ensures (row_back c.args.self.now);
}

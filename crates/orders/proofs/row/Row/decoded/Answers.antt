use Rattle.std.proofs.Common.{sym}
use Rattle.orders.specs.Codes.{side_code, side_of, kind_code, kind_of, mark_code, mark_of, hidden_code, hidden_of}
use Rattle.orders.proofs.Decoding.{order_is, decoded_ok}
use Rattle.orders.proofs.row.Row.decoded.Goals as goal

pub returns : goal.returns
returns c =
    let r = c.args.self.now in
    sym (order_is r _ _ _ _ _
    (decoded_ok side_code side_of r.side _ _ c.try_from.ensures (sym c.in_ok-side.ensures.value))
    (decoded_ok kind_code kind_of r.kind _ _ c.try_from-2.ensures (sym c.in_ok-kind.ensures.value))
    (decoded_ok mark_code mark_of r.mark _ _ c.try_from-3.ensures (sym c.in_ok-mark.ensures.value))
    (decoded_ok hidden_code hidden_of r.hidden _ _ c.hidden_from_code.ensures (sym c.in_ok-hidden.ensures.value)))

use Rattle.std.proofs.Common.{ap, ◌∙◌}
use Rattle.orders.specs.Rows.{order_of}
use Rattle.orders.proofs.Decoding.{order_back}
use Rattle.orders.proofs.row.RowFromOrder.from.Goals as goal

pub returns : goal.returns
returns c = (c.encoded.ensures, ap order_of c.encoded.ensures ∙ order_back c.args.order)

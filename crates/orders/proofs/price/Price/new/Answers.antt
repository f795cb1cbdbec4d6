use Rattle.std.proofs.Common.{sym}
use Rattle.orders.proofs.Made.{price_is}
use Rattle.orders.proofs.price.Price.new.Goals as goal

pub returns : goal.returns
returns c = sym (price_is c.args.quarters _)

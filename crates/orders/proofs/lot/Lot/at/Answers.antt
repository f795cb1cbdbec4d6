use Rattle.orders.specs.Grid.{lot_shares}
use Rattle.orders.specs.Quotes.{is_lot_shares}
use Rattle.orders.proofs.Made.{lot_is}
use Rattle.orders.proofs.lot.Lot.at.Goals as goal

pub returns : goal.returns
returns c = lot_is c.lot_shares.result _ (lot_shares c.args.last) c.lot_shares.ensures (is_lot_shares c.args.last)

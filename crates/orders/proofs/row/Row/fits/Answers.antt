use Rattle.std.proofs.Common.{rules}
use Rattle.orders.specs.Ranges.{order_fits}
use Rattle.orders.proofs.row.Row.fits.Goals as goal

pub returns-then-plain_fits : goal.returns-then-plain_fits
unfolding order_fits
returns-then-plain_fits c = search rules

pub returns-else-plain_fits : goal.returns-else-plain_fits
unfolding order_fits
returns-else-plain_fits c = search rules

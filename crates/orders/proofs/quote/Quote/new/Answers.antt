use Rattle.std.proofs.Common.{is_some, ap, ◌∙◌}
use Rattle.orders.proofs.Made.{quote_is, quote_test}
use Rattle.orders.proofs.quote.Quote.new.Goals as goal

pub returns-then-bid-offer : goal.returns-then-bid-offer
returns-then-bid-offer c =
    let e = quote_is c.args.bid c.args.offer c.in_ok-bid.bid c.in_ok-offer.offer _ c.in_ok-bid.ensures c.in_ok-offer.ensures in
    record { value = e; test = ap is_some e ∙ quote_test c.args.bid c.args.offer }

use Rattle.session.specs.Listings.{listing_of}
use Rattle.session.proofs.Handing.{kept_new}
use Rattle.session.proofs.text.listing_of.Goals as goal

pub returns : goal.returns
returns c = kept_new (listing_of c.args.text.now) c.new-keeper.result c.play_text.new.sink c.into_listing.result c.new-keeper.ensures.0 c.play_text.ensures c.into_listing.ensures

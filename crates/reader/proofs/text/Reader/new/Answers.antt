use Rattle.reader.proofs.Parting.{lines_parted}
use Rattle.reader.proofs.text.Reader.new.Goals as goal

pub returns-clause-parted : goal.returns-clause-parted
returns-clause-parted c = lines_parted c.args.text.now

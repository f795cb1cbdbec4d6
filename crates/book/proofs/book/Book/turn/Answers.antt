use Rattle.std.proofs.Common.{rules}
use Rattle.book.proofs.book.Book.turn.Goals as goal

pub returns-in_err-shift : goal.returns-in_err-shift
returns-in_err-shift g c = search rules

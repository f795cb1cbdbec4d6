use Rattle.std.proofs.Common.{length, sym, rules}
use Rattle.book.specs.States.{state_of, rules_in}
use Rattle.book.proofs.Trying.{tried_open}
use Rattle.book.proofs.book.Book.tried.Goals as goal

pub returns-then-is_open : goal.returns-then-is_open
returns-then-is_open g c =
    let e = tried_open (rules_in g.P.Priority g.T.Terms c.args.self.now) (state_of c.args.self.now) c.args.places.now c.args.active.now (length c.args.fills.now) (sym c.if-is_open.ensures) c.requires in
    search rules

use Rattle.std.proofs.Common.{length, sym, rules}
use Rattle.matching.proofs.Laying.{written_none}
use Rattle.book.specs.States.{state_of, rules_in}
use Rattle.book.proofs.Entries.{swept_few}
use Rattle.book.proofs.Trying.{swept_open}
use Rattle.book.proofs.book.Book.swept.Goals as goal

pub returns-then-is_open : goal.returns-then-is_open
returns-then-is_open g c =
    let u = rules_in g.P.Priority g.T.Terms c.args.self.now in
    let s = state_of c.args.self.now in
    let e = swept_open u s c.args.places.now c.args.from (length c.args.fills.now) (sym c.if-is_open.ensures) c.requires in
    let f = swept_few u s c.args.places.now in
    search rules

pub returns-clause-fills : goal.returns-clause-fills
returns-clause-fills g c = search (rules, written_none)

use Rattle.std.proofs.Common.{◌≡◌, ◌+◌, ◌≤◌, length, refl, ap, ◌∙◌, rules, arith}
use Rattle.orders.specs.Rows.{entry_row}
use Rattle.matching.specs.Runs.{written}
use Rattle.matching.specs.Sweeps.{occupied}
use Rattle.matching.proofs.Laying.{written_twice}
use Rattle.book.specs.States.{state_of, rules_in}
use Rattle.book.specs.Calls.{tried, swept, resting}
use Rattle.book.proofs.Entries.{room, few}
use Rattle.book.proofs.book.Book.entered.Goals as goal

pub swept-count-requires : goal.swept-count-requires
swept-count-requires g c =
    let u = rules_in g.P.Priority g.T.Terms c.args.self.now in
    let s = state_of c.args.self.now in
    let e = c.args.entry.now in
    let rows = c.args.places.now in
    let d = tried u s (entry_row e s.next) rows in
    let fit : length rows ≤ length c.args.fills.now = search rules in
    let count : c.tried-run.result.count ≡ length d.fills = search rules in
    let rests : c.put.new.places ≡ resting e rows d = search rules in
    omega (arith, ap occupied rests, c.tried-run.auto.fills, room u s e rows)

pub returns : goal.returns
returns g c =
    let u = rules_in g.P.Priority g.T.Terms c.args.self.now in
    let s = state_of c.args.self.now in
    let e = c.args.entry.now in
    let rows = c.args.places.now in
    let d = tried u s (entry_row e s.next) rows in
    let w = swept u s (resting e rows d) in
    let count : c.swept-count.result ≡ length d.fills + length w.fills = search rules in
    let made : c.swept-count.new.fills ≡ written (length d.fills) w.fills (written 0 d.fills c.args.fills.now) = search rules in
    let told : c.entry_receipt.result.fills ≡ c.swept-count.result = search rules in
    record {
      reply = search rules;
      state = search rules;
      rules = search rules;
      places = search rules;
      fills = made ∙ written_twice d.fills w.fills c.args.fills.now (length d.fills) refl;
      few = omega (arith, told, few u s e rows);
    }

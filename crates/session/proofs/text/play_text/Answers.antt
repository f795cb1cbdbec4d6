use Rattle.std.proofs.Common.{length, sym, arith}
use Rattle.std.proofs.lemmas.Bool.{leb-true}
use Rattle.reader.proofs.Parting.{length_lines}
use Rattle.session.proofs.text.play_text.Goals as goal

pub list_lines-requires : goal.list_lines-requires
list_lines-requires g c =
    let e = c.in-Ok.ensures in
    rw e.all (omega (arith, length_lines c.args.text.now, leb-true (length c.args.text.now) 65536 (sym e.test)))

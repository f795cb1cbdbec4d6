use Rattle.std.proofs.Common.{◌≡◌, length, refl, rules, ◌∙◌}
use Rattle.session.proofs.Desking.{still_room, made}
use Rattle.session.proofs.session.Session.make.Goals as goal

pub invariant_of-self-2 : goal.invariant_of-self-2
invariant_of-self-2 c = record { room = still_room c.args.call.now c.args.self.now c.answer.ensures c.in-Some.is }

pub returns : goal.returns
returns c =
    let s = c.args.self.now in
    let cut = c.split_at_mut-places.ensures in
    let all : length s.fills ≡ 1024 = search rules in
    made c.args.call.now s c.answer.ensures c.in-Some.is _ _ refl refl refl all cut.value (cut.front_len ∙ c.place_count.ensures) refl c.answer.auto.places

use Rattle.std.proofs.Common.{◌≡◌, ◌-◌, length, option_map, rules, sym, ap, ◌∙◌, arith}
use Rattle.std.proofs.lemmas.List.{take_rest}
use Rattle.reader.specs.Words.{words_from, token, onward}
use Rattle.reader.proofs.Steps.{word_first}
use Rattle.reader.proofs.words.Words.next.Goals as goal

pub returns : goal.returns
returns c =
    let line = c.self.inside.line.now in
    let next : c.map-self-inside.result ≡ option_map (λ r. length line - length r.now) c.part.result.1 = search rules in
    let todo = ap (words_from line) c.in-Some.is ∙ word_first line _ _ c.in-Some.at _ _ (grind arith) (take_rest line c.in-Some.at) c.part.ensures.front c.part.ensures.whole next in
    let read = sym c.self.view_is ∙ ap (λ ps. record { last = length line; todo = ps }) todo in
    record { first = c.token_of.ensures ∙ sym (ap token read); rest = sym (ap onward read) }

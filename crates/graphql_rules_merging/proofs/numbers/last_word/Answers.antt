use Rattle.std.proofs.Common.{◌≡◌, ap, sym, ◌∙◌, arith, ◌+◌, ◌++◌, ◌∷◌, [], length, get_or}
use Rattle.std.proofs.lemmas.List.{length_push}
use Rattle.graphql_rules_merging.proofs.Bits.{zero_more, popped, no_last}
use Rattle.graphql_rules_merging.proofs.numbers.last_word.Goals as goal

pub words-preserved : goal.words-preserved
words-preserved c =
    let dropped = popped c.pop.result c.words.words c.pop.new.self c.in-Some.word c.pop.ensures (c.in-Some.ensures ∙ c.last.ensures) in
    let zero : c.in-Some.word ≡ 0 = c.if-word-ne0.false in
    let was : c.words.words ≡ c.pop.new.self ++ 0 ∷ [] = dropped ∙ ap (λ w. c.pop.new.self ++ w ∷ []) zero in
    let longer : length c.words.words ≡ length c.pop.new.self + 1 = ap length was ∙ length_push c.pop.new.self 0 in
    let bound = c.words.invariant.bound in
    record {
      bound = omega (arith, longer, bound);
      same = (λ k. sym (zero_more c.pop.new.self 0 k) ∙ ap (λ ws. get_or ws k 0) (sym was) ∙ c.words.invariant.same k);
    }

pub returns-clause-last : goal.returns-clause-last
returns-clause-last c = no_last c.words.words (c.in_default.ensures ∙ c.last.ensures)

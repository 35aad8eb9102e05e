use Rattle.std.proofs.Common.{ap, sym, ◌∙◌, ◌/◌, eqb, ◌||◌}
use Rattle.std.proofs.lemmas.List.{get_or_read}
use Rattle.graphql_rules_merging.specs.Numbers.{has_number}
use Rattle.graphql_rules_merging.proofs.Bits.{added, same_numbers}
use Rattle.graphql_rules_merging.proofs.numbers.Numbers.add.Goals as goal

pub returns-clause-ok : goal.returns-clause-ok
returns-clause-ok c = λ n.
    let words = c.lengthen.new.words in
    let number = c.args.number in
    added words number c.index_mut.result.now c.in_ok-lengthen.ensures.long
    (sym (get_or_read words (number / 64) c.index_mut.result.now c.in_ok-lengthen.ensures.long c.index_mut.ensures.value 0)) n
    ∙ ap (λ has. eqb n number || has) (same_numbers words c.self.inside.words c.in_ok-lengthen.ensures.same n ∙ ap (λ ws. has_number ws n) c.self.view_is)

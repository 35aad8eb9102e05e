use Rattle.std.proofs.Common.{◌||◌, ap, ◌∙◌}
use Rattle.std.specs.Str.{bytes_eq}
use Rattle.graphql_tree.specs.Variables.{Variable}
use Rattle.graphql_occurrences.specs.Occurrences.{variable_part}
use Rattle.graphql_names.specs.NameSets.{has_name}
use Rattle.graphql_rules_document.proofs.NameSetLemmas.{names_turn}
use Rattle.graphql_rules_document.proofs.names.defined_names.Goals as goal

pub defined-preserved : goal.defined-preserved
defined-preserved g c q =
    let old = has_name c.defined.names q in
    let same = c.as_str.ensures ∙ ap (λ (v : Variable g.row.S.Denot). v.0.item) c.variable-item.is in
    names_turn variable_part (λ v. v.name.item) c.args.defined.now c.defined.variable-index c.variable-item.result c.defined-test.true q old (has_name c.add.new.names q) (c.defined.invariant q)
    (c.in_ok-add.ensures q ∙ ap (λ n. old || bytes_eq q n) same)

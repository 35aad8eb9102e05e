use Rattle.std.proofs.Common.{◌≡◌, Some, None, cond, take, sym, ap, ◌∙◌, arith}
use Rattle.std.proofs.lemmas.List.{take_all}
use Rattle.std.specs.HashMap.{get_by}
use Rattle.std.specs.Option.{option_map, option_or}
use Rattle.std.specs.Str.{bytes_eq}
use Rattle.graphql_names.specs.Names.{named}
use Rattle.graphql_tree.specs.Variables.{Variable}
use Rattle.graphql_occurrences.specs.Occurrences.{variable_part}
use Rattle.graphql_rule_errors.proofs.FoundLemmas.{one_more_named}
use Rattle.graphql_rules_document.proofs.FirstLemmas.{first_shown, shown_of}
use Rattle.graphql_rules_document.proofs.first_variables.first_variables.Goals as goal

pub defined-preserved : goal.defined-preserved
defined-preserved g c name =
    let name_of = λ (v : Variable g.row.S.Denot). v.0.item in
    let v = c.variable-item.result in
    c.in_ok-first_mention.ensures.seen name
    ∙ ap (λ o. option_or o (cond (bytes_eq (name_of v) name) (Some v) None)) (c.defined.invariant name)
    ∙ sym (one_more_named name_of c.args.defined.now c.defined.variable-index v name c.defined-test.true c.variable-item.is)

pub returns : goal.returns
returns g c name =
    let name_of = λ (v : Variable g.row.S.Denot). v.0.item in
    let whole : take c.defined.variable-index c.args.defined.now ≡ c.args.defined.now = take_all c.defined.variable-index c.args.defined.now (omega arith) in
    shown_of variable_part (get_by (λ k. bytes_eq name k.now) c.defined.first)
    ∙ ap (option_map variable_part) (c.defined.invariant name ∙ ap (λ vs. named name_of vs name) whole)
    ∙ first_shown variable_part (λ v. v.name.item) c.args.defined.now name

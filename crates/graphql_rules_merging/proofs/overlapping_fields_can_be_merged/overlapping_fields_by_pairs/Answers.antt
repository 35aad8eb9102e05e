use Rattle.std.proofs.Common.{inl, inr}
use Rattle.std.proofs.lemmas.Result.{IfOk-weaker}
use Rattle.graphql_values.proofs.SameValueLaws.{same_as_itself, by_a_third}
use Rattle.graphql_rule_errors.specs.Places.{places}
use Rattle.graphql_bundles.specs.Conflicts as conflicts
use Rattle.graphql_schema.specs.Declarations.{declarations_of}
use Rattle.graphql_merging.specs.Sets.{document_sets}
use Rattle.graphql_tree.specs.Definitions.{fragments_listed}
use Rattle.graphql_rules_merging.proofs.Joined.{promised}
use Rattle.graphql_rules_merging.proofs.Reordered.{promised_named}
use Rattle.graphql_rules_merging.proofs.overlapping_fields_can_be_merged.overlapping_fields_by_pairs.Goals as goal

pub returns-clause-merging : goal.returns-clause-merging
returns-clause-merging g c =
    IfOk-weaker c.put_in_order.result _ _
    (λ errors same settled.
    let eq = g.S.PartialEq.eq in
    let schema = declarations_of c.args.schema.now in
    let document = c.args.document.now in
    let found = conflicts.places c.in_ok-found.found in
    let table = c.in_ok-table.ensures.numbered in
    promised_named eq schema.types (document_sets schema document) found (places errors) same
    (promised eq schema document table.0 c.in_ok-table.table table.1 settled (same_as_itself eq g.met.S.Eq.laws) (by_a_third eq g.met.S.Eq.laws)
    found (inr (inl (c.in_ok-found.ensures (fragments_listed document))))))
    c.put_in_order.ensures.same

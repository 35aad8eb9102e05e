use Rattle.std.proofs.Common.{◌∙◌, ◌<◌, Bool, length, get_or, ap, subst}
use Rattle.graphql_names.specs.Names.{Bytes}
use Rattle.graphql_schema.specs.Lookups.{type_named}
use Rattle.graphql_schema.specs.Demands.{references_asked, is_unmet}
use Rattle.graphql_schema.proofs.FaultsFound.{good-any}
use Rattle.graphql_schema.proofs.faults.references.unmet_reference.Goals as goal

pub types-preserved : goal.types-preserved
types-preserved g c =
    let bad : Bytes → Bool = λ name. is_unmet c.args.wanted (type_named c.args.types.now name) in
    let i = c.types.meta-index in
    good-any bad (references_asked c.args.wanted) c.args.types.now i c.meta-item.result
    (subst (λ metas. i < length metas) c.as_slice-meta-items.ensures.items c.types-test.true)
    (c.meta-item.is ∙ ap (λ metas. get_or metas i c.meta-item.result) c.as_slice-meta-items.ensures.items) c.types.invariant c.in_default.ensures

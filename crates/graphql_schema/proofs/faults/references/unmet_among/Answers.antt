use Rattle.std.proofs.Common.{◌≡◌, ◌∙◌, Bool, map, take, ap, sym, arith}
use Rattle.std.proofs.lemmas.List.{take_all}
use Rattle.graphql_names.specs.Names.{Bytes}
use Rattle.graphql_schema.specs.Lookups.{type_named}
use Rattle.graphql_schema.specs.Demands.{is_unmet, misses}
use Rattle.graphql_schema.proofs.FaultsFound.{bad-item, good-turn}
use Rattle.graphql_schema.proofs.faults.references.unmet_among.Goals as goal

pub returns-then-is_unmet : goal.returns-then-is_unmet
returns-then-is_unmet g c =
    let bad : Bytes → Bool = λ name. is_unmet c.args.wanted (type_named c.args.types.now name) in
    let told = ap (is_unmet c.args.wanted) (sym c.get.ensures) ∙ sym c.is_unmet.ensures in
    bad-item bad g.T.Reference.reference_of c.args.items.now c.items.item-index c.item-item.result c.items-test.true c.item-item.is
    c.reference-name.result.now c.reference-name.ensures (told ∙ c.if-is_unmet.true)

pub items-preserved : goal.items-preserved
items-preserved g c =
    let bad : Bytes → Bool = λ name. is_unmet c.args.wanted (type_named c.args.types.now name) in
    let told = ap (is_unmet c.args.wanted) (sym c.get.ensures) ∙ sym c.is_unmet.ensures in
    good-turn bad g.T.Reference.reference_of c.args.items.now c.items.item-index c.item-item.result c.items-test.true c.item-item.is
    c.reference-name.result.now c.reference-name.ensures (told ∙ c.if-is_unmet.false) c.items.invariant

pub returns : goal.returns
returns g c = λ name.
    let whole : take c.items.item-index c.args.items.now ≡ c.args.items.now = take_all c.items.item-index c.args.items.now (omega arith) in
    sym (ap (λ items. misses c.args.wanted c.args.types.now (map g.T.Reference.reference_of items) name) whole) ∙ c.items.invariant name

use Rattle.std.proofs.Common.{◌≡◌, sym, ap, ◌∙◌}
use Rattle.std.specs.Option.{option_copied}
use Rattle.graphql_schema.specs.Lookups.{type_named}
use Rattle.graphql_introspection.proofs.Filtering.{found, missed}
use Rattle.graphql_introspection.proofs.type_answers.types_of_names.Goals.{in-Some+in_ok-push, in_default}
use Rattle.graphql_introspection.proofs.type_answers.types_of_names.Goals as goal

pub names-preserved : goal.names-preserved
names-preserved g c =
    let named = type_named c.args.schema.now.types in
    let so_far = c.names.invariant in
    let looked_up : named c.name-item.result ≡ option_copied c.concrete_type_by_name.result = ap named (sym c.as_str.ensures) ∙ sym {b = named c.as_str.result.now} c.concrete_type_by_name.ensures in
    elim c.match-concrete_type_by_name.branch [
      | in-Some+in_ok-push w ↦
          found (λ m. m.now) named c.args.names.now c.names.name-index c.name-item.result c.names.found c.match-concrete_type_by_name.found w.in-Some.named so_far c.names-test.true c.name-item.is (looked_up ∙ ap option_copied w.in-Some.is) (w.found-is ∙ w.in_ok-push.ensures.ok)
      | in_default w ↦
          missed (λ m. m.now) named c.args.names.now c.names.name-index c.name-item.result c.names.found c.match-concrete_type_by_name.found so_far c.names-test.true c.name-item.is (looked_up ∙ ap option_copied w.in_default.is) w.found-is
    ]

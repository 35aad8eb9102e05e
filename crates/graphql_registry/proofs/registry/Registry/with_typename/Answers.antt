use Rattle.std.proofs.Common.{◌≡◌, ◌++◌, ◌∷◌, [], ◌∙◌, ap, subst}
use Rattle.graphql_text.specs.Memory.{Gives}
use Rattle.graphql_registry.specs.Registries.{typename_field}
use Rattle.graphql_registry.proofs.registry.Registry.with_typename.Goals as goal

pub returns : goal.returns
returns g c =
    let behind : c.push.new.self ≡ c.args.fields ++ typename_field ∷ [] = c.in_ok-push.ensures.ok ∙ ap (λ field. c.args.fields ++ field ∷ []) c.in_ok-field.ensures in
    subst (Gives c.from_items.result) behind c.from_items.ensures

use Rattle.std.proofs.Common.{◌≡◌, [], ap, ◌∙◌}
use Rattle.graphql_tests.proofs.RegistryRowLemmas.{is_back, is_one, is_taken, still_holds, then_holds}
use Rattle.graphql_tests.proofs.registry.rows.object_registered_twice.Goals as goal

pub returns : goal.returns
returns g c =
    let before = c.new-registry.result.types in
    let after = c.register_a-first.new.registry.types in
    let in_the_end = c.register_a-second.new.registry.types in
    let none : before.entries ≡ [] = ap (λ types. types.entries) c.new-registry.ensures ∙ c.new.ensures.empty in
    let holds = then_holds _ _ before after none c.register_a-first.result c.register_a-first.ensures.ok in
    record {
      taken = is_taken _ _ before after none c.register_a-first.result c.register_a-first.ensures.ok;
      back = is_back _ _ after in_the_end c.register_a-first.result holds c.register_a-second.result c.register_a-second.ensures.ok;
      one = is_one _ _ in_the_end c.register_a-first.result
          (still_holds _ _ after in_the_end c.register_a-first.result holds c.register_a-second.result c.register_a-second.ensures.ok c.register_a-second.ensures.err)
          c.into_metadata.result c.into_metadata.ensures.metadata;
    }

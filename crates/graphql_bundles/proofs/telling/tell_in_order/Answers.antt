use Rattle.std.proofs.Common.{◌∷◌, ◌++◌, [], ap, ◌∙◌}
use Rattle.std.proofs.lemmas.List.{map-append}
use Rattle.graphql_bundles.specs.Conflicts.{places}
use Rattle.graphql_bundles.specs.declared.conflict.Conflict.{Conflict}
use Rattle.graphql_bundles.proofs.telling.tell_in_order.Goals as goal

pub returns : goal.returns
returns g c = record {
  conflict = c.in_ok-conflict.conflict;
  behind = c.in_ok-push.ensures.ok;
  why = c.in_ok-conflict.ensures.reason;
  at =
      ap places c.in_ok-push.ensures.ok
      ∙ map-append (λ (x : Conflict). x.locations) c.args.told.now (c.in_ok-conflict.conflict ∷ [])
      ∙ ap (λ at. places c.args.told.now ++ at ∷ []) c.in_ok-conflict.ensures.locations;
}

-- Wraps apart.
use Rattle.std.proofs.Common.{◌≡◌, ◌++◌, ◌∷◌, [], List, refl, Some, ap}
use Rattle.std.specs.Option.{option_map_or}
use Rattle.graphql_names.specs.declared.type_modifier.TypeModifier.{TypeModifier}
use Rattle.graphql_introspection.specs.TypeAnswers.{outermost_off}

pub apart_snoc : (ws : List TypeModifier) (w : TypeModifier) → outermost_off (ws ++ w ∷ []) ≡ Some (w, ws)
apart_snoc [] w = refl
apart_snoc (v ∷ ws) w = ap (λ p. Some (option_map_or (λ q. (q.0, v ∷ q.1)) p (v, []))) (apart_snoc ws w)

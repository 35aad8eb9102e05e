use Rattle.std.proofs.Common.{◌≡◌, drop}
use Rattle.graphql_names.specs.TypeReference.{has_list}
use Rattle.graphql_names.proofs.type_reference.Type.is_list.Given as goal

abbrev pub invariant-loop-modifier : goal.invariant-loop-modifier
invariant-loop-modifier g l = has_list (drop l.modifier-index l.modifier-items) ≡ has_list l.modifier-items

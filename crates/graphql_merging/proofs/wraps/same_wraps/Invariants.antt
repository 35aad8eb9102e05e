use Rattle.std.proofs.Common.{◌≡◌, ◌<◌, ℕ, get_or}
use Rattle.graphql_names.specs.declared.type_modifier.TypeModifier.{TypeModifier}
use Rattle.graphql_merging.specs.Merging.{is_list}
use Rattle.graphql_merging.proofs.wraps.same_wraps.Given as goal

abbrev pub invariant-loop-index : goal.invariant-loop-index
invariant-loop-index l = (k : ℕ) (x y : TypeModifier) → k < l.index → is_list (get_or l.left k x) ≡ is_list (get_or l.right k y)

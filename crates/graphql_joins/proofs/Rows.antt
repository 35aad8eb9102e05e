-- What small answers come to together.
use Rattle.std.proofs.Common.{◌≡◌, refl, ℕ, List, [], ◌∷◌}
use Rattle.std.specs.Prelude.{codes}
use Rattle.graphql_output_values.specs.Objects.{Pair}
use Rattle.graphql_output_values.specs.declared.value.Value.{Value}
use Rattle.graphql_output_values.specs.declared.value.Value.TheVariants as value
use Rattle.graphql_joins.specs.Joins.{IsJoin, null_second, same_scalar, lists, objects, no_items, more_items, new_keys}
use Rattle.graphql_joins.specs.Joins.{key_of_both, key_of_first}
use Rattle.graphql_joins.proofs.OneJoin.{one-join}

abbrev object : List (Pair (Value ℕ)) → Value ℕ
object members = value.Object (record { fields = members })

-- `{ friend: { name: 1 } }`, `{ id: 3, friend: { nick: 2 } }` and `{ friend: { name: 1, nick: 2 }, id: 3 }`
abbrev first : Value ℕ
first = object ((codes "friend", object ((codes "name", value.Scalar 1) ∷ [])) ∷ [])

abbrev second : Value ℕ
second = object ((codes "id", value.Scalar 3) ∷ (codes "friend", object ((codes "nick", value.Scalar 2) ∷ [])) ∷ [])

abbrev whole : Value ℕ
whole =
    object ((codes "friend", object ((codes "name", value.Scalar 1) ∷ (codes "nick", value.Scalar 2) ∷ [])) ∷
    (codes "id", value.Scalar 3) ∷ [])

-- the keys of the first stand first, new keys last
pub they_join : IsJoin first second whole
they_join =
    objects _ _ _ (key_of_both (codes "friend") _ _ _ _ _ _ refl
    (objects _ _ _ (key_of_first (codes "name") _ _ _ _ refl (new_keys _))) (new_keys _))

-- so nothing else is their join
pub nothing_else : (w : Value ℕ) → IsJoin first second w → whole ≡ w
nothing_else w j = one-join first second whole w they_join j

-- `[1, { name: 1 }]` and `[1, null]` are `[1, null]`
pub lists_join :
    IsJoin (value.List (value.Scalar 1 ∷ object ((codes "name", value.Scalar 1) ∷ []) ∷ []))
    (value.List (value.Scalar 1 ∷ value.Null ∷ [])) (value.List (value.Scalar 1 ∷ value.Null ∷ []))
lists_join = lists _ _ _ (more_items _ _ _ _ _ _ (same_scalar 1) (more_items _ _ _ _ _ _ (null_second _) no_items))

-- Two answers joined: what one selection set gives and what another gives, as one answer (GraphQL
-- October 2021, 6.4.3 Value Completion, MergeSelectionSets, 7.2.2 Serialized Map Ordering).
use Rattle.std.specs.Prelude.{◌≡◌, not, List, [], ◌∷◌, Option, Some, None}
use Rattle.std.specs.List.{filter}
use Rattle.std.specs.Str.{bytes_eq}
use Rattle.graphql_names.specs.Names.{Bytes}
use Rattle.graphql_output_values.specs.Objects.{Pair, field_value}
use Rattle.graphql_output_values.specs.declared.value.Value.{Value}
use Rattle.graphql_output_values.specs.declared.value.Value.TheVariants as value
use Rattle.graphql_semantics.specs.Completion.{Members, object_members}

-- the members of all keys but one
abbrev pub without : {A : Type 0} → Bytes → List (Pair A) → List (Pair A)
without key members = filter (λ m. not (bytes_eq m.0 key)) members

module _ {S : Type 0} where
  mutual
    -- `IsJoin x y z`: x joined with y is z
    pub data IsJoin : Value S → Value S → Value S → Type 0 where
      -- null with anything is null
      null_first : (y : Value S) → IsJoin value.Null y value.Null
      null_second : (x : Value S) → IsJoin x value.Null value.Null
      -- a scalar with the same scalar is it
      same_scalar : (s : S) → IsJoin (value.Scalar s) (value.Scalar s) (value.Scalar s)
      lists : (xs ys zs : List (Value S)) → ItemsJoin xs ys zs
          → IsJoin (value.List xs) (value.List ys) (value.List zs)
      objects : (xs ys zs : Members S) → MembersJoin xs ys zs
          → IsJoin (object_members xs) (object_members ys) (object_members zs)

    -- lists item by item
    pub data ItemsJoin : List (Value S) → List (Value S) → List (Value S) → Type 0 where
      no_items : ItemsJoin [] [] []
      more_items : (x y z : Value S) (xs ys zs : List (Value S)) → IsJoin x y z
          → ItemsJoin xs ys zs → ItemsJoin (x ∷ xs) (y ∷ ys) (z ∷ zs)

    -- objects key by key, in the order of the first, new keys last
    pub data MembersJoin : Members S → Members S → Members S → Type 0 where
      new_keys : (ys : Members S) → MembersJoin [] ys ys
      key_of_both : (key : Bytes) (x y z : Value S) (xs ys zs : Members S)
          → field_value ys key ≡ Some y → IsJoin x y z → MembersJoin xs (without key ys) zs
          → MembersJoin ((key, x) ∷ xs) ys ((key, z) ∷ zs)
      key_of_first : (key : Bytes) (x : Value S) (xs ys zs : Members S)
          → field_value ys key ≡ None → MembersJoin xs ys zs
          → MembersJoin ((key, x) ∷ xs) ys ((key, x) ∷ zs)

-- what may be missing, as an object that had to be null: nothing with anything is nothing
pub data JoinsIfThere {A : Type 0} (Join : A → A → A → Type 0)
    : Option A → Option A → Option A → Type 0 where
  none_first : (y : Option A) → JoinsIfThere Join None y None
  none_second : (x : Option A) → JoinsIfThere Join x None None
  both_there : (x y z : A) → Join x y z → JoinsIfThere Join (Some x) (Some y) (Some z)

-- What joining two data answers (GraphQL October 2021, 6.4.3 Value Completion, MergeSelectionSets).
use Rattle.std.specs.Prelude.{◌≡◌, true, Bool, not, is_some, List, ◌∷◌, Option, Some, None, Result}
use Rattle.std.specs.Prelude.{Ok, Err}
use Rattle.std.specs.List.{filter}
use Rattle.graphql_names.specs.Names.{Bytes}
use Rattle.graphql_output_values.specs.Objects.{Pair, field_value}
use Rattle.graphql_output_values.specs.declared.value.Value.{Value}
use Rattle.graphql_joins.specs.Joins.{IsJoin}
use Rattle.graphql_joined_data.specs.Differences.{DifferAt}
use Rattle.graphql_joined_data.specs.declared.join_fault.JoinFault.{JoinFault}
use Rattle.graphql_joined_data.specs.declared.join_fault.JoinFault.TheVariants as fault

module _ {S : Type 0} where
  -- scalars that are equal are one
  abbrev pub AreOneWhereEqual : (S → S → Bool) → Type 0
  AreOneWhereEqual same = (a b : S) → same a b ≡ true → a ≡ b

  abbrev pub HaveNoJoin : Value S → Value S → Type 0
  HaveNoJoin first second = (joined : Value S) → IsJoin first second joined → ⊥

  -- the join; or where the two differ, so that there is none. Want of memory tells nothing
  abbrev pub JoinsOrDiffers : (S → S → Bool) → Value S → Value S → Result (Value S) JoinFault
      → Type 0
  JoinsOrDiffers same first second (Ok joined) = AreOneWhereEqual same → IsJoin first second joined
  JoinsOrDiffers same first second (Err (fault.Disagree path)) =
      DifferAt same path first second × HaveNoJoin first second
  JoinsOrDiffers same first second (Err fault.Memory) = Unit {0}

  -- a value with what the other object has under its key, if it has the key
  abbrev pub JoinsWith : Value S → Option (Value S) → Value S → Type 0
  JoinsWith first None joined = joined ≡ first
  JoinsWith first (Some second) joined = IsJoin first second joined

  -- where a value differs from what the other object has under its key: a path that starts with the
  -- key
  abbrev pub DiffersUnder : (S → S → Bool) → Bytes → Value S → Option (Value S) → List Bytes
      → Type 0
  DiffersUnder same key first None path = ⊥
  DiffersUnder same key first (Some second) path =
      (below : List Bytes) × (path ≡ key ∷ below) × DifferAt same below first second

  -- the field of a key, joined; or where what stands under the key differs
  abbrev pub FieldJoinsOrDiffers : (S → S → Bool) → Bytes → Value S → Option (Value S)
      → Result (Pair (Value S)) JoinFault → Type 0
  FieldJoinsOrDiffers same key first other (Ok field) =
      (field.0 ≡ key) × (AreOneWhereEqual same → JoinsWith first other field.1)
  FieldJoinsOrDiffers same key first other (Err (fault.Disagree path)) =
      DiffersUnder same key first other path
  FieldJoinsOrDiffers same key first other (Err fault.Memory) = Unit {0}

-- the fields whose keys the others do not have
abbrev pub new_fields : {A : Type 0} → List (Pair A) → List (Pair A) → List (Pair A)
new_fields others fields = filter (λ field. not (is_some (field_value others field.0))) fields

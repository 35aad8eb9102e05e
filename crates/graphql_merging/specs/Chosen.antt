-- The fields that apply to one object type, as members of sets (GraphQL October 2021, 5.3.2 Field
-- Selection Merging, 6.3.2 Field Collection).
use Rattle.std.specs.Prelude.{◌≡◌, Bool, true, not, ◌||◌, List, [], ◌++◌, Some, None, IfSome}
use Rattle.std.specs.Prelude.{IsSome, if◌then◌else◌}
use Rattle.std.specs.List.{filter, flat_map}
use Rattle.std.specs.Str.{bytes_eq}
use Rattle.graphql_names.specs.Names.{Bytes}
use Rattle.graphql_schema.specs.declared.meta.MetaType.{MetaType}
use Rattle.graphql_schema.specs.Lookups.{is_object, own_name, type_named}
use Rattle.graphql_written_out.specs.Trees.{Directives, Tree, none, field, inline}
use Rattle.graphql_written_out.specs.Fields.{Found, applies}
use Rattle.graphql_merging.specs.Members.{Member, Scope, member, inside, scope_of}
use Rattle.graphql_merging.specs.Sets.{Set, members_of}

-- a member as a field that is found for an object type
abbrev pub found_of : {S C : Type 0} → Member S C → Found S
found_of m = record { head = m.head; below = m.below }

-- the members of one response key
abbrev pub under_key : {S C : Type 0} → Bytes → List (Member S C) → List (Member S C)
under_key key = filter (λ m. bytes_eq key m.head.key)

module _ {S C : Type 0} (types : List (MetaType S C)) where
  -- a field's own set
  abbrev pub own_set : Member S C → Set S C
  own_set m = record { scope = scope_of types m.parent m.head.name; tree = m.below }

  -- the members of several sets
  abbrev pub members_of_all : List (Set S C) → List (Member S C)
  members_of_all = flat_map (members_of types)

  -- the types of all conditions are known (5.5.1.2 Fragment Spread Type Existence)
  abbrev pub ConditionsAreKnown : Tree S → Type 0
  ConditionsAreKnown none = Unit {0}
  ConditionsAreKnown (field head directives below rest) = ConditionsAreKnown rest
  ConditionsAreKnown (inline None directives below rest) =
      ConditionsAreKnown below × ConditionsAreKnown rest
  ConditionsAreKnown (inline (Some on) directives below rest) =
      IsSome (type_named types on) × ConditionsAreKnown below × ConditionsAreKnown rest

  -- `drops`: which directives leave a selection out; `is_above`: which types the object type is a
  -- subtype of
  module _ (drops : Directives S → Bool) (is_above : Bytes → Bool) where
    -- the members of a set that apply to the object type
    abbrev pub chosen : Scope S C → Tree S → List (Member S C)
    chosen scope none = []
    chosen scope (field head directives below rest) =
        if drops directives then chosen scope rest else member scope head below ++ chosen scope rest
    chosen scope (inline on directives below rest) =
        if drops directives
        || not (applies is_above on) then chosen scope rest
        else chosen (inside types scope on) below ++ chosen scope rest

    abbrev pub chosen_of : Set S C → List (Member S C)
    chosen_of set = chosen set.scope set.tree

    -- the fields that are chosen of each of these sets
    abbrev pub chosen_of_all : List (Set S C) → List (Member S C)
    chosen_of_all = flat_map chosen_of

-- one of the types, that of its name, and above the object type
abbrev pub IsTypeAbove : {S C : Type 0} → List (MetaType S C) → (Bytes → Bool) → MetaType S C
    → Type 0
IsTypeAbove types is_above m =
    (type_named types (own_name m) ≡ Some m) × (is_above (own_name m) ≡ true)

-- the type that a set selects from is above the object type
abbrev pub IsAbove : {S C : Type 0} → List (MetaType S C) → (Bytes → Bool) → Set S C → Type 0
IsAbove types is_above set = IfSome set.scope (IsTypeAbove types is_above)

-- of the object types among the types, the object type alone is above itself
abbrev pub OneObject : {S C : Type 0} → List (MetaType S C) → (Bytes → Bool) → Bytes → Type 0
OneObject {S} {C} types is_above object =
    (m : MetaType S C) → IsTypeAbove types is_above m → is_object m ≡ true → own_name m ≡ object

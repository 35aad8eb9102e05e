-- Data that fit selection sets at the types that are declared (GraphQL October 2021, 6.3.2 Field
-- Collection, 6.4.3 Value Completion, 7.2.2 Serialized Map Ordering).
use Rattle.std.specs.Prelude.{◌≡◌, ℕ, true, false, List, [], ◌∷◌, reverse, Option, Some, None}
use Rattle.graphql_names.specs.Names.{Bytes}
use Rattle.graphql_names.specs.declared.type_modifier.TypeModifier.{TypeModifier}
use Rattle.graphql_names.specs.declared.type_modifier.TypeModifier.TheVariants as modifier
use Rattle.graphql_output_values.specs.declared.value.Value.{Value}
use Rattle.graphql_output_values.specs.declared.value.Value.TheVariants as value
use Rattle.graphql_written_out.specs.Trees.{Tree}
use Rattle.graphql_written_out.specs.Fields.{Found}
use Rattle.graphql_written_out.specs.Groups.{groups}
use Rattle.graphql_schema.specs.Types.{TypeOf}
use Rattle.graphql_semantics.specs.Engines.{Engine}
use Rattle.graphql_semantics.specs.Completion.{Members, is_required, object_members}
use Rattle.graphql_semantics.specs.Evaluation.{Group, found_in, sets_below}

module _ {S N : Type 0} (e : Engine S N) where
  mutual
    -- a value that is not null, at a type of this name within these wraps, the outermost first; the
    -- sets are selected from the objects in it
    pub data Holds : List (Tree S) → Bytes → List TypeModifier → Value S → Type 0 where
      leaf : (sets : List (Tree S)) (name : Bytes) (scalar : S) → e.is_leaf name ≡ true
          → Holds sets name [] (value.Scalar scalar)
      object : (sets : List (Tree S)) (name of : Bytes) (members : Members S)
          → e.is_possible name of ≡ true → MembersFit of (groups (found_in e of sets)) members
          → Holds sets name [] (object_members members)
      list : (sets : List (Tree S)) (name : Bytes) (size : Option ℕ) (wraps : List TypeModifier)
          (items : List (Value S)) → EachFits sets name wraps items
          → Holds sets name (modifier.List size ∷ wraps) (value.List items)
      required : (sets : List (Tree S)) (name : Bytes) (wraps : List TypeModifier) (v : Value S)
          → Holds sets name wraps v → Holds sets name (modifier.NonNull ∷ wraps) v

    -- a value, or null where null is not kept out
    pub data Fits : List (Tree S) → Bytes → List TypeModifier → Value S → Type 0 where
      holds : (sets : List (Tree S)) (name : Bytes) (wraps : List TypeModifier) (v : Value S)
          → Holds sets name wraps v → Fits sets name wraps v
      null : (sets : List (Tree S)) (name : Bytes) (wraps : List TypeModifier)
          → is_required wraps ≡ false → Fits sets name wraps value.Null

    pub data EachFits : List (Tree S) → Bytes → List TypeModifier → List (Value S) → Type 0 where
      no_items : (sets : List (Tree S)) (name : Bytes) (wraps : List TypeModifier)
          → EachFits sets name wraps []
      more_items : (sets : List (Tree S)) (name : Bytes) (wraps : List TypeModifier) (v : Value S)
          (vs : List (Value S)) → Fits sets name wraps v → EachFits sets name wraps vs
          → EachFits sets name wraps (v ∷ vs)

    -- the value under a key of an object type fits the type of the first field of that key, with
    -- the selections of all of them
    pub data FieldFits : Bytes → List (Found S) → Value S → Type 0 where
      declared : (of : Bytes) (x : Found S) (xs : List (Found S)) (type : TypeOf) (v : Value S)
          → e.declared of x.head.name ≡ Some type
          → Fits (sets_below (x ∷ xs)) type.name (reverse type.modifiers) v
          → FieldFits of (x ∷ xs) v
      undeclared : (of : Bytes) (x : Found S) (xs : List (Found S))
          → e.declared of x.head.name ≡ None → FieldFits of (x ∷ xs) value.Null

    -- an object has a member for each group, in order
    pub data MembersFit : Bytes → List (Group S) → Members S → Type 0 where
      no_members : (of : Bytes) → MembersFit of [] []
      more_members : (of key : Bytes) (xs : List (Found S)) (v : Value S) (gs : List (Group S))
          (ms : Members S) → FieldFits of xs v → MembersFit of gs ms
          → MembersFit of ((key, xs) ∷ gs) ((key, v) ∷ ms)

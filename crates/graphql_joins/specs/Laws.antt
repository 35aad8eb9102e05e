-- What selection sets that merge give together is the join of what each part gives (GraphQL October
-- 2021, 5.3.2 Field Selection Merging, 6.3 Executing Selection Sets, 6.4.3 Value Completion).
use Rattle.std.specs.Prelude.{◌≡◌, Bool, true, List, [], ◌∷◌, ◌++◌, map, Option, Some, IfSome}
use Rattle.std.specs.List.{All, Contains}
use Rattle.graphql_names.specs.Names.{Bytes}
use Rattle.graphql_values.specs.declared.input_value.InputValue.{InputValue}
use Rattle.graphql_schema.specs.Declarations.{type_named}
use Rattle.graphql_schema.specs.Executable.{is_executable}
use Rattle.graphql_schema.specs.Faults.{Roots}
use Rattle.graphql_schema.specs.Possible.{is_possible}
use Rattle.graphql_schema.specs.Subtypes.{is_named_subtype}
use Rattle.graphql_schema.specs.Types.{TypeOf}
use Rattle.graphql_schema.specs.declared.meta.argument.Argument.{Argument as Declared}
use Rattle.graphql_schema.specs.declared.meta.MetaType.{MetaType}
use Rattle.graphql_tree.specs.Arguments.{Argument}
use Rattle.graphql_tree.specs.declared.document.Fragment.{Fragment}
use Rattle.graphql_tree.specs.declared.selection.Selection.{Selection}
use Rattle.graphql_written_out.specs.Trees.{Head, Tree}
use Rattle.graphql_written_out.specs.Written.{written}
use Rattle.graphql_occurrences.specs.DeclaredLookups.{field_of, field_type}
use Rattle.graphql_arguments.specs.ArgumentValues.{argument_values}
use Rattle.graphql_arguments.specs.SameArguments.{SameArguments as SameUnderNames}
use Rattle.graphql_merging.specs.Members.{Member, members, scope_of}
use Rattle.graphql_merging.specs.Merging.{Merging, SameArguments}
use Rattle.graphql_merging.specs.Sets.{Set}
use Rattle.graphql_merging.specs.Chosen.{IsAbove, IsTypeAbove, OneObject}
use Rattle.graphql_merging.specs.Chosen.{chosen_of_all, members_of_all, own_set, under_key}
use Rattle.graphql_semantics.specs.Completion.{Members}
use Rattle.graphql_semantics.specs.Engines.{Engine}
use Rattle.graphql_semantics.specs.Evaluation.{evaluate}
use Rattle.graphql_semantics.specs.Outcomes.{Outcome}
use Rattle.graphql_output_values.specs.declared.value.Value.{Value}
use Rattle.graphql_joins.specs.Joins.{IsJoin, JoinsIfThere, MembersJoin}
use Rattle.graphql_joins.specs.Typed.{AreTyped, AreDistinct, HasDistinctArguments, IsTyped}

-- two values have one join at most
abbrev pub JoinsAreOne : Type 0 → Type 0
JoinsAreOne S = (x y z w : Value S) → IsJoin x y z → IsJoin x y w → z ≡ w

-- the members of the last are those of the others joined, where there are any
abbrev pub OutcomesJoin : {S : Type 0}
    → Outcome S (Members S) → Outcome S (Members S) → Outcome S (Members S) → Type 0
OutcomesJoin first second both = JoinsIfThere MembersJoin first.value second.value both.value

-- what is asked of an engine; `eq`: which scalars are the same
pub record KeepsSchema {S C N : Type 0} (eq : S → S → Bool) (types : List (MetaType S C))
    (e : Engine S N) : Type 0 where
  -- an object type is below no other object type
  pub one_object : (object : Bytes) → OneObject types (e.is_below object) object
  -- an object that can be what an object type's field declares is below the type that each type
  -- above that object type declares for the field (3.6 Objects, IsValidImplementationFieldType)
  pub covariant : (object concrete name : Bytes) (parent : MetaType S C) (type : TypeOf)
      → IsTypeAbove types (e.is_below object) parent → e.declared object name ≡ Some type
      → e.is_possible type.name concrete ≡ true
      → IfSome (scope_of types parent name) (IsTypeAbove types (e.is_below concrete))
  -- fields of one name and the same arguments are answered alike
  pub alike : (node : N) (object : Bytes) (x y : Head S)
      → HasDistinctArguments x → HasDistinctArguments y
      → x.name ≡ y.name → SameArguments eq x.arguments y.arguments
      → e.answer node object x.name (e.arguments object x)
      ≡ e.answer node object y.name (e.arguments object y)

-- sets that can be selected from at once for an object type: of types above it, known ones, and
-- they merge together
pub record FitTogether {S C : Type 0} (eq : S → S → Bool) (types : List (MetaType S C))
    (is_above : Bytes → Bool) (sets : List (Set S C)) : Type 0 where
  pub above : All (IsAbove types is_above) sets
  pub typed : AreTyped types sets
  pub merging : Merging eq types (members_of_all types sets)

abbrev pub trees : {S C : Type 0} → List (Set S C) → List (Tree S)
trees sets = map (λ s. s.tree) sets

module _ (S C N : Type 0) (eq : S → S → Bool) where
  -- such sets give together the join of what each part gives
  abbrev pub SetsJoin : Type 0
  SetsJoin =
      (types : List (MetaType S C)) (e : Engine S N) → KeepsSchema eq types e
      → (path : List Bytes) (object : Bytes) (node : N) (ss ts : List (Set S C))
      → FitTogether eq types (e.is_below object) (ss ++ ts)
      → (let gives : List (Set S C) → Outcome S (Members S) =
      λ sets. evaluate e path object node (trees sets) in
      OutcomesJoin (gives ss) (gives ts) (gives (ss ++ ts)))

  -- and the own sets of all fields of a key are such sets again, for each object type that can be
  -- what the fields declare
  abbrev pub OwnSetsFitTogether : Type 0
  OwnSetsFitTogether =
      (types : List (MetaType S C)) (e : Engine S N) → KeepsSchema eq types e
      → (object key concrete : Bytes) (sets : List (Set S C))
      → FitTogether eq types (e.is_below object) sets
      → let fields = under_key key (chosen_of_all types e.drops (e.is_below object) sets) in
      (x : Member S C) (type : TypeOf) → Contains fields x
      → e.declared object x.head.name ≡ Some type → e.is_possible type.name concrete ≡ true
      → FitTogether eq types (e.is_below concrete) (map (own_set types) fields)

  -- selections one behind the other in a set that merges, of a type at which the object can stand,
  -- give the join of what each part gives
  abbrev pub SelectionsJoin : Type 0
  SelectionsJoin =
      (types : List (MetaType S C)) (e : Engine S N) → KeepsSchema eq types e
      → (fragments : List (Fragment S)) (first second : List (Selection S)) (parent : MetaType S C)
      (path : List Bytes) (object : Bytes) (node : N)
      → IsTypeAbove types (e.is_below object) parent
      → IsTyped types (Some parent) (written fragments (first ++ second))
      → Merging eq types (members types (Some parent) (written fragments (first ++ second)))
      → (let gives : List (Selection S) → Outcome S (Members S) =
      λ selections. evaluate e path object node (written fragments selections ∷ []) in
      OutcomesJoin (gives first) (gives second) (gives (first ++ second)))

-- of a schema that can be executed: an object that can be what an object type's field declares is
-- below the type that each type above that object type declares for the field
abbrev pub TypesAreCovariant : {S C : Type 0} → List (MetaType S C) → Roots → Type 0
TypesAreCovariant {S} {C} types roots =
    is_executable types roots ≡ true
    → (object concrete name : Bytes) (parent : MetaType S C) (type : TypeOf) (at o : MetaType S C)
    → IsTypeAbove types (is_named_subtype types object) parent
    → field_type (field_of (type_named types object) name) ≡ Some type
    → type_named types type.name ≡ Some at → type_named types concrete ≡ Some o
    → is_possible at o ≡ true
    → IfSome (scope_of types parent name) (IsTypeAbove types (is_named_subtype types concrete))

-- written arguments that are the same, in whichever order, are the same values under each name
abbrev pub SameArgumentsGiveTheSame : (S : Type 0) → (S → S → Bool) → Type 0
SameArgumentsGiveTheSame S eq =
    (given : Bytes → Option (InputValue S)) (declared : List (Declared S))
    (xs ys : List (Argument S)) → AreDistinct xs → AreDistinct ys → SameArguments eq xs ys
    → SameUnderNames eq (argument_values given declared xs) (argument_values given declared ys)

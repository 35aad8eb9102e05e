-- What a type asks of the values that are given to it (GraphQL October 2021, 3.11 List, 3.12
-- Non-Null: input coercion; 3.9 Enums; 3.10 Input Objects).
use Rattle.std.specs.Prelude.{◌≡◌, ◌||◌, ℕ, Bool, true, false, if◌then◌else◌, nat_eq, List, [], ◌∷◌}
use Rattle.std.specs.Prelude.{map, Option, Some, None}
use Rattle.std.specs.List.{list_all, list_any}
use Rattle.graphql_names.specs.declared.type_modifier.TypeModifier.{TypeModifier}
use Rattle.graphql_names.specs.declared.type_modifier.TypeModifier.TheVariants as modifier
use Rattle.graphql_schema.specs.declared.meta.argument.Argument.{Argument}
use Rattle.graphql_schema.specs.declared.meta.enumeration.EnumMeta.{EnumMeta}
use Rattle.graphql_schema.specs.declared.meta.input_object.InputObjectMeta.{InputObjectMeta}
use Rattle.graphql_schema.specs.Types.{TypeOf}
use Rattle.graphql_names.specs.Names.{Bytes, is_named, is_one_of}
use Rattle.graphql_values.specs.declared.input_value.InputValue.{InputValue}
use Rattle.graphql_values.specs.declared.input_value.InputValue.TheVariants as value
use Rattle.graphql_values.specs.InputValues.{Pair}
pub use Rattle.graphql_schema.specs.Declarations.{argument_named}
pub use Rattle.graphql_schema.specs.Executable.{is_optional}

-- a list may have this many items: the size that is asked for, where one is
abbrev pub allows : Option ℕ → ℕ → Bool
allows None count = true
allows (Some size) count = nat_eq count size

abbrev pub may_hold_one : TypeModifier → Bool
may_hold_one modifier.NonNull = true
may_hold_one (modifier.List size) = allows size 1

-- a value that is no list may stand there, as the one item of each list around the named type
-- (3.11)
abbrev pub may_stand_alone : TypeOf → Bool
may_stand_alone t = list_all may_hold_one t.modifiers

-- one of the enum's values has the name
abbrev pub declares : {C : Type 0} → EnumMeta C → Bytes → Bool
declares m name = list_any (is_named (λ v. v.name) name) m.values

module _ {S : Type 0} where
  -- each declared field need not be given, or is among the names of those given
  abbrev pub none_missing : List (Argument S) → List Bytes → Bool
  none_missing declared given = list_all (λ a. is_optional a || is_one_of given a.name) declared

  -- the value is not `null`
  abbrev pub is_value : InputValue S → Bool
  is_value value.Null = false
  is_value _ = true

  -- one field is given, and not `null`
  abbrev pub is_one_given : List (Pair (InputValue S)) → Bool
  is_one_given [] = false
  is_one_given (p ∷ []) = is_value p.1.item
  is_one_given (p ∷ q ∷ ps) = false

module _ {S C : Type 0} where
  -- exactly one field is given where the input object asks for that
  abbrev pub is_one_if_asked : InputObjectMeta S C → List (Pair (InputValue S)) → Bool
  is_one_if_asked m pairs = if m.exactly_one then is_one_given pairs else true

  -- as many fields are given as the input object asks for: exactly one, or each that has to be
  -- given (3.10)
  abbrev pub is_complete : InputObjectMeta S C → List (Pair (InputValue S)) → Bool
  is_complete m pairs = if m.exactly_one then is_one_given pairs
      else none_missing m.input_fields (map (λ p. p.0.item) pairs)

  -- what the input object asks of an object beside its fields: they are complete, and its check
  -- accepts it where no variable stands in it
  abbrev pub WholeFits : (C → InputValue S → Type 0) → InputObjectMeta S C → InputValue S
      → List (Pair (InputValue S)) → Type 0 → Type 0
  WholeFits accepts m v pairs NoVariable =
      (is_complete m pairs ≡ true) × (NoVariable → accepts m.check v)

-- Which values conform to a type (GraphQL October 2021, 5.6.1 Values of Correct Type; 3.5, 3.9,
-- 3.10, 3.11, 3.12: input coercion).
use Rattle.std.specs.Prelude.{◌≡◌, ◌++◌, ℕ, true, false, List, [], ◌∷◌, length, Option, Some}
use Rattle.graphql_scalars.specs.ScalarAnswers.{as_text}
use Rattle.graphql_values.specs.declared.input_value.InputValue.{InputValue}
use Rattle.graphql_values.specs.declared.input_value.InputValue.TheVariants as value
use Rattle.graphql_values.specs.InputValues.{Placed, Pair}
use Rattle.graphql_values.specs.Variables.{IsConstant}
use Rattle.graphql_names.specs.TypeReference.{nullable}
use Rattle.graphql_names.specs.declared.type_modifier.TypeModifier.{TypeModifier}
use Rattle.graphql_names.specs.declared.type_modifier.TypeModifier.TheVariants as modifier
use Rattle.graphql_schema.specs.Scalars.{Scalars}
use Rattle.graphql_schema.specs.declared.meta.argument.Argument.{Argument}
use Rattle.graphql_schema.specs.declared.meta.scalar.ScalarMeta.{ScalarMeta}
use Rattle.graphql_schema.specs.declared.meta.enumeration.EnumMeta.{EnumMeta}
use Rattle.graphql_schema.specs.declared.meta.input_object.InputObjectMeta.{InputObjectMeta}
use Rattle.graphql_schema.specs.declared.meta.MetaType.{MetaType}
use Rattle.graphql_schema.specs.declared.meta.MetaType.TheVariants as meta
use Rattle.graphql_schema.specs.Types.{TypeOf, refuses_null}
use Rattle.graphql_names.specs.Names.{Bytes}
use Rattle.graphql_schema.specs.Lookups.{type_named}
use Rattle.graphql_literal_checks.specs.declared.source.Source.{Source}
use Rattle.graphql_literal_checks.specs.declared.source.Source.TheVariants.{Sent}
use Rattle.graphql_literal_checks.specs.InputTypes.{WholeFits, allows}
use Rattle.graphql_literal_checks.specs.InputTypes.{may_stand_alone, declares, argument_named}

-- by what scalars mean, the types of a schema, and where the value comes from
module _ {S C : Type 0} (scalars : Scalars S C)
    (types : List (MetaType S C)) (source : Source) where
  mutual
    pub data Conforms : TypeOf → InputValue S → Type 0 where
      null : (t : TypeOf) → refuses_null t ≡ false → Conforms t value.Null
      -- whether a variable may stand there is asked of its type (5.8.5)
      variable : (t : TypeOf) (name : Bytes) → Conforms t (value.Variable name)
      scalar : (t : TypeOf) (m : ScalarMeta C) (s : S) → may_stand_alone t ≡ true
          → type_named types t.name ≡ Some (meta.Scalar m)
          → scalars.accepts m.check (value.Scalar s)
          → Conforms t (value.Scalar s)
      enum : (t : TypeOf) (m : EnumMeta C) (name : Bytes) → may_stand_alone t ≡ true
          → type_named types t.name ≡ Some (meta.Enum m) → declares m name ≡ true
          → scalars.accepts m.check (value.Enum name)
          → Conforms t (value.Enum name)
      -- a text names an enum's value only where it was sent (3.9)
      sent_enum : (t : TypeOf) (m : EnumMeta C) (s : S) (name : Bytes) → source ≡ Sent
          → as_text (scalars.answer s) ≡ Some name → may_stand_alone t ≡ true
          → type_named types t.name ≡ Some (meta.Enum m) → declares m name ≡ true
          → scalars.accepts m.check (value.Scalar s) → Conforms t (value.Scalar s)
      list : (t : TypeOf) (size : Option ℕ) (within : List TypeModifier)
          (items : List (Placed (InputValue S)))
          → nullable t.modifiers
          ≡ within
          ++ modifier.List size ∷ [] → allows size (length items) ≡ true
          → EachConforms (record { name = t.name; modifiers = within }) items
          → Conforms t (value.List items)
      -- the check of an input object is asked where no variable stands in the value
      object : (t : TypeOf) (m : InputObjectMeta S C) (pairs : List (Pair (InputValue S)))
          → may_stand_alone t ≡ true → type_named types t.name ≡ Some (meta.InputObject m)
          → FieldsConform m.input_fields pairs
          → WholeFits scalars.accepts m (value.Object pairs) pairs (IsConstant (value.Object pairs))
          → Conforms t (value.Object pairs)

    -- each item conforms
    pub data EachConforms : TypeOf → List (Placed (InputValue S)) → Type 0 where
      no_items : (t : TypeOf) → EachConforms t []
      more_items : (t : TypeOf) (x : Placed (InputValue S)) (xs : List (Placed (InputValue S)))
          → Conforms t x.item → EachConforms t xs → EachConforms t (x ∷ xs)

    -- each field is declared, and conforms to the type that is declared (5.6.2 Input Object Field
    -- Names)
    pub data FieldsConform : List (Argument S) → List (Pair (InputValue S)) → Type 0 where
      no_fields : (declared : List (Argument S)) → FieldsConform declared []
      more_fields : (declared : List (Argument S)) (a : Argument S) (p : Pair (InputValue S))
          (ps : List (Pair (InputValue S))) → argument_named declared p.0.item ≡ Some a
          → Conforms a.arg_type p.1.item → FieldsConform declared ps
          → FieldsConform declared (p ∷ ps)

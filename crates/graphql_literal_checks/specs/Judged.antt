-- What is judged of a value at a type, by the kind of the type, and what an answer tells (GraphQL
-- October 2021, 5.6.1 Values of Correct Type).
use Rattle.std.specs.Prelude.{◌≡◌, ◌++◌, ◌⊎◌, ◌∷◌, ℕ, Bool, true, false, List, [], length, Option}
use Rattle.std.specs.Prelude.{Some, Result}
use Rattle.std.specs.Borrow.{Bor}
use Rattle.std.specs.List.{list_all}
use Rattle.graphql_text.specs.Memory.{Answers}
use Rattle.graphql_scalars.specs.ScalarAnswers.{ScalarAnswer, as_text}
use Rattle.graphql_values.specs.declared.input_value.InputValue.{InputValue}
use Rattle.graphql_values.specs.declared.input_value.InputValue.TheVariants as value
use Rattle.graphql_values.specs.InputValues.{Placed, Pair}
use Rattle.graphql_values.specs.Variables.{IsConstant, names_of_variables}
use Rattle.graphql_names.specs.TypeReference.{nullable}
use Rattle.graphql_names.specs.declared.type_modifier.TypeModifier.{TypeModifier}
use Rattle.graphql_names.specs.declared.type_modifier.TypeModifier.TheVariants as modifier
use Rattle.graphql_names.specs.declared.type_reference.«Type».{«Type»}
use Rattle.graphql_schema.specs.Scalars.{Scalars}
use Rattle.graphql_schema.specs.declared.meta.argument.Argument.{Argument}
use Rattle.graphql_schema.specs.declared.meta.enumeration.EnumMeta.{EnumMeta}
use Rattle.graphql_schema.specs.declared.meta.scalar.ScalarMeta.{ScalarMeta}
use Rattle.graphql_schema.specs.declared.meta.input_object.InputObjectMeta.{InputObjectMeta}
use Rattle.graphql_schema.specs.declared.meta.MetaType.{MetaType}
use Rattle.graphql_schema.specs.declared.meta.MetaType.TheVariants as meta
use Rattle.graphql_schema.specs.Types.{TypeOf}
use Rattle.graphql_names.specs.Names.{Bytes}
use Rattle.graphql_schema.specs.Lookups.{type_named}
use Rattle.graphql_literal_checks.specs.declared.source.Source.{Source}
use Rattle.graphql_literal_checks.specs.declared.source.Source.TheVariants.{Sent}
use Rattle.graphql_literal_checks.specs.declared.misfit.Misfit.{Misfit}
use Rattle.graphql_literal_checks.specs.declared.misfit.Misfit.TheVariants as misfit
use Rattle.graphql_literal_checks.specs.Conforms.{Conforms, FieldsConform, EachConforms}
use Rattle.graphql_literal_checks.specs.InputTypes.{WholeFits, allows, argument_named, declares}
use Rattle.graphql_literal_checks.specs.InputTypes.{may_stand_alone}

-- a type that is lent
abbrev pub lent : «Type» Bytes (Bor (List TypeModifier)) → TypeOf
lent t = record { name = t.name; modifiers = t.modifiers.now }

-- a type of any form, by the bytes of its name and the list of its wraps
abbrev pub asked_for : {N M : Type 0} → (N → Bytes) → (M → List TypeModifier) → «Type» N M → TypeOf
asked_for text_of items_of t = record { name = text_of t.name; modifiers = items_of t.modifiers }

-- the items of lists of this size are of the type within
abbrev pub IsListOf : List TypeModifier → Option ℕ → List TypeModifier → Type 0
IsListOf modifiers size within = nullable modifiers ≡ within ++ modifier.List size ∷ []

module _ {S : Type 0} where
  -- no variable stands in the value
  abbrev pub is_constant : InputValue S → Bool
  is_constant v = list_all (λ _. false) (names_of_variables v)

  -- no variable stands in one of these
  abbrev pub are_constant : List (Placed (InputValue S)) → Bool
  are_constant items = list_all (λ x. is_constant x.item) items

  abbrev pub have_constants : List (Pair (InputValue S)) → Bool
  have_constants pairs = list_all (λ p. is_constant p.1.item) pairs

abbrev pub IsMemory : Misfit → Type 0
IsMemory m = m ≡ misfit.Memory

-- a value tells that the fact holds, and whether it is of a constant; a misfit, that the fact does
-- not hold
abbrev pub Judged : Type 0 → Bool → Result Bool Misfit → Type 0
Judged Fact constant result =
    Answers (λ told. Fact × (told ≡ constant)) (λ _. Fact → ⊥) IsMemory result

-- an object of whose fields this holds
abbrev pub IsObject : {S : Type 0} → (List (Pair (InputValue S)) → Type 0) → InputValue S → Type 0
IsObject {S} P v = (pairs : List (Pair (InputValue S))) × (v ≡ value.Object pairs) × P pairs

-- the value is of an enum's name: a literal of the name, or a text that was sent (3.9)
abbrev pub Names : {S : Type 0} → (S → ScalarAnswer) → Source → InputValue S → Bytes → Type 0
Names {S} answer source v name = (v ≡ value.Enum name)
    ⊎ ((source ≡ Sent) × ((s : S) × (v ≡ value.Scalar s) × (as_text (answer s) ≡ Some name)))

-- the value is one that the enum declares
abbrev pub IsOfEnum : {S C : Type 0} → (S → ScalarAnswer) → Source → EnumMeta C → InputValue S
    → Type 0
IsOfEnum answer source m v = (name : Bytes) × Names answer source v name × (declares m name ≡ true)

module _ {S C : Type 0} (scalars : Scalars S C) where
  abbrev pub ScalarFits : ScalarMeta C → InputValue S → Type 0
  ScalarFits m v = ((s : S) × (v ≡ value.Scalar s)) × scalars.accepts m.check v

  abbrev pub EnumFits : Source → EnumMeta C → InputValue S → Type 0
  EnumFits source m v = IsOfEnum scalars.answer source m v × scalars.accepts m.check v

module _ {S C : Type 0} (scalars : Scalars S C)
    (types : List (MetaType S C)) (source : Source) where
  abbrev pub ObjectFits : InputObjectMeta S C → List (Pair (InputValue S)) → Type 0
  ObjectFits m pairs = FieldsConform scalars types source m.input_fields pairs
      × WholeFits scalars.accepts m (value.Object pairs) pairs (IsConstant (value.Object pairs))

  -- the value fits the named type, of which this is known
  abbrev pub NamedFits : Option (MetaType S C) → InputValue S → Type 0
  NamedFits (Some (meta.Scalar m)) v = ScalarFits scalars m v
  NamedFits (Some (meta.Enum m)) v = EnumFits scalars source m v
  NamedFits (Some (meta.InputObject m)) v = IsObject (ObjectFits m) v
  NamedFits _ v = ⊥

  -- the value fits where it stands as the one item of each list
  abbrev pub AloneFits : TypeOf → InputValue S → Type 0
  AloneFits t v = (may_stand_alone t ≡ true) × NamedFits (type_named types t.name) v

  abbrev pub ListFits : TypeOf → List (Placed (InputValue S)) → Type 0
  ListFits t items =
      (size : Option ℕ)
      × (within : List TypeModifier)
      × IsListOf t.modifiers size within
      × (allows size (length items) ≡ true)
      × EachConforms scalars types source
      (record { name = t.name; modifiers = within }) items

  -- a field of this name is declared, and the value conforms to its type
  abbrev pub FieldFits : List (Argument S) → Bytes → InputValue S → Type 0
  FieldFits declared name v = (a : Argument S)
      × (argument_named declared name ≡ Some a)
      × Conforms scalars types source a.arg_type v

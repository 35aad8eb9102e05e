-- What holds of the parts of a document in which rules find no fault, and whose literals conform
-- (GraphQL October 2021, 5 Validation, 5.6.1 Values of Correct Type).
use Rattle.std.specs.Prelude.{◌≡◌, ◌||◌, Bool, true, false, List, [], map, Some}
use Rattle.std.specs.List.{Contains, IsDistinct, flat_map}
use Rattle.std.specs.Option.{ForSome, IsSome}
use Rattle.std.specs.Str.{bytes_eq}
use Rattle.graphql_schema.specs.Scalars.{Scalars}
use Rattle.graphql_schema.specs.declared.directive.DirectiveType.{DirectiveType}
use Rattle.graphql_schema.specs.declared.meta.argument.Argument.{Argument as Declared}
use Rattle.graphql_schema.specs.declared.meta.field.Field.{Field as DeclaredField}
use Rattle.graphql_schema.specs.declared.meta.MetaType.{MetaType}
use Rattle.graphql_names.specs.Names.{Bytes, is_one_of}
use Rattle.graphql_occurrences.specs.Lookups.{argument_named, field_type, known, referred}
use Rattle.graphql_occurrences.specs.Parts.{DirectivePart, FieldPart, GivenPart, Part, VariablePart}
use Rattle.graphql_schema.specs.Declarations.{Declarations}
use Rattle.graphql_schema.specs.Directives.{is_place}
use Rattle.graphql_schema.specs.Executable.{is_optional}
use Rattle.graphql_schema.specs.Possible.{overlap}
use Rattle.graphql_schema.specs.Faults.{is_composite}
use Rattle.graphql_tree.specs.Arguments.{Argument}
use Rattle.graphql_visitors.specs.Rules.{Rule}
use Rattle.graphql_visitors.specs.Subjects.{Subject}
use Rattle.graphql_rules.specs.ScalarLeafs.{is_leaf}
use Rattle.graphql_rules.specs.ArgumentsOfCorrectType.{asked_argument}
use Rattle.graphql_rules.specs.DefaultValuesOfCorrectType.{asked_default}
use Rattle.graphql_rules.specs.Literals.{LiteralConforms}

module _ {S C : Type 0} where
  -- a rule says nothing of these parts
  abbrev pub FindsNoFault : Rule S C → Subject S C → List (Part S C) → Type 0
  FindsNoFault rule subject parts = flat_map (rule subject) parts ≡ []

  -- the fact holds of each of these parts that is of the kind
  abbrev pub EachOf : {X : Type 0} → (X → Part S C) → (X → Type 0) → List (Part S C) → Type 0
  EachOf {X} kind Fact parts = (x : X) → Contains parts (kind x) → Fact x

  -- a leaf or a composite type: a field of such a type has a set exactly where the type is
  -- composite (5.3.3 Leaf Field Selections)
  abbrev pub SetFits : Bool → MetaType S C → Type 0
  SetFits has_set m = (is_leaf m || is_composite m) ≡ true → has_set ≡ is_composite m

module _ {S C : Type 0} (schema : Declarations S C) where
  -- the type of the name is known, and passes the test
  abbrev pub IsKnownAs : (MetaType S C → Bool) → Bytes → Type 0
  IsKnownAs test name = (m : MetaType S C) × (known schema name ≡ Some m) × (test m ≡ true)

  -- the type of a field, where it is known, is one that the field's set fits
  abbrev pub IsSelected : FieldPart S C → Type 0
  IsSelected f = ForSome (referred schema (field_type f.declared)) (SetFits f.has_set)

  -- the field is declared, and its set fits its type, where the type is known
  abbrev pub IsDeclaredField : FieldPart S C → Type 0
  IsDeclaredField f = (d : DeclaredField S)
      × (f.declared ≡ Some d)
      × ForSome (known schema d.field_type.name) (SetFits f.has_set)

  -- the type of the name, where it is known, has a possible type in common with the other one
  -- (5.5.2.3 Fragment Spread Is Possible)
  abbrev pub MayApply : MetaType S C → Bytes → Type 0
  MayApply parent name = ForSome (known schema name) (λ m. overlap schema.types parent m ≡ true)

module _ {S : Type 0} where
  -- the directive is declared, and may stand where it does (5.7 Directives)
  abbrev pub IsPlaced : DirectivePart S → Type 0
  IsPlaced d =
      (k : DirectiveType S) × (d.declared ≡ Some k) × (is_place k.locations d.location ≡ true)

  -- no two arguments that are given have one name (5.4.2 Argument Uniqueness)
  abbrev pub AreDistinct : GivenPart S → Type 0
  AreDistinct g = IsDistinct bytes_eq (map (λ a. a.0.item) g.given)

  -- each argument that is given is declared, where the field or the directive is known (5.4.1
  -- Argument Names)
  abbrev pub AreDeclared : GivenPart S → Type 0
  AreDeclared g = ForSome g.declared (λ declared. (a : Argument S) → Contains g.given a
      → IsSome (argument_named declared a.0.item))

  -- each argument that has to be given is given, where the field or the directive is known (5.4.2.1
  -- Required Arguments)
  abbrev pub AreProvided : GivenPart S → Type 0
  AreProvided g = ForSome g.declared (λ declared. (a : Declared S) → Contains declared a
      → is_optional a ≡ false → is_one_of (map (λ b. b.0.item) g.given) a.name ≡ true)

module _ {S C : Type 0} (scalars : Scalars S C) where
  -- the value of each argument that is declared conforms to the type that is declared
  abbrev pub ArgumentsFit : List (MetaType S C) → GivenPart S → Type 0
  ArgumentsFit types g = ForSome g.declared (λ declared. (a : Argument S) → Contains g.given a
      → ForSome (argument_named declared a.0.item)
      (λ d. LiteralConforms scalars types (asked_argument a d)))

  -- the default, where there is one and the variable's type is known, conforms to that type
  abbrev pub DefaultFits : Declarations S C → VariablePart S → Type 0
  DefaultFits schema v = IsSome (known schema v.type_of.item.name)
      → ForSome v.default
      (λ default. LiteralConforms scalars schema.types (asked_default v default))

-- What holds of a document that keeps all rules for documents but the one that fields merge
-- (GraphQL October 2021, 5 Validation).
use Rattle.std.specs.Prelude.{◌≡◌, ◌⊎◌, false, true, not, List, length, map, None, IfSome}
use Rattle.std.specs.List.{All, Contains, IsDistinct, filter_map, flat_map}
use Rattle.std.specs.Option.{ForSome, IsSome}
use Rattle.std.specs.Str.{bytes_eq}
use Rattle.graphql_names.specs.Names.{Bytes, named}
use Rattle.graphql_tree.specs.Definitions.{fragment_named}
use Rattle.graphql_schema.specs.Scalars.{Scalars}
use Rattle.graphql_schema.specs.declared.meta.MetaType.{MetaType}
use Rattle.graphql_schema.specs.Faults.{is_composite}
use Rattle.graphql_occurrences.specs.Lookups.{known}
use Rattle.graphql_occurrences.specs.Parts.{
  InlinePart,
  SpreadPart,
  Use,
  VariablePart,
  AField,
  ADirective,
  AnInline,
  ASpread,
  Condition,
  Given,
  ObjectOf,
  VariableDefined,
}
use Rattle.graphql_rules_document.specs.Reached.{IsReached}
use Rattle.graphql_rules_document.specs.Scopes.{FragmentScope, OperationScope}
use Rattle.graphql_visitors.specs.Subjects.{Subject}
use Rattle.graphql_rules_document.specs.VariablesInAllowedPosition.{is_allowed}
use Rattle.graphql_rules.specs.Laws.{AreDeclared, AreDistinct, AreProvided, EachOf, IsKnownAs}
use Rattle.graphql_rules.specs.Laws.{IsPlaced, IsSelected, MayApply}
use Rattle.graphql_rules.specs.Laws.{ArgumentsFit, DefaultFits}
use Rattle.graphql_validation.specs.FirstStage.{parts, scopes}

-- a use of a variable in an operation, or in a fragment that it reaches
abbrev pub IsUseIn : {S : Type 0} → List FragmentScope → OperationScope S → Use → Type 0
IsUseIn fragments o u =
    Contains o.uses u ⊎ ((f : FragmentScope)
    × Contains fragments f
    × IsReached fragments o.spreads f.name
    × Contains f.uses u)

-- the operation defines a variable of this name
abbrev pub IsDefined : {S : Type 0} → OperationScope S → Use → Type 0
IsDefined o u = Contains (map (λ v. v.name.item) o.defined) u.name

module _ {S C : Type 0} (subject : Subject S C) where
  abbrev pub operations : List (OperationScope S)
  operations = (scopes subject).operations

  abbrev pub fragments : List FragmentScope
  fragments = (scopes subject).fragments

  -- of each operation and each use of a variable in it, or in a fragment that it reaches
  abbrev pub EachUse : (OperationScope S → Use → Type 0) → Type 0
  EachUse Fact = All (λ o. (u : Use) → IsUseIn fragments o u → Fact o u) operations

  -- the operation uses the variable
  abbrev pub IsUsed : OperationScope S → VariablePart S → Type 0
  IsUsed o v = (u : Use) × IsUseIn fragments o u × (u.name ≡ v.name.item)

  -- the variable that is defined is allowed where it is used, where the type that is asked for
  -- there is known
  abbrev pub IsAllowed : OperationScope S → Use → Type 0
  IsAllowed o u =
      IfSome (named (λ v. v.name.item) o.defined u.name)
      (λ v. IfSome u.at (λ p. is_allowed subject.schema.types v p ≡ true))

  -- operations and fragments
  pub record ScopesKeepTheRules : Type 0 where
    -- 5.2.1.1 Operation Name Uniqueness
    pub operation_names : IsDistinct bytes_eq (filter_map (λ o. o.name) operations)
    -- 5.2.2.1 Lone Anonymous Operation
    pub anonymous_alone : All (λ o. o.name ≡ None → length operations ≡ 1) operations
    -- 5.5.1.1 Fragment Name Uniqueness
    pub fragment_names : IsDistinct bytes_eq (map (λ f. f.name) fragments)
    -- 5.5.1.4 Fragments Must Be Used
    pub fragments_reached : All
        (λ f. IsReached fragments (flat_map (λ o. o.spreads) operations) f.name) fragments
    -- 5.5.2.2 Fragment Spreads Must Not Form Cycles
    pub no_cycles : All (λ f. IsReached fragments f.spreads f.name → ⊥) fragments
    -- 5.8.1 Variable Uniqueness
    pub variable_names : All (λ o. IsDistinct bytes_eq (map (λ v. v.name.item) o.defined))
        operations
    -- 5.8.3 All Variable Uses Defined
    pub uses_defined : EachUse IsDefined
    -- 5.8.4 All Variables Used
    pub variables_used : All (λ o. All (IsUsed o) o.defined) operations
    -- 5.8.5 All Variable Usages Are Allowed
    pub uses_allowed : EachUse IsAllowed

  -- of the type of a name, where it is known
  abbrev pub OfType : Bytes → (MetaType S C → Type 0) → Type 0
  OfType name = ForSome (known subject.schema name)

  -- the fragment that is spread may apply there
  abbrev pub MaySpread : SpreadPart S C → Type 0
  MaySpread s =
      ForSome (fragment_named subject.document s.name.item)
      (λ f. MayApply subject.schema s.parent f.item.type_condition.item)

  -- the inline fragment may apply there
  abbrev pub MayStandInline : InlinePart S C → Type 0
  MayStandInline i = ForSome i.condition (λ name. MayApply subject.schema i.parent name.item)

  -- what stands in them, but for values
  pub record PartsKeepTheRules : Type 0 where
    -- 5.3.1 Field Selections
    pub fields_declared : EachOf AField (λ f. IsSome f.declared) (parts subject)
    -- 5.3.3 Leaf Field Selections
    pub sets_fit : EachOf AField (IsSelected subject.schema) (parts subject)
    -- 5.4.1 Argument Names
    pub arguments_declared : EachOf Given AreDeclared (parts subject)
    -- 5.4.2 Argument Uniqueness
    pub arguments_distinct : EachOf Given AreDistinct (parts subject)
    -- 5.4.2.1 Required Arguments
    pub arguments_provided : EachOf Given AreProvided (parts subject)
    -- 5.5.1.2 Fragment Spread Type Existence
    pub conditions_known : EachOf Condition (λ name. IsSome (known subject.schema name.item))
        (parts subject)
    -- 5.5.1.3 Fragments On Composite Types
    pub conditions_composite : EachOf Condition
        (λ name. OfType name.item (λ m. is_composite m ≡ true)) (parts subject)
    -- 5.5.2.1 Fragment Spread Target Defined
    pub spreads_known : EachOf ASpread (λ s. IsSome (fragment_named subject.document s.name.item))
        (parts subject)
    -- 5.5.2.3 Fragment Spread Is Possible
    pub spreads_possible : EachOf ASpread MaySpread (parts subject)
    pub inlines_possible : EachOf AnInline MayStandInline (parts subject)
    -- 5.7.1 Directives Are Defined, 5.7.2 Directives Are In Valid Locations
    pub directives_placed : EachOf ADirective IsPlaced (parts subject)
    -- 5.8.2 Variables Are Input Types
    pub variable_types_known : EachOf VariableDefined
        (λ v. IsSome (known subject.schema v.type_of.item.name)) (parts subject)
    pub variable_types_input : EachOf VariableDefined
        (λ v. OfType v.type_of.item.name (λ m. is_composite m ≡ false)) (parts subject)

  -- the type of each variable is known and no composite one, that of each condition known and
  -- composite
  abbrev pub TypesAreOfTheirKinds : Type 0
  TypesAreOfTheirKinds =
      EachOf VariableDefined (λ v.
      IsKnownAs subject.schema (λ m. not (is_composite m)) v.type_of.item.name) (parts subject)
      × EachOf Condition (λ name. IsKnownAs subject.schema is_composite name.item) (parts subject)

module _ {S C : Type 0} (scalars : Scalars S C) (subject : Subject S C) where
  pub record ValuesKeepTheRules : Type 0 where
    -- 5.6.1 Values of Correct Type
    pub arguments_fit : EachOf Given (ArgumentsFit scalars subject.schema.types)
        (parts subject)
    pub defaults_fit : EachOf VariableDefined (DefaultFits scalars subject.schema)
        (parts subject)
    -- 5.6.3 Input Object Field Uniqueness
    pub input_fields_distinct : EachOf ObjectOf
        (λ names. IsDistinct bytes_eq (map (λ n. n.item) names)) (parts subject)

  pub record KeepsTheRules : Type 0 where
    pub scopes_keep : ScopesKeepTheRules subject
    pub parts_keep : PartsKeepTheRules subject
    pub values_keep : ValuesKeepTheRules

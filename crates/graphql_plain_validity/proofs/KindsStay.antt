-- What holds of each part of a kind in a document holds of each in its plain document.
use Rattle.std.proofs.Common.{◌≡◌, List, inl, inr, Bool, map}
use Rattle.std.specs.List.{Contains}
use Rattle.graphql_scalars.specs.ScalarAnswers.{ScalarAnswer}
use Rattle.graphql_values.specs.InputValues.{Placed}
use Rattle.graphql_names.specs.Names.{Bytes}
use Rattle.graphql_tree.specs.Unlocated.{unlocated_name}
use Rattle.graphql_tree.specs.declared.document.Definition.{Definition}
use Rattle.graphql_schema.specs.declared.directive_location.DirectiveLocation.TheVariants as location
use Rattle.graphql_schema.specs.Declarations.{Declarations}
use Rattle.graphql_occurrences.specs.Occurrences.{occurrences}
use Rattle.graphql_occurrences.specs.Parts.{Part, VariablePart, FieldPart, DirectivePart, GivenPart, VariableDefined, Condition, AField, ADirective, Given, ObjectOf}
use Rattle.graphql_occurrences.specs.Unlocated.{unlocated_variable_part}
use Rattle.graphql_rules.specs.Laws.{EachOf}
use Rattle.graphql_plain_validity.specs.PlainRequests.{IsPlainDocument}
use Rattle.graphql_plain_validity.specs.StemmingParts.{Reaches, Stems, skip_at, skip_given}
use Rattle.graphql_plain_validity.specs.PartKinds.{IsReachedAs, unplaced_directive, unplaced_field, unplaced_given}
use Rattle.graphql_plain_validity.proofs.PartKinds.{condition-stems, directive-stems, field-stems, given-stems, object-stems, variable-stems}
use Rattle.graphql_plain_validity.proofs.PlainDocumentParts.{plain-parts-stem}
use Rattle.graphql_plain_validity.proofs.ReachedParts.{reached-parts-occur}

-- the fact does not see places
abbrev pub Respects : {X Y : Type 0} → (X → Y) → (X → Type 0) → Type 0
Respects {X} see Fact = (a b : X) → see b ≡ see a → Fact a → Fact b

module _ {S C : Type 0} (answer : S → ScalarAnswer) (of_bool : Bool → S) (schema : Declarations S C)
    (document again : List (Definition S))
    (is : IsPlainDocument answer of_bool document again) where
  abbrev old : List (Part S C)
  old = occurrences schema document

  abbrev new : List (Part S C)
  new = occurrences schema again

  pub stems : (z : Part S C) → Contains new z → Stems schema document is.operation of_bool z
  stems = plain-parts-stem S C answer of_bool schema document again is

  pub occurs : (x : Part S C) → Reaches schema document is.operation x → Contains old x
  occurs = reached-parts-occur schema document is.operation is.among

  module _ {X Y : Type 0} (kind : X → Part S C) (see : X → Y) (Fact : X → Type 0)
      (respects : Respects see Fact) where
    one : EachOf kind Fact old → (b : X) → IsReachedAs schema document is.operation kind see b
        → Fact b
    one facts b r = respects r.0 b r.2 (facts r.0 (occurs (kind r.0) r.1))

    each : ((b : X) → Stems schema document is.operation of_bool (kind b) → IsReachedAs schema document is.operation kind see b)
        → EachOf kind Fact old → EachOf kind Fact new
    each stem facts b i = one facts b (stem b (stems (kind b) i))

  pub fields-stay : (Fact : FieldPart S C → Type 0) → Respects unplaced_field Fact
      → EachOf AField Fact old → EachOf AField Fact new
  fields-stay Fact respects =
      each AField unplaced_field Fact respects (field-stems schema document is.operation of_bool)

  pub conditions-stay : (Fact : Placed Bytes → Type 0) → Respects unlocated_name Fact
      → EachOf Condition Fact old → EachOf Condition Fact new
  conditions-stay Fact respects =
      each Condition unlocated_name Fact respects
      (condition-stems schema document is.operation of_bool)

  pub objects-stay : (Fact : List (Placed Bytes) → Type 0) → Respects (map unlocated_name) Fact
      → EachOf ObjectOf Fact old → EachOf ObjectOf Fact new
  objects-stay Fact respects =
      each ObjectOf (map unlocated_name) Fact respects
      (object-stems schema document is.operation of_bool)

  pub variables-stay : (Fact : VariablePart S → Type 0) → Respects unlocated_variable_part Fact
      → EachOf VariableDefined Fact old → EachOf VariableDefined Fact new
  variables-stay Fact respects =
      each VariableDefined unlocated_variable_part Fact respects
      (variable-stems schema document is.operation of_bool)

  -- and of what the directive of a stand-in is given
  pub givens-stay : (Fact : GivenPart S → Type 0) → Respects unplaced_given Fact
      → Fact (skip_given schema of_bool) → EachOf Given Fact old → EachOf Given Fact new
  givens-stay Fact respects skip facts g i =
      elim (given-stems schema document is.operation of_bool g (stems (Given g) i)) [
        | inl r ↦ one Given unplaced_given Fact respects facts g r
        | inr e ↦ respects (skip_given schema of_bool) g e skip
      ]

  -- of directives those of stand-ins alone are left
  pub directives-are : (Fact : DirectivePart S → Type 0) → Respects unplaced_directive Fact
      → Fact (skip_at schema location.Field) → Fact (skip_at schema location.InlineFragment)
      → EachOf ADirective Fact new
  directives-are Fact respects at_field at_inline d i =
      elim (directive-stems schema document is.operation of_bool d (stems (ADirective d) i)) [
        | inl e ↦ respects (skip_at schema location.Field) d e at_field
        | inr e ↦ respects (skip_at schema location.InlineFragment) d e at_inline
      ]

-- What the parts of a plain document are of its request, kind by kind (GraphQL October 2021, 5
-- Validation).
use Rattle.std.specs.Prelude.{◌≡◌, ◌⊎◌, Bool, List, map}
use Rattle.std.specs.List.{Contains}
use Rattle.std.specs.Option.{option_map}
use Rattle.graphql_names.specs.Names.{Bytes}
use Rattle.graphql_text.specs.Position.{origin}
use Rattle.graphql_values.specs.InputValues.{Placed}
use Rattle.graphql_tree.specs.Unlocated.{unlocated_argument, unlocated_name}
use Rattle.graphql_tree.specs.declared.document.Definition.{Definition}
use Rattle.graphql_tree.specs.declared.document.Operation.{Operation}
use Rattle.graphql_schema.specs.declared.directive_location.DirectiveLocation.TheVariants as
    location
use Rattle.graphql_schema.specs.Declarations.{Declarations}
use Rattle.graphql_occurrences.specs.Parts.{Part, VariablePart, FieldPart, InlinePart, SpreadPart}
use Rattle.graphql_occurrences.specs.Parts.{DirectivePart, GivenPart, Use, VariableDefined}
use Rattle.graphql_occurrences.specs.Parts.{Condition, AField, ASpread, AnInline, ADirective, Given}
use Rattle.graphql_occurrences.specs.Parts.{ObjectOf, VariableUsed}
use Rattle.graphql_occurrences.specs.Unlocated.{unlocated_variable_part}
use Rattle.graphql_plain_validity.specs.StemmingParts.{Reaches, StandsForSpread, skip_at}
use Rattle.graphql_plain_validity.specs.StemmingParts.{skip_given}

module _ {S : Type 0} where
  -- what is said of a part of each kind, its places aside
  abbrev pub unplaced_directive : DirectivePart S → DirectivePart S
  unplaced_directive d = record d { place = origin }

  abbrev pub unplaced_given : GivenPart S → GivenPart S
  unplaced_given g = record g { given = map unlocated_argument g.given; place = origin }

abbrev pub unplaced_use : Use → Use
unplaced_use u = record u { place = origin }

module _ {S C : Type 0} where
  abbrev pub unplaced_field : FieldPart S C → FieldPart S C
  unplaced_field f = record f { place = origin }

  abbrev pub unplaced_inline : InlinePart S C → InlinePart S C
  unplaced_inline i = record i { condition = option_map unlocated_name i.condition; place = origin }

-- of an operation of a document
module _ {S C : Type 0} (schema : Declarations S C) (document : List (Definition S))
    (o : Placed (Operation S)) where
  -- the operation reaches a part of this kind that is the same, places aside
  abbrev pub IsReachedAs : {X Y : Type 0} → (X → Part S C) → (X → Y) → X → Type 0
  IsReachedAs {X} kind see a = (b : X) × Reaches schema document o (kind b) × (see a ≡ see b)

  -- or it is the inline fragment that stands for a spread that the operation reaches
  abbrev pub IsInlineOf : InlinePart S C → Type 0
  IsInlineOf i =
      IsReachedAs AnInline unplaced_inline i
      ⊎ ((j : InlinePart S C)
      × StandsForSpread schema document o j
      × (unplaced_inline i ≡ unplaced_inline j))

  -- it is the directive of a stand-in, at a field or an inline fragment
  abbrev pub IsStandIns : DirectivePart S → Type 0
  IsStandIns d =
      (unplaced_directive d ≡ skip_at schema location.Field)
      ⊎ (unplaced_directive d ≡ skip_at schema location.InlineFragment)

  module _ (of_bool : Bool → S) where
    -- the operation reaches what is given, places aside, or it is what that directive is given
    abbrev pub IsGivenOf : GivenPart S → Type 0
    IsGivenOf g =
        IsReachedAs Given unplaced_given g
        ⊎ (unplaced_given g ≡ unplaced_given (skip_given schema of_bool))

    -- these parts are of the request, each by its kind; there is no spread among them, and no
    -- directive but those of stand-ins
    pub record KindsStem (parts : List (Part S C)) : Type 0 where
      pub variables : (v : VariablePart S) → Contains parts (VariableDefined v)
          → IsReachedAs VariableDefined unlocated_variable_part v
      pub conditions : (n : Placed Bytes) → Contains parts (Condition n)
          → IsReachedAs Condition unlocated_name n
      pub fields : (f : FieldPart S C) → Contains parts (AField f)
          → IsReachedAs AField unplaced_field f
      pub no_spreads : (s : SpreadPart S C) → Contains parts (ASpread s) → ⊥
      pub inlines : (i : InlinePart S C) → Contains parts (AnInline i) → IsInlineOf i
      pub directives : (d : DirectivePart S) → Contains parts (ADirective d) → IsStandIns d
      pub givens : (g : GivenPart S) → Contains parts (Given g) → IsGivenOf g
      pub objects : (ns : List (Placed Bytes)) → Contains parts (ObjectOf ns)
          → IsReachedAs ObjectOf (map unlocated_name) ns
      pub uses : (u : Use) → Contains parts (VariableUsed u)
          → IsReachedAs VariableUsed unplaced_use u

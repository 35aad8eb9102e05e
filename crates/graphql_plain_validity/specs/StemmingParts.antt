-- What the parts of a plain document are of its request (GraphQL October 2021, 2.8 Fragments,
-- 3.13.1 @skip, 5 Validation).
use Rattle.std.specs.Prelude.{◌≡◌, ◌⊎◌, Bool, true, false, List, [], ◌∷◌, Some, codes}
use Rattle.std.specs.List.{Contains}
use Rattle.graphql_text.specs.Position.{origin}
use Rattle.graphql_values.specs.InputValues.{Placed, unplaced}
use Rattle.graphql_values.specs.declared.input_value.InputValue.TheVariants as value
use Rattle.graphql_tree.specs.Definitions.{fragments_listed, fragments_of}
use Rattle.graphql_tree.specs.declared.document.Definition.{Definition}
use Rattle.graphql_tree.specs.declared.document.Fragment.{Fragment}
use Rattle.graphql_tree.specs.declared.document.Operation.{Operation}
use Rattle.graphql_schema.specs.declared.directive_location.DirectiveLocation.{DirectiveLocation}
use Rattle.graphql_schema.specs.declared.directive_location.DirectiveLocation.TheVariants as
    location
use Rattle.graphql_schema.specs.Declarations.{Declarations}
use Rattle.graphql_occurrences.specs.DeclaredLookups.{directive_arguments, directive_named}
use Rattle.graphql_occurrences.specs.Occurrences.{fragment_parts, operation_parts}
use Rattle.graphql_occurrences.specs.Parts.{Part, DirectivePart, GivenPart, InlinePart, SpreadPart}
use Rattle.graphql_occurrences.specs.Parts.{AnInline, ADirective, ASpread, Given}
use Rattle.graphql_occurrences.specs.Unlocated.{unlocated_part}
use Rattle.graphql_rules_document.specs.Reached.{IsReached}
use Rattle.graphql_rules_document.specs.Scopes.{fragment_scopes, operation_scope}
use Rattle.graphql_written_out.specs.Written.{fragment_meant}

module _ {S C : Type 0} where
  -- spreads and directives, of which a plain document has none but the directives of stand-ins
  abbrev pub goes_away : Part S C → Bool
  goes_away (ASpread s) = true
  goes_away (ADirective d) = true
  goes_away _ = false

  -- the inline fragment that stands for a spread of this fragment
  abbrev pub inline_for : SpreadPart S C → Fragment S → InlinePart S C
  inline_for s f = record {
    condition = Some (unplaced f.type_condition.item);
    place = origin;
    parent = s.parent;
  }

module _ {S C : Type 0} (schema : Declarations S C) where
  -- the directive of a stand-in
  abbrev pub skip_at : DirectiveLocation → DirectivePart S
  skip_at at = record {
    name = codes "skip";
    place = origin;
    location = at;
    declared = directive_named schema.directives (codes "skip");
  }

  -- what it is given: `if: true`
  abbrev pub skip_given : (Bool → S) → GivenPart S
  skip_given of_bool = record {
    place = origin;
    given = (unplaced (codes "if"), unplaced (value.Scalar (of_bool true))) ∷ [];
    declared = directive_arguments (directive_named schema.directives (codes "skip"));
  }

-- of an operation of a document
module _ {S C : Type 0} (schema : Declarations S C) (document : List (Definition S))
    (o : Placed (Operation S)) where
  -- a part of a fragment that the operation reaches
  pub record InReachedFragment (x : Part S C) : Type 0 where
    pub fragment : Placed (Fragment S)
    pub among : Contains (fragments_of document) fragment
    pub reached : IsReached (fragment_scopes schema document) (operation_scope schema o).spreads
        fragment.item.name.item
    pub there : Contains (fragment_parts schema fragment.item) x

  -- a part of the operation, or of such a fragment
  abbrev pub Reaches : Part S C → Type 0
  Reaches x = Contains (operation_parts schema o.item) x ⊎ InReachedFragment x

  -- it stands for a spread that the operation reaches
  pub record StandsForSpread (i : InlinePart S C) : Type 0 where
    pub spread : SpreadPart S C
    pub fragment : Fragment S
    pub reached : Reaches (ASpread spread)
    pub meant : fragment_meant (fragments_listed document) spread.name.item ≡ Some fragment
    pub is : i ≡ inline_for spread fragment

  module _ (of_bool : Bool → S) where
    -- what plain documents have beside: inline fragments for spreads, and directives of stand-ins,
    -- at fields and inline fragments
    abbrev pub IsMade : Part S C → Type 0
    IsMade (AnInline i) = StandsForSpread i
    IsMade (ADirective d) =
        (d ≡ skip_at schema location.Field) ⊎ (d ≡ skip_at schema location.InlineFragment)
    IsMade (Given g) = g ≡ skip_given schema of_bool
    IsMade _ = ⊥

    -- places aside it is a part that the operation reaches and that stays, or one that is made
    pub record Stems (z : Part S C) : Type 0 where
      pub part : Part S C
      pub same : unlocated_part z ≡ unlocated_part part
      pub source : (Reaches part × (goes_away part ≡ false)) ⊎ IsMade part

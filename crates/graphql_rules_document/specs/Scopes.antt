-- What the operations and the fragments of a document hold: the variables that they define and use,
-- and the fragments that they spread (GraphQL October 2021, 2.3 Operations, 2.8 Fragments, 2.10
-- Variables).
use Rattle.std.specs.Prelude.{List, [], ◌∷◌, Option, map}
use Rattle.std.specs.List.{flat_map}
use Rattle.std.specs.Option.{option_map}
use Rattle.graphql_text.specs.declared.position.SourcePosition.{SourcePosition}
use Rattle.graphql_names.specs.Names.{Bytes}
use Rattle.graphql_values.specs.InputValues.{Placed}
use Rattle.graphql_tree.specs.declared.document.Definition.{Definition}
use Rattle.graphql_tree.specs.declared.document.Fragment.{Fragment}
use Rattle.graphql_tree.specs.declared.document.Operation.{Operation}
use Rattle.graphql_schema.specs.Declarations.{Declarations}
use Rattle.graphql_tree.specs.Documents.{variables_in}
use Rattle.graphql_occurrences.specs.Occurrences.{variable_part, operation_parts, fragment_parts}
use Rattle.graphql_occurrences.specs.Parts.{Part, ASpread, Use, VariablePart, VariableUsed}
use Rattle.graphql_tree.specs.Definitions.{operations_of, fragments_of}

-- a fragment where it is spread, from the dots on
pub record Spread : Type 0 where
  pub name : Bytes
  pub place : SourcePosition

-- what an operation holds
pub record OperationScope (S : Type 0) : Type 0 where
  pub name : Option Bytes
  pub place : SourcePosition
  pub defined : List (VariablePart S)
  pub uses : List Use
  pub spreads : List Spread

-- what a fragment holds
pub record FragmentScope : Type 0 where
  pub name : Bytes
  pub place : SourcePosition
  pub uses : List Use
  pub spreads : List Spread

pub record Scopes (S : Type 0) : Type 0 where
  pub operations : List (OperationScope S)
  pub fragments : List FragmentScope

module _ {S C : Type 0} where
  abbrev pub use_at : Part S C → List Use
  use_at (VariableUsed u) = u ∷ []
  use_at _ = []

  abbrev pub spread_at : Part S C → List Spread
  spread_at (ASpread s) = record { name = s.name.item; place = s.place } ∷ []
  spread_at _ = []

module _ {S C : Type 0} (schema : Declarations S C) where
  -- the scope of an operation
  abbrev pub operation_scope : Placed (Operation S) → OperationScope S
  operation_scope o =
      let parts = operation_parts schema o.item in
      record {
        name = option_map (λ n. n.item) o.item.name;
        place = o.span.start;
        defined = map variable_part (variables_in o.item.variable_definitions);
        uses = flat_map use_at parts;
        spreads = flat_map spread_at parts;
      }

  abbrev pub fragment_scope : Placed (Fragment S) → FragmentScope
  fragment_scope f =
      let parts = fragment_parts schema f.item in
      record {
        name = f.item.name.item;
        place = f.span.start;
        uses = flat_map use_at parts;
        spreads = flat_map spread_at parts;
      }

  -- the scopes of a document's operations, in order
  abbrev pub operation_scopes : List (Definition S) → List (OperationScope S)
  operation_scopes document = map operation_scope (operations_of document)

  -- the scopes of a document's fragments, in order
  abbrev pub fragment_scopes : List (Definition S) → List FragmentScope
  fragment_scopes document = map fragment_scope (fragments_of document)

  -- those of a whole document, each in order
  abbrev pub scopes_in : List (Definition S) → Scopes S
  scopes_in document =
      record { operations = operation_scopes document; fragments = fragment_scopes document }

-- The definitions of a document (GraphQL October 2021, 2.2 Document).
use Rattle.std.specs.Prelude.{List, [], ◌∷◌, map, Option}
use Rattle.std.specs.List.{flat_map}
use Rattle.graphql_names.specs.Names.{Bytes, named}
use Rattle.graphql_values.specs.InputValues.{Placed}
use Rattle.graphql_tree.specs.declared.document.Definition.{Definition}
use Rattle.graphql_tree.specs.declared.document.Definition.TheVariants as definition
use Rattle.graphql_tree.specs.declared.document.Fragment.{Fragment}
use Rattle.graphql_tree.specs.declared.document.Operation.{Operation}

module _ {S : Type 0} where
  abbrev pub operation_in : Definition S → List (Placed (Operation S))
  operation_in (definition.Operation o) = o ∷ []
  operation_in (definition.Fragment f) = []

  abbrev pub fragment_in : Definition S → List (Placed (Fragment S))
  fragment_in (definition.Operation o) = []
  fragment_in (definition.Fragment f) = f ∷ []

  -- the operations, in order
  abbrev pub operations_of : List (Definition S) → List (Placed (Operation S))
  operations_of = flat_map operation_in

  -- the fragments, in order
  abbrev pub fragments_of : List (Definition S) → List (Placed (Fragment S))
  fragments_of = flat_map fragment_in

  -- the fragments without their places, in order
  abbrev pub fragments_listed : List (Definition S) → List (Fragment S)
  fragments_listed document = map (λ f. f.item) (fragments_of document)

  -- the fragment that a spread means: the first of its name (5.5.2.1 Fragment Spread Target
  -- Defined)
  abbrev pub fragment_named : List (Definition S) → Bytes → Option (Placed (Fragment S))
  fragment_named document = named (λ f. f.item.name.item) (fragments_of document)

-- The selection sets of a document (GraphQL October 2021, 2.4 Selection Sets), fragments written
-- out.
use Rattle.std.specs.Prelude.{List, [], ◌∷◌, ◌++◌, map}
use Rattle.std.specs.List.{flat_map}
use Rattle.std.specs.Option.{option_and_then}
use Rattle.graphql_names.specs.Names.{Bytes}
use Rattle.graphql_tree.specs.Definitions.{fragments_listed}
use Rattle.graphql_tree.specs.declared.document.Fragment.{Fragment}
use Rattle.graphql_tree.specs.declared.document.Definition.{Definition}
use Rattle.graphql_tree.specs.declared.document.Definition.TheVariants as definition
use Rattle.graphql_schema.specs.declared.meta.MetaType.{MetaType}
use Rattle.graphql_schema.specs.Declarations.{Declarations}
use Rattle.graphql_schema.specs.Lookups.{type_named}
use Rattle.graphql_occurrences.specs.DeclaredLookups.{root_of}
use Rattle.graphql_written_out.specs.Trees.{Tree, none, field, inline}
use Rattle.graphql_written_out.specs.Written.{written}
use Rattle.graphql_merging.specs.Members.{Member, Scope, member, inside, members, scope_of}

-- a set, and the type that it selects from
pub record Set (S C : Type 0) : Type 0 where
  pub scope : Scope S C
  pub tree : Tree S

module _ {S C : Type 0} (types : List (MetaType S C)) where
  -- the fields that stand together in a set
  abbrev pub members_of : Set S C → List (Member S C)
  members_of set = members types set.scope set.tree

  -- the fields that stand directly in a set, and not in a fragment in it
  abbrev pub directs_in : Scope S C → Tree S → List (Member S C)
  directs_in scope none = []
  directs_in scope (field head directives below rest) =
      member scope head below ++ directs_in scope rest
  directs_in scope (inline on directives below rest) = directs_in scope rest

  -- the fields that stand directly in a set
  abbrev pub directs_of : Set S C → List (Member S C)
  directs_of set = directs_in set.scope set.tree

  -- the type that the own set of a field of this name selects from
  abbrev pub scope_of_field : Scope S C → Bytes → Scope S C
  scope_of_field scope name = option_and_then (λ parent. scope_of types parent name) scope

  -- the sets in a set: of its fields and of its fragments
  abbrev pub sets_in : Scope S C → Tree S → List (Set S C)
  sets_in scope none = []
  sets_in scope (field head directives below rest) =
      record { scope = scope_of_field scope head.name; tree = below } ∷ sets_in
      (scope_of_field scope head.name) below ++ sets_in scope rest
  sets_in scope (inline on directives below rest) =
      record { scope = inside types scope on; tree = below } ∷ sets_in (inside types scope on)
      below ++ sets_in scope rest

  -- a set, and the sets in it
  abbrev pub sets_of : Set S C → List (Set S C)
  sets_of set = set ∷ sets_in set.scope set.tree

module _ {S C : Type 0} (schema : Declarations S C) where
  -- the set of an operation or of a fragment, its spreads written out
  abbrev pub set_of : List (Fragment S) → Definition S → Set S C
  set_of fragments (definition.Operation o) = record {
    scope = root_of schema o.item.operation_type;
    tree = written fragments o.item.selection_set;
  }
  set_of fragments (definition.Fragment f) =
      record {
        scope = type_named schema.types f.item.type_condition.item;
        tree = written fragments f.item.selection_set;
      }

  -- those of all definitions of a document, in order
  abbrev pub definition_sets : List (Definition S) → List (Set S C)
  definition_sets document = map (set_of (fragments_listed document)) document

  -- all sets of a document
  abbrev pub document_sets : List (Definition S) → List (Set S C)
  document_sets document = flat_map (sets_of schema.types) (definition_sets document)

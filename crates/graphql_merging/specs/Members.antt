-- The fields of a selection set, each with the type around it, fragments written out (GraphQL
-- October 2021, 5.3.2 Field Selection Merging).
use Rattle.std.specs.Prelude.{List, [], ◌∷◌, ◌++◌, Option, Some, None}
use Rattle.std.specs.Option.{option_and_then}
use Rattle.graphql_names.specs.Names.{Bytes}
use Rattle.graphql_schema.specs.declared.meta.MetaType.{MetaType}
use Rattle.graphql_schema.specs.Types.{TypeOf}
use Rattle.graphql_schema.specs.Lookups.{type_named}
use Rattle.graphql_occurrences.specs.DeclaredLookups.{field_in, field_type}
use Rattle.graphql_written_out.specs.Trees.{Head, Tree, none, field, inline}

-- a field of a set, and the innermost type around it: that of the nearest condition, else that
-- whose set it is
pub record Member (S C : Type 0) : Type 0 where
  pub parent : MetaType S C
  pub head : Head S
  pub below : Tree S

-- the type that a set selects from, where it is known
abbrev pub Scope : Type 0 → Type 0 → Type 0
Scope S C = Option (MetaType S C)

module _ {S C : Type 0} where
  -- the type of a field of this name, where its parent has it
  abbrev pub declared_type : MetaType S C → Bytes → Option TypeOf
  declared_type parent name = field_type (field_in parent name)

  -- the type that a field's parent declares for it
  abbrev pub declared : Member S C → Option TypeOf
  declared m = declared_type m.parent m.head.name

  -- below an unknown type there are no members
  abbrev pub member : Scope S C → Head S → Tree S → List (Member S C)
  member None head below = []
  member (Some parent) head below = record { parent = parent; head = head; below = below } ∷ []

module _ {S C : Type 0} (types : List (MetaType S C)) where
  -- what is selected from in a fragment with this condition, or without one
  abbrev pub inside : Scope S C → Option Bytes → Scope S C
  inside None on = None
  inside (Some parent) None = Some parent
  inside (Some parent) (Some on) = type_named types on

  -- the fields of a set, those of its fragments among them
  abbrev pub members : Scope S C → Tree S → List (Member S C)
  members scope none = []
  members scope (field head directives below rest) = member scope head below ++ members scope rest
  members scope (inline on directives below rest) =
      members (inside scope on) below ++ members scope rest

  -- the type that a field's own set selects from, by the field's parent and name
  abbrev pub scope_of : MetaType S C → Bytes → Scope S C
  scope_of parent name = option_and_then (λ t. type_named types t.name) (declared_type parent name)

  -- the fields of a field's own set
  abbrev pub members_below : Member S C → List (Member S C)
  members_below m = members (scope_of m.parent m.head.name) m.below

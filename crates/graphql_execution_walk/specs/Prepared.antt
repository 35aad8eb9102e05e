-- What is known of fields of an object type, whichever object of it they are asked of (GraphQL
-- October 2021, 6.4.1 Coercing Field Arguments).
use Rattle.std.specs.Prelude.{◌≡◌, ℕ, Bool, true, List, [], Option, Some, None, slice_get}
use Rattle.graphql_names.specs.Names.{Bytes}
use Rattle.graphql_schema.specs.Types.{TypeOf}
use Rattle.graphql_arguments.specs.ArgumentValues.{Given}
use Rattle.graphql_collect.specs.Grouped.{Group}
use Rattle.graphql_collected.specs.declared.collected_field.CollectedField.{CollectedField}
use Rattle.graphql_collected.specs.declared.request.Request.{Request}
use Rattle.graphql_occurrences.specs.DeclaredLent.{literal_of}
use Rattle.graphql_semantics.specs.Engines.{Engine}
use Rattle.graphql_written_out.specs.Trees.{Head}
use Rattle.graphql_written_out.specs.Written.{head_of}
use Rattle.graphql_execution_walk.specs.Engines.{arguments_given}
use Rattle.graphql_execution_walk.specs.FieldDeclarations.{declared_type, is_leaf_named}
use Rattle.graphql_execution_walk.specs.declared.prepared.Prepared.{Prepared}

-- what is asked of the fields of object types, whichever object they are asked of: the declared
-- type, whether a type of a name is a leaf, the values of the arguments
pub record FieldsAsked (S : Type 0) : Type 0 where
  pub declared : Bytes → Bytes → Option TypeOf
  pub is_leaf : Bytes → Bool
  pub arguments : Bytes → Head S → Given S

-- as a request tells it, and as evaluation asks it
abbrev pub asked_in : {S C : Type 0} → Request S C → FieldsAsked S
asked_in request =
    record {
      declared = declared_type request.schema.now.types;
      is_leaf = is_leaf_named request.schema.now.types;
      arguments = arguments_given request;
    }

abbrev pub asked_by : {S N : Type 0} → Engine S N → FieldsAsked S
asked_by e = record { declared = e.declared; is_leaf = e.is_leaf; arguments = e.arguments }

-- of the field of a head: the type that is declared for it, whether that is a leaf, and whether no
-- argument has a value
pub record Prepares {S : Type 0} (asked : FieldsAsked S) (object : Bytes) (head : Head S)
    (p : Prepared) : Type 0 where
  pub type : asked.declared object head.name ≡ Some (literal_of p.declared)
  pub leaf : p.is_leaf ≡ asked.is_leaf p.declared.name.now
  pub bare : p.is_bare ≡ true → asked.arguments object head ≡ []

module _ {S : Type 0} (asked : FieldsAsked S) (object : Bytes) where
  -- of a group: of its first field
  abbrev pub IsPrepared : Group S → Prepared → Type 0
  IsPrepared g p = (x : CollectedField S) → Some x ≡ slice_get g.1 0
      → Prepares asked object (head_of x.field.now) p

  -- of groups, as far as it goes
  abbrev pub ArePrepared : List (Group S) → List Prepared → Type 0
  ArePrepared gs ps = (i : ℕ) (g : Group S) (p : Prepared) → slice_get gs i ≡ Some g
      → slice_get ps i ≡ Some p → IsPrepared g p

-- what is known at a place, from zero
abbrev pub prepared_at : Option (List Prepared) → ℕ → Option Prepared
prepared_at None i = None
prepared_at (Some ps) i = slice_get ps i

-- What evaluation asks of a schema, a request and a resolver.
use Rattle.std.specs.Prelude.{Bool, Option, Result}
use Rattle.graphql_names.specs.Names.{Bytes}
use Rattle.graphql_arguments.specs.ArgumentValues.{Given}
use Rattle.graphql_schema.specs.Types.{TypeOf}
use Rattle.graphql_written_out.specs.Trees.{Directives, Head}
use Rattle.graphql_field_results.specs.declared.field_error.FieldError.{FieldError}
use Rattle.graphql_field_results.specs.declared.resolved.Resolved.{Resolved}

pub record Engine (S N : Type 0) : Type 0 where
  -- which directives leave a selection out
  pub drops : Directives S → Bool
  -- whether an object type is a subtype of a type
  pub is_below : Bytes → Bytes → Bool
  -- the type of an object type's field
  pub declared : Bytes → Bytes → Option TypeOf
  -- whether a type is a scalar or an enum
  pub is_leaf : Bytes → Bool
  -- whether at a place of a type an object of an object type can stand
  pub is_possible : Bytes → Bytes → Bool
  -- the argument values of an object type's field
  pub arguments : Bytes → Head S → Given S
  -- the object type of a node
  pub concrete : N → Bytes
  -- what a node of an object type answers for a field
  pub answer : N → Bytes → Bytes → Given S → Result (Resolved S N) (FieldError S)

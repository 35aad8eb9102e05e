-- What a request's selections ask of its schema, its fragments and its variables.
use Rattle.graphql_scalars.specs.ScalarAnswers.{ScalarAnswer}
use Rattle.std.specs.Prelude.{Bool, List}
use Rattle.graphql_written_out.specs.FinalVariables.{value_in}
use Rattle.graphql_values.specs.InputValues.{Placed}
use Rattle.graphql_tree.specs.declared.document.Fragment.{Fragment}
use Rattle.graphql_tree.specs.declared.selection.Field.{Field}
use Rattle.graphql_tree.specs.declared.selection.Selection.{Selection}
use Rattle.graphql_schema.specs.Subtypes.{is_named_subtype}
use Rattle.graphql_collected.specs.declared.request.Request.{Request}
use Rattle.graphql_written_out.specs.Trees.{Directives, Tree}
use Rattle.graphql_names.specs.Names.{Bytes}
use Rattle.graphql_written_out.specs.Conditions.{left_out}
use Rattle.graphql_tree.specs.Definitions.{fragments_listed}
use Rattle.graphql_written_out.specs.Written.{written}
use Rattle.graphql_written_out.specs.Fields.{Found, fields}
use Rattle.graphql_collected.specs.Occurrences.{found_field}

module _ {S C : Type 0} where
  -- which directives leave a selection out, over the final variables
  unfoldable pub drops_in : (S → ScalarAnswer) → Request S C → Directives S → Bool
  drops_in answer request = left_out answer (value_in request.variables)

  -- which types an object type is below
  unfoldable pub is_below_in : Request S C → Bytes → Bytes → Bool
  is_below_in request object on = is_named_subtype request.schema.now.types object on

  -- the fragments of a request's document
  abbrev pub fragments_in : Request S C → List (Fragment S)
  fragments_in request = fragments_listed request.fragments.document.now

  -- the fields of a set that apply to an object type and are not left out
  abbrev pub fields_in : (S → ScalarAnswer) → Request S C → Bytes → Tree S → List (Found S)
  fields_in answer request object = fields (drops_in answer request) (is_below_in request object)

  -- a set with the fragments of a request written out
  abbrev pub written_in : Request S C → List (Selection S) → Tree S
  written_in request = written (fragments_in request)

  abbrev pub found_at : Request S C → Placed (Field S) → Found S
  found_at request = found_field (fragments_in request)

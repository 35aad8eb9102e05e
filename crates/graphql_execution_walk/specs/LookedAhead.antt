-- What is looked at where an executor stands: the field that is answered (GraphQL October 2021, 2.5
-- Fields, 6.4 Executing Fields).
use Rattle.std.specs.Prelude.{◌≡◌, Option, Some, None}
use Rattle.std.specs.List.{Contains}
use Rattle.std.specs.Option.{option_map}
use Rattle.graphql_names.specs.Names.{Bytes}
use Rattle.graphql_values.specs.InputValues.{Placed}
use Rattle.graphql_tree.specs.declared.selection.Field.{Field}
use Rattle.graphql_tree.specs.declared.selection.Selection.TheVariants as selection
use Rattle.graphql_written_out.specs.Written.{head_of}
use Rattle.graphql_collected.specs.declared.request.Request.{Request}
use Rattle.graphql_look_ahead.specs.Children.{Ahead, a_field}
use Rattle.graphql_look_ahead.specs.Selections.{field_or_key, first_of_key, none_or, selections_of}
use Rattle.graphql_look_ahead.specs.Told.{document_field, with_request}
use Rattle.graphql_look_ahead.specs.declared.selection.LookAheadSelection.{LookAheadSelection}
use Rattle.graphql_execution_walk.specs.declared.executor.Executor.{Executor}
use Rattle.graphql_execution_walk.specs.FieldPaths.{own_key}
use Rattle.graphql_execution_walk.specs.Standing.{StandsAt}

module _ {S C Context : Type 0} (executor : Executor Context S C) where
  -- the first field of the key of what is answered, where it is looked for; where there is none the
  -- key stands for it, with what the executor selects; nothing where there is no key, at the root
  abbrev pub ahead_of : Bytes → Ahead S
  ahead_of key =
      field_or_key (first_of_key key (none_or executor.among)) key (selections_of executor.selected)

  abbrev pub looked_ahead : Option (Ahead S × Request S C)
  looked_ahead =
      option_map (λ key. with_request executor.request.now (ahead_of key)) (own_key executor.path)

  -- where the executor stands at a field of an object type, a field of its response key is found
  -- that stands in the same list
  pub record IsFieldFound (field : Placed (Field S))
      (found : Option (LookAheadSelection S C)) : Type 0 where
    pub first : Placed (Field S)
    pub is : option_map document_field found ≡ Some (a_field first None)
    pub keyed : (head_of first).key ≡ (head_of field).key
    pub stands : Contains (none_or executor.among) (selection.Field first)

  abbrev pub FindsField : Option (LookAheadSelection S C) → Type 0
  FindsField found = (object : Bytes) (field : Placed (Field S)) → StandsAt executor object field
      → IsFieldFound field found

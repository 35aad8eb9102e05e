-- What is told of a field that is looked at (GraphQL October 2021, 2.5 Fields, 2.7 Field Alias).
use Rattle.std.specs.Prelude.{◌≡◌, Bool, List, [], Option, Some, None}
use Rattle.std.specs.Option.{option_map}
use Rattle.std.specs.Str.{bytes_eq}
use Rattle.graphql_names.specs.Names.{Bytes}
use Rattle.graphql_tree.specs.Arguments.{Argument}
use Rattle.graphql_tree.specs.Documents.{arguments_in}
use Rattle.graphql_tree.specs.declared.selection.Selection.{Selection}
use Rattle.graphql_written_out.specs.Written.{response_key}
use Rattle.graphql_collected.specs.declared.request.Request.{Request}
use Rattle.graphql_look_ahead.specs.Applies.{only_of}
use Rattle.graphql_look_ahead.specs.Children.{Ahead, a_field, a_key}
use Rattle.graphql_look_ahead.specs.Selections.{selections_of, set_below}
use Rattle.graphql_look_ahead.specs.declared.selection.LookAheadSelection.{LookAheadSelection}
use Rattle.graphql_look_ahead.specs.declared.selection.Source.{Source}
use Rattle.graphql_look_ahead.specs.declared.selection.Source.TheVariants as source

abbrev pub told_source : {S : Type 0} → Source S → Option Bytes → Ahead S
told_source (source.Field x) only = a_field x.now only
told_source (source.Key key selected) only = a_key key.now (selections_of selected)

-- a field that is looked at, as it is in its document
abbrev pub document_field : {S C : Type 0} → LookAheadSelection S C → Ahead S
document_field s = told_source s.source (only_of s.applies)

module _ {S : Type 0} where
  -- the field's own name
  abbrev pub original_name : Ahead S → Bytes
  original_name (a_field x only) = x.item.name.item
  original_name (a_key key below) = key

  abbrev pub alias : Ahead S → Option Bytes
  alias (a_field x only) = option_map (λ a. a.item) x.item.alias
  alias (a_key key below) = None

  -- the response key
  abbrev pub key_of : Ahead S → Bytes
  key_of (a_field x only) = response_key x.item.alias x.item.name
  key_of (a_key key below) = key

  -- the type to which it is bound, if to one
  abbrev pub only : Ahead S → Option Bytes
  only (a_field x type) = type
  only (a_key key below) = None

  -- the arguments, as they are written
  abbrev pub written_arguments : Ahead S → List (Argument S)
  written_arguments (a_field x only) = arguments_in x.item.arguments
  written_arguments (a_key key below) = []

  -- what is selected below it
  abbrev pub selected : Ahead S → List (Selection S)
  selected (a_field x only) = set_below x
  selected (a_key key below) = below

module _ {S C : Type 0} where
  -- a field of a request
  abbrev pub with_request : Request S C → Ahead S → Ahead S × Request S C
  with_request request a = (a, request)

  -- the same, with the request of which it is
  abbrev pub looked_at : LookAheadSelection S C → Ahead S × Request S C
  looked_at s = (document_field s, s.request.now)

  -- it is of this request
  abbrev pub IsOfRequest : Request S C → LookAheadSelection S C → Type 0
  IsOfRequest request s = s.request.now ≡ request

  abbrev pub has_key : Bytes → LookAheadSelection S C → Bool
  has_key key s = bytes_eq (key_of (document_field s)) key

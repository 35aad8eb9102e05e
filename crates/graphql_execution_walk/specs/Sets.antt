-- The selection sets that are selected from at once, and the groups of their fields (GraphQL
-- October 2021, 6.3.2 Field Collection, 6.4.3 Value Completion, MergeSelectionSets).
use Rattle.std.specs.Prelude.{◌≡◌, List, [], ◌∷◌, map, Option, Some, None, unwrap_or}
use Rattle.std.specs.Borrow.{Bor}
use Rattle.std.specs.Option.{option_map}
use Rattle.std.specs.List.{All, flat_map}
use Rattle.graphql_scalars.specs.ScalarAnswers.{ScalarAnswer}
use Rattle.graphql_names.specs.Names.{Bytes}
use Rattle.graphql_collected.specs.declared.request.Request.{Request}
use Rattle.graphql_collected.specs.Requests.{fields_in, fragments_in}
use Rattle.graphql_collect.specs.Grouped.{Group, all_found, group_found, key_at}
use Rattle.graphql_semantics.specs.Evaluation.{sets_below}
use Rattle.graphql_written_out.specs.Fields.{Found}
use Rattle.graphql_written_out.specs.Groups.{groups}
use Rattle.graphql_written_out.specs.Repeats.{Repeats}
use Rattle.graphql_written_out.specs.Trees.{Tree}
use Rattle.graphql_written_out.specs.Written.{written}
use Rattle.graphql_tree.specs.declared.document.Fragment.{Fragment}
use Rattle.graphql_tree.specs.declared.selection.Selection.{Selection}
use Rattle.graphql_schema.specs.Types.{TypeOf}
use Rattle.graphql_look_ahead.specs.declared.selected.Selected.{Selected}
use Rattle.graphql_look_ahead.specs.declared.selected.Selected.TheVariants as selected
use Rattle.graphql_execution_walk.specs.declared.selected.KeptSelected.{KeptSelected}
use Rattle.graphql_execution_walk.specs.declared.selected.KeptSelected.TheVariants as kept

module _ {S : Type 0} (fragments : List (Fragment S)) where
  -- the sets that are selected from: one, or those of fields, fragments written out
  abbrev pub sets_of : Selected S → List (Tree S)
  sets_of (selected.Set set) = written fragments set.now ∷ []
  sets_of (selected.Below fields) = sets_below (all_found fragments fields.now)

  abbrev pub kept_sets : KeptSelected S → List (Tree S)
  kept_sets (kept.Set set) = written fragments set.now ∷ []
  kept_sets (kept.Below fields) = sets_below (all_found fragments fields)

-- a set that is given, or nothing to select
abbrev pub set_given : {S : Type 0} → Option (Bor (List (Selection S))) → List (Selection S)
set_given set = unwrap_or (option_map (λ s. s.now) set) []

-- the type of a name that is given, or this one
abbrev pub type_given : Option (Bor Bytes) → TypeOf → TypeOf
type_given (Some name) type = record { name = name.now; modifiers = [] }
type_given None type = type

module _ {S C : Type 0} where
  -- the same, over a request's fragments
  abbrev pub sets_in : Request S C → Selected S → List (Tree S)
  sets_in request = sets_of (fragments_in request)

  -- what the sets select from an object type
  abbrev pub selected_in : (S → ScalarAnswer) → Request S C → List (Tree S) → Bytes → List (Found S)
  selected_in answer request sets object = flat_map (fields_in answer request object) sets

-- each field of a group has the response key of the group
abbrev pub HasKey : {S : Type 0} → Group S → Type 0
HasKey g = All (λ x. key_at x ≡ g.0) g.1

module _ {S : Type 0} (fragments : List (Fragment S)) where
  -- the groups of what is selected, where repeats may be left out
  pub record AreGroups (selected : List (Found S)) (gs : List (Group S)) : Type 0 where
    pub found : List (Found S)
    pub groups : map (group_found fragments) gs ≡ groups found
    pub repeats : Repeats found selected

-- What a selection brings to its set where fragments were entered, and what a walk leaves, in a
-- request.
use Rattle.graphql_scalars.specs.ScalarAnswers.{ScalarAnswer}
use Rattle.std.specs.Prelude.{◌≡◌, ◌⊎◌, ◌<◌, ℕ, true, false, List, [], ◌∷◌, map, Option, Some, None}
use Rattle.std.specs.List.{list_any}
use Rattle.std.specs.Str.{bytes_eq}
use Rattle.graphql_tree.specs.declared.document.Fragment.{Fragment}
use Rattle.graphql_tree.specs.declared.selection.Selection.{Selection}
use Rattle.graphql_tree.specs.declared.selection.Selection.TheVariants as selection
use Rattle.graphql_collected.specs.declared.request.Request.{Request}
use Rattle.graphql_collected.specs.declared.collected_field.CollectedField.{CollectedField}
use Rattle.graphql_written_out.specs.Trees.{Tree, none, height}
use Rattle.graphql_names.specs.Names.{Bytes}
use Rattle.graphql_written_out.specs.Written.{fragment_meant}
use Rattle.graphql_written_out.specs.Fields.{Found}
use Rattle.graphql_collected.specs.Requests.{drops_in, is_below_in, fragments_in, fields_in}
use Rattle.graphql_collected.specs.Requests.{written_in, found_at}
use Rattle.graphql_collect.specs.Grouped.{Lent, all_found}
use Rattle.graphql_collect.specs.declared.collecting.Brought.{Brought}
use Rattle.graphql_collect.specs.declared.collecting.Brought.TheVariants as brought
use Rattle.graphql_collect.specs.Walks.{Walk, Meanings}
use Rattle.graphql_collect.specs.Walked.{Ready, Complete, Walked, WalksAll}
use Rattle.graphql_collect.specs.OpenSets.{Open, rests}

-- a field that is brought is the selection itself
abbrev pub IsItself : {S : Type 0} → Selection S → Brought S → Type 0
IsItself x brought.Nothing = Unit {0}
IsItself x (brought.Field field) = x ≡ selection.Field field.now
IsItself x (brought.Set set) = Unit {0}
IsItself x (brought.Fragment spread set) = Unit {0}

module _ {S C : Type 0} where
  abbrev pub meaning_of : Request S C → Option (Fragment S) → Bytes × Tree S
  meaning_of request None = ([], none)
  meaning_of request (Some f) = (f.type_condition.item, written_in request f.selection_set)

  -- a fragment's type, and its set written out
  unfoldable pub means_in : Request S C → Meanings S
  means_in request name = meaning_of request (fragment_meant (fragments_in request) name)

  -- the set of a field
  abbrev pub below_in : Request S C → CollectedField S → Tree S
  below_in request x = (found_at request x.field.now).below

  abbrev pub state : Request S C → List Bytes → Lent S → Walk S
  state request visited found =
      record { visited = visited; found = all_found (fragments_in request) found }

  -- what is left of open sets, the innermost first
  abbrev pub trees_in : Request S C → Open S → List (Tree S)
  trees_in request sets = map (written_in request) (rests sets)

  module _ (answer : S → ScalarAnswer) (request : Request S C) (object : Bytes) where
    abbrev pub ReadyIn : ℕ → List Bytes → Lent S → Type 0
    ReadyIn h visited found = Ready (drops_in answer request) (is_below_in request object)
        (means_in request) h (state request visited found)

    abbrev pub CompleteIn : List Bytes → Lent S → Type 0
    CompleteIn visited found = Complete (drops_in answer request) (is_below_in request object)
        (means_in request) (state request visited found)

    abbrev pub WalkedIn : List (Found S) → List Bytes → Lent S → List Bytes → Lent S → Type 0
    WalkedIn xs visited found visited_then found_then =
        Walked (drops_in answer request) (is_below_in request object) (means_in request) xs
        (state request visited found) (state request visited_then found_then)

    abbrev pub LeadsIn : List (Found S) → Walk S → List (Tree S) → List Bytes → Lent S → Type 0
    LeadsIn xs start ts visited found = WalksAll (drops_in answer request)
        (is_below_in request object)
        (means_in request) xs start ts (state request visited found)

    -- a step: whatever the walk of these sets led to, that of those does
    abbrev pub Steps : List (Tree S) → List Bytes → Lent S → List (Tree S) → List Bytes → Lent S
        → Type 0
    Steps ts visited found us visited_then found_then =
        (xs : List (Found S)) (start : Walk S) → LeadsIn xs start ts visited found
        → LeadsIn xs start us visited_then found_then

    -- a fragment that was entered brings nothing more
    pub record Entered (visited : List Bytes) (t : Tree S) : Type 0 where
      pub name : Bytes
      pub is_visited : list_any (bytes_eq name) visited ≡ true
      pub applies : is_below_in request object (means_in request name).0 ≡ true
      pub lower : height (means_in request name).1 < height t
      pub same : fields_in answer request object t
          ≡ fields_in answer request object (means_in request name).1

    -- a set that stands for a selection
    pub record Stands (t inner : Tree S) : Type 0 where
      pub same : fields_in answer request object t ≡ fields_in answer request object inner
      pub lower : height inner < height t

    -- a set that stands for the spread of a fragment that was not entered yet
    pub record Enters (visited : List Bytes) (t inner : Tree S) (name : Bytes) : Type 0 where
      pub stands : Stands t inner
      pub means : inner ≡ (means_in request name).1
      pub first : list_any (bytes_eq name) visited ≡ false

    abbrev pub Brings : List Bytes → Tree S → Brought S → Type 0
    Brings visited t brought.Nothing = (fields_in answer request object t ≡ []) ⊎ Entered visited t
    Brings visited t (brought.Field x) =
        fields_in answer request object t ≡ found_at request x.now ∷ []
    Brings visited t (brought.Set set) = Stands t (written_in request set.now)
    Brings visited t (brought.Fragment x set) =
        Enters visited t (written_in request set.now) x.now.item.name.item

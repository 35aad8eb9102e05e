-- The first child of a response key, and what is left to be searched for it.
use Rattle.std.specs.Prelude.{◌≡◌, ◌+◌, ◌<◌, ℕ, Bool, true, List, [], ◌∷◌, map, reverse, Option}
use Rattle.std.specs.Prelude.{Some, None}
use Rattle.std.specs.List.{find, list_any}
use Rattle.std.specs.Option.{option_map}
use Rattle.std.specs.Str.{bytes_eq}
use Rattle.graphql_scalars.specs.ScalarAnswers.{ScalarAnswer}
use Rattle.graphql_names.specs.Names.{Bytes}
use Rattle.graphql_written_out.specs.Trees.{Directives}
use Rattle.graphql_written_out.specs.Written.{fragment_meant}
use Rattle.graphql_tree.specs.declared.document.Fragment.{Fragment}
use Rattle.graphql_tree.specs.declared.selection.Selection.{Selection}
use Rattle.graphql_collected.specs.Requests.{drops_in, fragments_in}
use Rattle.graphql_collected.specs.declared.request.Request.{Request}
use Rattle.graphql_look_ahead.specs.Children.{Ahead, Children}
use Rattle.graphql_look_ahead.specs.Open.{AllHave, OpenSet, open_set, rest_of, turns_of}
use Rattle.graphql_look_ahead.specs.Told.{key_of, looked_at, document_field, with_request}
use Rattle.graphql_look_ahead.specs.declared.selection.LookAheadSelection.{LookAheadSelection}
use Rattle.graphql_look_ahead.specs.declared.searching.Task.{Task}
use Rattle.graphql_look_ahead.specs.declared.searching.Task.TheVariants as task

-- the first of a key
abbrev pub first_child : {S : Type 0} → Bytes → List (Ahead S) → Option (Ahead S)
first_child key cs = find (λ c. bytes_eq (key_of c) key) cs

module _ {S : Type 0} where
  -- the lists that are left to be searched, the innermost first
  abbrev pub lists_left : List (Task S) → List (OpenSet S)
  lists_left [] = []
  lists_left (task.Search o ∷ ts) = open_set o ∷ lists_left ts
  lists_left (task.Searched name ∷ ts) = lists_left ts

  -- the turns that are left
  abbrev pub turns_left : List (Fragment S) → List (Task S) → ℕ
  turns_left fragments [] = 0
  turns_left fragments (task.Search o ∷ ts) =
      turns_of fragments (rest_of o) + turns_left fragments ts
  turns_left fragments (task.Searched name ∷ ts) = 1 + turns_left fragments ts

module _ {S : Type 0} (drops : Directives S → Bool) (fragments : List (Fragment S))
    (key : Bytes) where
  -- no child of the list has the key
  abbrev pub Lacks : List (Selection S) → Type 0
  Lacks set = (only : Option Bytes) (cs : List (Ahead S)) → Children drops fragments only set cs
      → first_child key cs ≡ None

  -- nor of the fragment of this name
  abbrev pub FragmentLacks : Bytes → Type 0
  FragmentLacks name =
      (f : Fragment S) → fragment_meant fragments name ≡ Some f → Lacks f.selection_set

  -- nor of each of these fragments
  abbrev pub AllLack : List Bytes → Type 0
  AllLack searched = (name : Bytes) → list_any (bytes_eq name) searched ≡ true → FragmentLacks name

  -- where the lists before it lack the key, so does each fragment whose search ends
  abbrev pub SearchIsSound : Type 0 → List (Task S) → Type 0
  SearchIsSound before [] = Unit {0}
  SearchIsSound before (task.Search o ∷ ts) = SearchIsSound (before × Lacks (rest_of o)) ts
  SearchIsSound before (task.Searched name ∷ ts) = (before → FragmentLacks name)
      × SearchIsSound before ts

  -- a search over these tasks, where these fragments were searched
  pub record IsSearch (ts : List (Task S)) (searched : List Bytes) : Type 0 where
    pub sound : SearchIsSound (Unit {0}) ts
    pub lack : AllLack searched

  -- whatever the children of what was left are, the first of them is the first of those of what is
  -- left now
  abbrev pub KeepsFirst : List (OpenSet S) → List (OpenSet S) → Type 0
  KeepsFirst before now =
      (ds : List (Ahead S)) → AllHave drops fragments before ds
      → (cs : List (Ahead S))
      × AllHave drops fragments now cs
      × (first_child key ds ≡ first_child key cs)

  -- whatever they are, this is the first of them
  abbrev pub FindsFirst : List (OpenSet S) → Ahead S → Type 0
  FindsFirst before found =
      (ds : List (Ahead S)) → AllHave drops fragments before ds → first_child key ds ≡ Some found

  -- a turn: the child is found, or the search goes on
  pub record GoesOn (before : List (Task S)) (now : List (Task S))
      (searched : List Bytes) : Type 0 where
    pub leads : KeepsFirst (lists_left before) (lists_left now)
    pub search : IsSearch now searched

module _ {S C : Type 0} (answer : S → ScalarAnswer) (request : Request S C) (key : Bytes) where
  -- a turn of a search: the child is found, or the search goes on, nearer to its end
  abbrev pub Turns : List (Task S) → List (Task S) → List Bytes → Option (LookAheadSelection S C)
      → Type 0
  Turns before now searched None =
      GoesOn (drops_in answer request) (fragments_in request) key before now searched
      × (turns_left (fragments_in request) now < turns_left (fragments_in request) before)
  Turns before now searched (Some found) =
      FindsFirst (drops_in answer request) (fragments_in request) key (lists_left before)
      (document_field found)
      × (found.request.now ≡ request)

  -- the first child of the key of a list that is bound to nothing
  abbrev pub IsFirst : List (Selection S) → Option (LookAheadSelection S C) → Type 0
  IsFirst list found =
      (cs : List (Ahead S)) → Children (drops_in answer request) (fragments_in request) None list cs
      → option_map looked_at found ≡ option_map (with_request request) (first_child key cs)

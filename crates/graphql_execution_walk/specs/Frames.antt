-- What the whole gives where the innermost place gives an outcome.
use Rattle.std.specs.List.{All, IsDistinct}
use Rattle.std.specs.Map.{keys_of}
use Rattle.std.specs.Str.{bytes_eq}
use Rattle.std.specs.Prelude.{◌≡◌, IfSome, List, [], ◌∷◌, ◌++◌, map, drop, reverse, Option, Some}
use Rattle.std.specs.Prelude.{None}
use Rattle.graphql_output_values.specs.declared.value.Value.{Value}
use Rattle.graphql_output_values.specs.declared.value.Value.TheVariants as value
use Rattle.graphql_collect.specs.Grouped.{Group, all_found, group_found}
use Rattle.graphql_names.specs.Names.{Bytes}
use Rattle.graphql_execution_walk.specs.declared.frames.Begun.{Begun}
use Rattle.graphql_execution_walk.specs.declared.frames.Begun.TheVariants as begun
use Rattle.graphql_execution_walk.specs.declared.frames.Turned.{Turned}
use Rattle.graphql_execution_walk.specs.declared.frames.Turned.TheVariants as turned
use Rattle.graphql_execution_walk.specs.declared.frames.Frame.{Frame}
use Rattle.graphql_execution_walk.specs.declared.frames.Frame.TheVariants as frame
use Rattle.graphql_execution_walk.specs.declared.frames.ObjectFrame.{ObjectFrame}
use Rattle.graphql_execution_walk.specs.declared.frames.ListFrame.{ListFrame}
use Rattle.graphql_field_results.specs.declared.execution_error.ExecutionError.{ExecutionError}
use Rattle.graphql_execution_walk.specs.declared.report.Report.{Report}
use Rattle.graphql_field_results.specs.declared.resolved.Resolved.{Resolved}
use Rattle.graphql_execution_walk.specs.Evaluations.{Evaluation}
use Rattle.graphql_semantics.specs.Evaluation.{evaluate, group, keyed}
use Rattle.graphql_semantics.specs.Completion.{blame_at, is_required, object_members}
use Rattle.graphql_execution_walk.specs.Completed.{completed_item}
use Rattle.graphql_execution_walk.specs.KnownTypes.{AreKnown, KnownIn}
use Rattle.graphql_execution_walk.specs.Prepared.{ArePrepared, asked_by}
use Rattle.graphql_execution_walk.specs.declared.prepared.Prepared.{Prepared}
use Rattle.graphql_execution_walk.specs.Sets.{HasKey, kept_sets}
use Rattle.graphql_execution_walk.specs.declared.selected.KeptSelected.{KeptSelected}
use Rattle.graphql_semantics.specs.Outcomes.{Outcome, both, together, outcome_map, show_place}

-- frames over a document
abbrev pub ObjectFrameIn : Type 0 → Type 0 → Type 0
ObjectFrameIn S N = ObjectFrame S N (List (Group S)) (List Prepared)

abbrev pub ListFrameIn : Type 0 → Type 0 → Type 0
ListFrameIn S N = ListFrame S N (List (Group S)) (List Prepared) (KeptSelected S)

abbrev pub FrameIn : Type 0 → Type 0 → Type 0
FrameIn S N = Frame S N (List (Group S)) (List Prepared) (KeptSelected S)

module _ {S : Type 0} where
  -- what is told already, and what is given then
  abbrev pub after : {A : Type 0} → List (ExecutionError S) → Outcome S A → Outcome S A
  after told o = record { value = o.value; failures = told ++ o.failures }

  -- a value or nothing, of which all is told
  abbrev pub shows : {A : Type 0} → Option A → Outcome S A
  shows x = record { value = x; failures = [] }

  -- what is left, where these stand before it
  abbrev pub more : {A : Type 0} → (List A → Value S) → Option (List A) → List (Outcome S A)
      → Outcome S (Value S)
  more wrap so_far os =
      outcome_map wrap (record {
        value = both (λ xs ys. xs ++ ys) so_far (together os).value;
        failures = (together os).failures;
      })

-- a step: what it tells is part of what the old outcome tells, and the new one is what is left of
-- it
pub record TellsFirst {S A : Type 0} (before : Outcome S A) (old : Report S) (then : Outcome S A)
    (new : Report S) : Type 0 where
  pub told : List (ExecutionError S)
  pub is : before ≡ after told then
  pub errors : new.errors ≡ old.errors ++ told

abbrev pub down_group : {S : Type 0} → List Bytes → List (Group S) → List Bytes
down_group path [] = path
down_group path (g ∷ gs) = path ++ g.0 ∷ []

module _ {S N : Type 0} where
  -- the path of the place that a frame waits for
  abbrev pub down : List Bytes → FrameIn S N → List Bytes
  down path (frame.Object f) = down_group path (drop f.next f.groups)
  down path (frame.List f) = path

  -- the path of the innermost place, the outermost frame first
  abbrev pub path_of : List Bytes → List (FrameIn S N) → List Bytes
  path_of path [] = path
  path_of path (f ∷ fs) = path_of (down path f) fs

module _ {S N : Type 0} (here : Evaluation S N) where
  abbrev pub groups_left : List Bytes → Bytes → N → List (Group S)
      → List (Outcome S (Bytes × Value S))
  groups_left path object node gs =
      map (keyed here.engine (evaluate here.engine) path object node)
      (map (group_found here.fragments) gs)

  abbrev pub item_at : List Bytes → ListFrameIn S N → Resolved S N → Outcome S (Value S)
  item_at path f =
      completed_item here.engine
      (λ m. evaluate here.engine path (here.engine.concrete m) m
      (kept_sets here.fragments f.selected)) (blame_at path f.location) f.name (reverse f.wraps.now)

  -- what a group gives on a node of an object type, below the place of the path
  abbrev pub group_outcome : List Bytes → Bytes → N → Group S → Outcome S (Value S)
  group_outcome path object node g =
      group here.engine (evaluate here.engine) path object node g.0 (all_found here.fragments g.1)

  -- what a frame gives at whose next group or item the loop stands
  abbrev pub rest : List Bytes → FrameIn S N → Outcome S (Value S)
  rest path (frame.Object f) =
      more object_members f.members (groups_left path f.object f.node (drop f.next f.groups))
  rest path (frame.List f) = more value.List f.values (map (item_at path f) (reverse f.items))

  abbrev pub close_group : List Bytes → ObjectFrameIn S N → List (Group S) → Outcome S (Value S)
      → Outcome S (Value S)
  close_group path f [] o =
      record {
        value = (more object_members f.members (groups_left path f.object f.node [])).value;
        failures = o.failures;
      }
  close_group path f (g ∷ gs) o = more object_members f.members
      (outcome_map (λ x. (g.0, x)) (show_place f.is_needed o) ∷ groups_left path f.object f.node gs)

  -- what a frame gives that waits for a place which gives the outcome
  abbrev pub close : List Bytes → FrameIn S N → Outcome S (Value S) → Outcome S (Value S)
  close path (frame.Object f) o = close_group path f (drop f.next f.groups) o
  close path (frame.List f) o = more value.List f.values
      (show_place (is_required (reverse f.wraps.now)) o ∷ map (item_at path f) (reverse f.items))

  -- what the whole gives, the outermost frame first, where the innermost place gives an outcome at
  -- its path
  abbrev pub resume : List Bytes → List (FrameIn S N) → (List Bytes → Outcome S (Value S))
      → Outcome S (Value S)
  resume path [] o = o path
  resume path (f ∷ fs) o = close path f (resume (down path f) fs o)

  -- what a place gives, by what it has come to
  abbrev pub comes_to : Begun S N → List Bytes → Outcome S (Value S)
  comes_to (begun.Value v) path = shows v
  comes_to (begun.Frame f) path = rest path f

module _ {S N : Type 0} where
  -- the groups that are known of what has begun: those of an object
  abbrev pub known_in : FrameIn S N → Option (KnownIn S)
  known_in (frame.Object f) =
      Some (record { object = f.object; groups = f.groups; prepared = f.prepared })
  known_in (frame.List f) = None

  abbrev pub known_of : Begun S N → Option (KnownIn S)
  known_of (begun.Value v) = None
  known_of (begun.Frame f) = known_in f

  -- the list knows these groups
  abbrev pub learns : ListFrameIn S N → List (KnownIn S) → ListFrameIn S N
  learns f known = record {
    name = f.name;
    selected = f.selected;
    location = f.location;
    wraps = f.wraps;
    items = f.items;
    values = f.values;
    known = known;
  }

module _ {S N : Type 0} (here : Evaluation S N) where
  -- an object's type is that of its node, its groups have their keys, no key stands twice among its
  -- members so far and the groups that are left, and what is known of its fields is so; so is what
  -- a list knows
  abbrev pub Fine : FrameIn S N → Type 0
  Fine (frame.Object f) = (f.object ≡ here.engine.concrete f.node)
      × All HasKey f.groups
      × IfSome f.members
      (λ ms. IsDistinct bytes_eq (keys_of ms ++ map (λ g. g.0) (drop f.next f.groups)))
      × IfSome f.prepared (ArePrepared (asked_by here.engine) f.object f.groups)
  Fine (frame.List f) = AreKnown here f.name (kept_sets here.fragments f.selected) f.known

  abbrev pub AllFine : List (FrameIn S N) → Type 0
  AllFine [] = Unit {0}
  AllFine (f ∷ fs) = Fine f × AllFine fs

  abbrev pub FineBegun : Begun S N → Type 0
  FineBegun (begun.Value v) = Unit {0}
  FineBegun (begun.Frame f) = Fine f

-- what a turn leaves: the end, where no frame waits, or what there is now
abbrev pub turned_to : {S N : Type 0} → Evaluation S N → Turned S N → List Bytes
    → Outcome S (Value S)
turned_to here (turned.Done v) path = shows v
turned_to here (turned.Open b) path = comes_to here b path

abbrev pub FineTurned : {S N : Type 0} → Evaluation S N → Turned S N → List (FrameIn S N) → Type 0
FineTurned here (turned.Done v) waiting = waiting ≡ []
FineTurned here (turned.Open b) waiting = AllFine here waiting × FineBegun here b

module _ {S N : Type 0} (here : Evaluation S N) where
  -- a step: what is told is part of what was left to tell; the report stands at the innermost place
  pub record TakesTurn (path : List Bytes) (before : Outcome S (Value S)) (old : Report S)
      (waiting : List (FrameIn S N)) (now : List Bytes → Outcome S (Value S)) (new : Report S)
      : Type 0 where
    pub leads : TellsFirst before old (resume here path waiting now) new
    pub stands : new.path ≡ path_of path waiting

  -- a step from what the innermost place gives before these frames, wherever the outermost stands
  abbrev pub Advances : List (FrameIn S N) → (List Bytes → Outcome S (Value S)) → Report S
      → List (FrameIn S N) → (List Bytes → Outcome S (Value S)) → Report S → Type 0
  Advances waited before old waiting now new = (path : List Bytes) → old.path ≡ path_of path waited
      → TakesTurn path (resume here path waited before) old waiting now new

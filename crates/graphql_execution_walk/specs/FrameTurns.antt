-- How many turns are left of what is in progress.
use Rattle.std.specs.Prelude.{ℕ, ◌+◌, List, map, drop, reverse}
use Rattle.std.specs.List.{sum}
use Rattle.graphql_names.specs.Names.{Bytes}
use Rattle.graphql_names.specs.declared.type_modifier.TypeModifier.{TypeModifier}
use Rattle.graphql_written_out.specs.Trees.{Tree}
use Rattle.graphql_collect.specs.Grouped.{Group, all_found}
use Rattle.graphql_field_results.specs.declared.resolved.Resolved.{Resolved}
use Rattle.graphql_semantics.specs.Engines.{Engine}
use Rattle.graphql_semantics.specs.Turns.{all_turns, turns_at, turns_of_group}
use Rattle.graphql_execution_walk.specs.declared.frames.Begun.{Begun}
use Rattle.graphql_execution_walk.specs.declared.frames.Begun.TheVariants as begun
use Rattle.graphql_execution_walk.specs.declared.frames.Frame.TheVariants as frame
use Rattle.graphql_execution_walk.specs.declared.frames.Turned.{Turned}
use Rattle.graphql_execution_walk.specs.declared.frames.Turned.TheVariants as turned
use Rattle.graphql_execution_walk.specs.Evaluations.{Evaluation}
use Rattle.graphql_execution_walk.specs.Frames.{FrameIn, ListFrameIn}
use Rattle.graphql_execution_walk.specs.Sets.{kept_sets}

-- of an answer at a type of this name, by its wraps, the outermost first; the sets are selected
-- from the nodes in it
abbrev pub answer_turns : {S N : Type 0} → Engine S N → List (Tree S) → Bytes → List TypeModifier
    → Resolved S N → ℕ
answer_turns e sets name =
    turns_at (λ m. all_turns e (e.concrete m) m sets) (λ m. e.is_possible name (e.concrete m))

module _ {S N : Type 0} (here : Evaluation S N) where
  -- to set out for a group, and for its answer
  abbrev pub group_turns : Bytes → N → Group S → ℕ
  group_turns object node g =
      1 + turns_of_group here.engine (all_turns here.engine) object node
      (all_found here.fragments g.1)

  abbrev pub groups_turns : Bytes → N → List (Group S) → ℕ
  groups_turns object node gs = sum (map (group_turns object node) gs)

  abbrev pub item_turns : ListFrameIn S N → Resolved S N → ℕ
  item_turns f r =
      1 + answer_turns here.engine (kept_sets here.fragments f.selected) f.name
      (reverse f.wraps.now) r

  -- of a frame at whose next group or item the walk stands
  abbrev pub rest_turns : FrameIn S N → ℕ
  rest_turns (frame.Object f) = 2 + groups_turns f.object f.node (drop f.next f.groups)
  rest_turns (frame.List f) = 2 + sum (map (item_turns f) (reverse f.items))

  -- of a frame that waits for a place
  abbrev pub waiting_turns : FrameIn S N → ℕ
  waiting_turns (frame.Object f) = 2 + groups_turns f.object f.node (drop (f.next + 1) f.groups)
  waiting_turns (frame.List f) = 2 + sum (map (item_turns f) (reverse f.items))

  abbrev pub all_waiting : List (FrameIn S N) → ℕ
  all_waiting fs = sum (map waiting_turns fs)

  -- how many turns are left for what has begun
  abbrev pub begun_turns : Begun S N → ℕ
  begun_turns (begun.Value v) = 1
  begun_turns (begun.Frame f) = rest_turns f

  abbrev pub turned_turns : Turned S N → ℕ
  turned_turns (turned.Done v) = 0
  turned_turns (turned.Open b) = begun_turns b

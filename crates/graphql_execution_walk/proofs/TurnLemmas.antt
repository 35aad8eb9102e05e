-- Turns of frames.
use Rattle.std.proofs.Common.{◌≡◌, refl, sym, ◌∙◌, ap, ℕ, zero, suc, ◌+◌, arith, List, [], ◌∷◌, ◌++◌, map, drop, reverse, Some, None, slice_get}
use Rattle.std.specs.List.{sum}
use Rattle.std.proofs.lemmas.List.{reverse-append}
use Rattle.std.proofs.lemmas.List.Sums.{sum-map, sum_by-cons, sum_by_push}
use Rattle.std.proofs.lemmas.Simd.{map-map}
use Rattle.graphql_names.specs.Names.{Bytes}
use Rattle.graphql_written_out.specs.Fields.{Found}
use Rattle.graphql_written_out.specs.Groups.{groups}
use Rattle.graphql_written_out.specs.Repeats.{Repeats}
use Rattle.graphql_written_out.specs.Trees.{Tree}
use Rattle.graphql_collect.specs.Grouped.{Group, group_found}
use Rattle.graphql_field_results.specs.declared.resolved.Resolved.{Resolved}
use Rattle.graphql_semantics.specs.Evaluation.{found_in}
use Rattle.graphql_semantics.specs.Turns.{all_turns, turns_of_group}
use Rattle.graphql_semantics.proofs.TurnLaws.{turns-of-groups}
use Rattle.graphql_execution_walk.specs.declared.frames.Frame.TheVariants as frame
use Rattle.graphql_execution_walk.specs.Evaluations.{Evaluation}
use Rattle.graphql_execution_walk.specs.Frames.{FrameIn, ListFrameIn, ObjectFrameIn}
use Rattle.graphql_execution_walk.specs.FrameTurns.{all_waiting, group_turns, groups_turns, item_turns, rest_turns, waiting_turns}
use Rattle.graphql_execution_walk.proofs.FrameLemmas.{drop-end, drop-next, keeps}

pub sum-first : {A : Type 0} (f : A → ℕ) (x : A) (xs : List A) → sum (map f (x ∷ xs)) ≡ f x + sum (map f xs)
sum-first f x xs = sum-map f (x ∷ xs) ∙ sum_by-cons f x xs ∙ ap (λ n. f x + n) (sym (sum-map f xs))

pub sum-last : {A : Type 0} (f : A → ℕ) (xs : List A) (x : A) → sum (map f (xs ++ x ∷ [])) ≡ sum (map f xs) + f x
sum-last f xs x = sum-map f (xs ++ x ∷ []) ∙ sum_by_push f xs x ∙ ap (λ n. n + f x) (sym (sum-map f xs))

drop-nil : (A : Type 0) (i : ℕ) → drop {A = A} i [] ≡ []
drop-nil A zero = refl
drop-nil A (suc i) = refl

drop-past : {A : Type 0} (xs : List A) (i : ℕ) → slice_get xs i ≡ None → drop (i + 1) xs ≡ []
drop-past {A = A} [] i p = drop-nil A (i + 1)
drop-past {A = A} (y ∷ ys) zero p = (let q : Some y ≡ None = p in cc)
drop-past {A = A} (y ∷ ys) (suc i) p = (let more : suc i + 1 ≡ suc (i + 1) = omega arith in ap (λ n. drop n (y ∷ ys)) more ∙ drop-past ys i p)

moved : (a b : ℕ) → 2 + (a + b) ≡ a + (2 + b)
moved a b = omega arith

module _ {S N : Type 0} (here : Evaluation S N) where
  -- an object that begins has the turns of its sets
  pub groups-begin : (object : Bytes) (node : N) (sets : List (Tree S)) (found : List (Found S)) (gs : List (Group S)) → map (group_found here.fragments) gs ≡ groups found → Repeats found (found_in here.engine object sets)
      → groups_turns here object node gs ≡ all_turns here.engine object node sets
  groups-begin object node sets found gs is repeats =
      ap sum (sym (map-map (λ (g : Bytes × List (Found S)). 1 + turns_of_group here.engine (all_turns here.engine) object node g.1) (group_found here.fragments) gs))
      ∙ ap (λ hs. sum (map (λ (g : Bytes × List (Found S)). 1 + turns_of_group here.engine (all_turns here.engine) object node g.1) hs)) is
      ∙ turns-of-groups here.engine object node sets found repeats

  -- a group that is due, and what waits behind it
  pub group-due : (f : ObjectFrameIn S N) (g : Group S) → slice_get f.groups f.next ≡ Some g
      → rest_turns here (frame.Object f) ≡ group_turns here f.object f.node g + waiting_turns here (frame.Object f)
  group-due f g at =
      let left = drop (f.next + 1) f.groups in
      let one : groups_turns here f.object f.node (g ∷ left) ≡ group_turns here f.object f.node g + groups_turns here f.object f.node left =
      sum-first (group_turns here f.object f.node) g left in
      ap (λ gs. 2 + groups_turns here f.object f.node gs) (drop-next f.groups f.next g at) ∙ ap (λ n. 2 + n) one ∙ moved (group_turns here f.object f.node g) (groups_turns here f.object f.node left)

  pub nothing-due : (f : ObjectFrameIn S N) → slice_get f.groups f.next ≡ None → rest_turns here (frame.Object f) ≡ waiting_turns here (frame.Object f)
  nothing-due f at =
      ap (λ gs. 2 + groups_turns here f.object f.node gs) (drop-end f.groups f.next at ∙ sym (drop-past f.groups f.next at))

  -- an item that is due, and what waits behind it
  pub item-due : (f : ListFrameIn S N) (items : List (Resolved S N)) (x : Resolved S N) → f.items ≡ items ++ x ∷ []
      → rest_turns here (frame.List f) ≡ item_turns here f x + waiting_turns here (frame.List (keeps here f items))
  item-due f items x p =
      let one : sum (map (item_turns here f) (x ∷ reverse items)) ≡ item_turns here f x + sum (map (item_turns here f) (reverse items)) =
      sum-first (item_turns here f) x (reverse items) in
      ap (λ xs. 2 + sum (map (item_turns here f) xs)) (ap reverse p ∙ reverse-append items (x ∷ [])) ∙ ap (λ n. 2 + n) one ∙ moved (item_turns here f x) (sum (map (item_turns here f) (reverse items)))

  pub waiting-last : (fs : List (FrameIn S N)) (f : FrameIn S N) → all_waiting here (fs ++ f ∷ []) ≡ all_waiting here fs + waiting_turns here f
  waiting-last fs f = sum-last (waiting_turns here) fs f

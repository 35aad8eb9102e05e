-- How many turns walks take over sets: at any depth that suffices, and where repeats are left out.
use Rattle.std.proofs.Common.{◌≡◌, refl, ℕ, ◌+◌, ◌≤◌, arith, Bool, true, false, List, [], ◌∷◌, map}
use Rattle.std.specs.List.{sum}
use Rattle.std.proofs.lemmas.Option.{same_Some}
use Rattle.graphql_names.specs.Names.{Bytes}
use Rattle.graphql_names.specs.declared.type_modifier.TypeModifier.{TypeModifier}
use Rattle.graphql_names.specs.declared.type_modifier.TypeModifier.TheVariants as modifier
use Rattle.graphql_written_out.specs.Trees.{Tree}
use Rattle.graphql_written_out.specs.Fields.{Found}
use Rattle.graphql_written_out.specs.Groups.{groups}
use Rattle.graphql_written_out.specs.Repeats.{Repeats}
use Rattle.graphql_field_results.specs.declared.resolved.Resolved.{Resolved, out-Resolved}
use Rattle.graphql_field_results.specs.declared.resolved.Resolved.TheOpen.{Resolved-F}
use Rattle.graphql_semantics.specs.Engines.{Engine}
use Rattle.graphql_semantics.specs.Evaluation.{Group, found_in, highest, sets_below}
use Rattle.graphql_semantics.specs.Laws.{TurnsOfGroups}
use Rattle.graphql_semantics.specs.Turns.{all_turns, turns, turns_at, turns_at_declared, turns_at_list, turns_at_name, turns_at_required, turns_if, turns_of_group}
use Rattle.graphql_semantics.proofs.RepeatLemmas.{first}
use Rattle.graphql_semantics.proofs.Walks.{Gives, Walk, all-groups, all-repeats, same-run}

if-some : {N : Type 0} (run : N → ℕ) (q : Bool) (m : N) → 1 ≤ turns_if run q m
if-some run true m = omega arith
if-some run false m = omega arith

module _ {S N : Type 0} where
  list-some : (item : Resolved S N → ℕ) (o : Resolved-F S N (Resolved S N)) → 1 ≤ turns_at_list item o
  list-some item Resolved-F.Null = omega arith
  list-some item (Resolved-F.Scalar s) = omega arith
  list-some item (Resolved-F.List items) = omega arith
  list-some item (Resolved-F.Node m) = omega arith

  required-some : (n : ℕ) (o : Resolved-F S N (Resolved S N)) → 1 ≤ n → 1 ≤ turns_at_required n o
  required-some n Resolved-F.Null h = omega arith
  required-some n (Resolved-F.Scalar s) h = h
  required-some n (Resolved-F.List items) h = h
  required-some n (Resolved-F.Node m) h = h

module _ {S N : Type 0} (run : N → ℕ) (is_possible : N → Bool) where
  name-some : (o : Resolved-F S N (Resolved S N)) → 1 ≤ turns_at_name run is_possible o
  name-some Resolved-F.Null = omega arith
  name-some (Resolved-F.Scalar s) = omega arith
  name-some (Resolved-F.List items) = omega arith
  name-some (Resolved-F.Node m) = if-some run (is_possible m) m

  -- an answer takes a turn at least
  pub some-turns : (wraps : List TypeModifier) (r : Resolved S N) → 1 ≤ turns_at run is_possible wraps r
  some-turns [] r = name-some (out-Resolved S N r)
  some-turns (modifier.NonNull ∷ wraps) r = required-some (turns_at run is_possible wraps r) (out-Resolved S N r) (some-turns wraps r)
  some-turns (modifier.List size ∷ wraps) r = list-some (turns_at run is_possible wraps) (out-Resolved S N r)

module _ {S N : Type 0} (e : Engine S N) where
  -- of a group, the turn that sets out for it and its own
  abbrev counted : Gives S N (Unit {0}) ℕ → Unit {0} → Bytes → N → Group S → ℕ
  counted run place object node g = 1 + turns_of_group e (run place) object node g.1

  counted-depends : (r s : Gives S N (Unit {0}) ℕ) (place : Unit {0}) (object : Bytes) (node : N) (key : Bytes) (xs ys : List (Found S)) → first xs ≡ first ys
      → ((p : Unit {0}) (o : Bytes) (m : N) → r p o m (sets_below xs) ≡ s p o m (sets_below ys)) → counted r place object node (key, xs) ≡ counted s place object node (key, ys)
  counted-depends r s place object node key [] [] f h = refl
  counted-depends r s place object node key [] (y ∷ ys) f h = cc
  counted-depends r s place object node key (x ∷ xs) [] f h = cc
  counted-depends r s place object node key (x ∷ xs) (y ∷ ys) f h =
      let p : x ≡ y = same_Some x y f in
      λ i. 1 + turns_at_declared e (e.declared object (p i).head.name) (λ m. h place (e.concrete m) m i) (e.answer node object (p i).head.name (e.arguments object (p i).head))

  -- the walk that counts turns, wherever it is
  abbrev counts : Walk e (Unit {0}) ℕ ℕ
  counts = record {
    of_group = counted;
    combine = sum;
    run = λ n place. turns e n;
    starts = λ place object node sets. refl;
    steps = λ n place object node sets. refl;
    depends = counted-depends;
  }

  -- any depth that suffices takes the same
  pub turns-at_depth : (n : ℕ) (object : Bytes) (node : N) (sets : List (Tree S)) → highest sets ≤ n → turns e n object node sets ≡ all_turns e object node sets
  turns-at_depth n object node sets h = same-run e counts n (highest sets) tt object node sets h (omega arith)

  -- sets that differ by repeats take the same
  pub turns-repeat : (object : Bytes) (node : N) (ys xs : List (Tree S)) → Repeats ys xs → all_turns e object node ys ≡ all_turns e object node xs
  turns-repeat = all-repeats e counts tt

  -- the groups of what was collected, repeats left out, over the turns of the sets below them
  pub turns-of-groups : (object : Bytes) (node : N) (sets : List (Tree S)) (ys : List (Found S)) → Repeats ys (found_in e object sets)
      → sum (map (λ (g : Group S). 1 + turns_of_group e (all_turns e) object node g.1) (groups ys)) ≡ all_turns e object node sets
  turns-of-groups = all-groups e counts tt

pub turns-of-all_groups : (S N : Type 0) → TurnsOfGroups S N
turns-of-all_groups S N e object node sets ys a = turns-of-groups e object node sets ys a

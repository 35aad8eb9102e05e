-- What a small engine answers: a human and a dog, both beings, each the friend of the other.
use Rattle.std.proofs.Common.{◌≡◌, refl, sym, ap, subst, lit<, ℕ, ◌+◌, arith, Bool, true, false, not, ◌||◌, List, [], ◌∷◌, Some, None, Ok}
use Rattle.std.specs.Prelude.{codes, if◌then◌else◌, IfSome}
use Rattle.std.specs.List.{Contains, sum}
use Rattle.std.specs.Str.{bytes_eq}
use Rattle.graphql_names.specs.Names.{Bytes, is_one_of}
use Rattle.graphql_schema.specs.Types.{TypeOf, reference_to}
use Rattle.graphql_written_out.specs.Trees.{Head, Tree, none, field, inline}
use Rattle.graphql_written_out.specs.Fields.{Found}
use Rattle.graphql_written_out.specs.Groups.{groups}
use Rattle.graphql_written_out.specs.Repeats.{Repeats, nothing, kept, again}
use Rattle.graphql_output_values.specs.DistinctKeys.{HasDistinctKeysThroughout}
use Rattle.graphql_output_values.specs.declared.value.Value.TheVariants as value
use Rattle.graphql_field_results.specs.declared.execution_error.ExecutionError.{ExecutionError}
use Rattle.graphql_field_results.specs.declared.resolved.Resolved.{Resolved}
use Rattle.graphql_field_results.specs.declared.resolved.Resolved.TheVariants as resolved
use Rattle.graphql_semantics.specs.Engines.{Engine}
use Rattle.graphql_semantics.specs.Outcomes.{Outcome, together}
use Rattle.graphql_semantics.specs.Completion.{Members, blame_at, object_members, own_null}
use Rattle.graphql_semantics.specs.Evaluation.{evaluate, found_in, highest, keyed, run}
use Rattle.graphql_semantics.specs.Failing.{Fails}
use Rattle.graphql_semantics.specs.Fitting.{MembersFit}
use Rattle.graphql_semantics.specs.Turns.{all_turns, turns_of_group}
use Rattle.graphql_semantics.proofs.Depths.{evaluate-run}
use Rattle.graphql_semantics.proofs.DistinctMembers.{distinct-keys}
use Rattle.graphql_semantics.proofs.ExactFailures.{failures-exact}
use Rattle.graphql_semantics.proofs.Failures.{no-data-fails}
use Rattle.graphql_semantics.proofs.FittingData.{data-fit}
use Rattle.graphql_semantics.proofs.RunRepeats.{data-of-groups, repeats-give-nothing}
use Rattle.graphql_semantics.proofs.TurnLaws.{turns-of-all_groups}

-- the nodes: true is the human, false the dog
abbrev object_of : Bool → Bytes
object_of is_human = if is_human then codes "Human" else codes "Dog"

-- both objects implement the interface `Being` and stand in the union `Either`
abbrev is_below : Bytes → Bytes → Bool
is_below object name = bytes_eq object name || is_one_of (codes "Being" ∷ codes "Either" ∷ []) name

-- `friend: Being!`, `name: String!` and `nick: String!`
abbrev type_of_field : Bytes → TypeOf
type_of_field name = reference_to (if bytes_eq name (codes "friend") then codes "Being" else codes "String")

-- the friend is the other one, and nobody has a nick
abbrev answer_of_field : Bool → Bytes → Resolved ℕ Bool
answer_of_field node name =
    if bytes_eq name (codes "friend") then resolved.Node (not node)
    else if bytes_eq name (codes "name") then resolved.Scalar 1 else resolved.Null

abbrev beings : Engine ℕ Bool
beings = record {
  drops = λ directives. false;
  is_below = is_below;
  declared = λ object name. Some (type_of_field name);
  is_leaf = λ name. bytes_eq name (codes "String");
  is_possible = λ name object. is_below object name;
  arguments = λ object head. [];
  concrete = object_of;
  answer = λ node object name given. Ok (answer_of_field node name);
}

abbrev field_at : ℕ → Bytes → Bool → Head ℕ
field_at n name has_set =
    record {
      key = name;
      name = name;
      is_aliased = false;
      arguments = [];
      has_set = has_set;
      place = record { index = n; line = 0; column = n };
    }

abbrev name_set : Tree ℕ
name_set = field (field_at 30 (codes "name") false) [] none none

-- `... on Being { friend { name } }`, as a fragment is written out
abbrev fragment : Tree ℕ
fragment = inline (Some (codes "Being")) [] (field (field_at 20 (codes "friend") true) [] name_set none) none

abbrev friend : Found ℕ
friend = record { head = field_at 20 (codes "friend") true; below = name_set }

-- the sets of one that spreads the fragment twice
abbrev twice : List (Tree ℕ)
twice = fragment ∷ fragment ∷ []

-- what sets give on the human
abbrev given_for : List (Tree ℕ) → Outcome ℕ (Members ℕ)
given_for = evaluate beings [] (codes "Human") true

-- it is nested three deep: a fragment, a field and its set
pub its_height : highest twice ≡ 3
its_height = refl

-- so ten levels give what evaluation gives
pub ten_levels : run beings 10 [] (codes "Human") true twice ≡ given_for twice
ten_levels = evaluate-run beings 10 [] (codes "Human") true twice (omega arith)

-- the fragment once gives the same data and the same failures
pub one_is_enough : given_for (fragment ∷ []) ≡ given_for twice
one_is_enough =
    repeats-give-nothing ℕ Bool beings [] (codes "Human") true (fragment ∷ []) twice
    (kept fragment (again fragment (0, lit< tt, refl) nothing))

-- two fields are found, of which the second is a repeat
pub friend_is_repeated : Repeats (friend ∷ []) (found_in beings (codes "Human") twice)
friend_is_repeated = kept friend (again friend (0, lit< tt, refl) nothing)

-- so the one group of the one field gives what the sets give, and takes the turns that they take
pub data_of_one_group :
    together (keyed beings (evaluate beings) [] (codes "Human") true (codes "friend", friend ∷ []) ∷ []) ≡ given_for twice
data_of_one_group = data-of-groups ℕ Bool beings [] (codes "Human") true twice (friend ∷ []) friend_is_repeated

pub turns_of_one_group :
    sum ((1 + turns_of_group beings (all_turns beings) (codes "Human") true (friend ∷ [])) ∷ [])
    ≡ all_turns beings (codes "Human") true twice
turns_of_one_group = turns-of-all_groups ℕ Bool beings (codes "Human") true twice (friend ∷ []) friend_is_repeated

-- ---- data

-- `{"friend": {"name": 1}}`
abbrev friend_data : Members ℕ
friend_data = (codes "friend", object_members ((codes "name", value.Scalar 1) ∷ [])) ∷ []

pub what_is_given : given_for twice ≡ record { value = Some friend_data; failures = [] }
what_is_given = simp (resolved.outs-Node, resolved.outs-Scalar) refl

-- so these data fit the sets, and have distinct keys
pub given_data_fit : MembersFit beings (codes "Human") (groups (friend ∷ friend ∷ [])) friend_data
given_data_fit =
    subst (λ (o : Outcome ℕ (Members ℕ)). IfSome o.value (MembersFit beings (codes "Human") (groups (friend ∷ friend ∷ []))))
    what_is_given
    (data-fit ℕ Bool beings [] (codes "Human") true twice)

pub given_keys_are_distinct : HasDistinctKeysThroughout (object_members friend_data)
given_keys_are_distinct =
    subst (λ (o : Outcome ℕ (Members ℕ)). IfSome o.value (λ members. HasDistinctKeysThroughout (object_members members)))
    what_is_given
    (distinct-keys ℕ Bool beings [] (codes "Human") true twice)

-- ---- failures

-- `{ friend { nick } }`: the null goes on from the one to the other, so there are no data
abbrev nick_sets : List (Tree ℕ)
nick_sets =
    field (field_at 20 (codes "friend") true) [] (field (field_at 30 (codes "nick") false) [] none none) none ∷ []

abbrev nick_failure : ExecutionError ℕ
nick_failure = blame_at (codes "friend" ∷ codes "nick" ∷ []) (record { index = 30; line = 0; column = 30 }) own_null

pub what_nick_gives : given_for nick_sets ≡ record { value = None; failures = nick_failure ∷ [] }
what_nick_gives = simp (resolved.outs-Node, resolved.outs-Null) refl

-- so something failed
pub something_failed : (given_for nick_sets).failures ≡ [] → ⊥
something_failed =
    no-data-fails ℕ Bool beings [] (codes "Human") true nick_sets
    (ap (λ (o : Outcome ℕ (Members ℕ)). o.value) what_nick_gives)

-- and the failure that is told is one that fails
pub nick_fails : Fails beings [] (codes "Human") true nick_sets nick_failure
nick_fails =
    (failures-exact ℕ Bool beings [] (codes "Human") true nick_sets nick_failure).0
    (subst (λ (o : Outcome ℕ (Members ℕ)). Contains o.failures nick_failure) (sym what_nick_gives) (0, lit< tt, refl))

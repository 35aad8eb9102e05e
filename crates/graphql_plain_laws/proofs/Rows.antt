-- A set of which all are left out gives what its plain set gives; which that is by a default; and plain sets that merge.
use Rattle.std.proofs.Common.{◌≡◌, refl, sym, ◌∙◌, ap, Bool, true, false, [], ◌∷◌, Option, Some, None, Ok}
use Rattle.std.specs.Prelude.{codes, if◌then◌else◌, nat_eq, ℕ}
use Rattle.std.specs.Str.{bytes_eq}
use Rattle.graphql_scalars.specs.ScalarAnswers.{boolean, text}
use Rattle.graphql_values.specs.InputValues.{unplaced}
use Rattle.graphql_values.specs.declared.input_value.InputValue.{InputValue}
use Rattle.graphql_values.specs.declared.input_value.InputValue.TheVariants as value
use Rattle.graphql_tree.specs.Variables.{Variable}
use Rattle.graphql_tree.specs.declared.variable.VariableDefinition.{VariableDefinition}
use Rattle.graphql_written_out.specs.FinalValues.{final_value}
use Rattle.graphql_schema.specs.Types.{reference_to}
use Rattle.graphql_schema.proofs.Rows.{beings}
use Rattle.graphql_written_out.specs.Trees.{Directives, Tree}
use Rattle.graphql_field_results.specs.declared.resolved.Resolved.TheVariants as resolved
use Rattle.graphql_merging.specs.Members.{members}
use Rattle.graphql_merging.specs.Merging.{Merging}
use Rattle.graphql_merging.proofs.Rows.{friends, friends_merge}
use Rattle.graphql_semantics.specs.Engines.{Engine}
use Rattle.graphql_semantics.specs.Outcomes.{Outcome, gives}
use Rattle.graphql_semantics.specs.Completion.{Members, object_members}
use Rattle.graphql_semantics.specs.Evaluation.{evaluate}
use Rattle.graphql_plain_tree.specs.Plain.{plain}
use Rattle.graphql_plain_tree.specs.PlainOperations.{plain_by}
use Rattle.graphql_plain_tree.proofs.Rows.{Scalar, Values, drops, given_x, hero, include_x_of, itself, name_field, name_if_x, name_kept, name_left_out, name_of_false, name_skipped, stand_in, stand_in_fits, truth_of_boolean, truth_of_null, truth_value}
use Rattle.graphql_plain_laws.proofs.PlainMembers.{merging-plain}
use Rattle.graphql_plain_laws.proofs.PlainRuns.{evaluate-plain}

-- ---- a default

-- `query ($x: .. = true) { hero { name @include(if: $x) } }`
module _ (said : VariableDefinition Scalar) where
  abbrev x : Variable Scalar
  x = (unplaced (codes "x"), record said { default_value = Some (unplaced (truth_value true)) })

  abbrev final : Option (InputValue Scalar) → Values
  final given = final_value (given_x given) (x ∷ [])

  -- where the request gives null, the name is left out in spite of the default
  pub name_of_null : plain_by itself boolean (final (Some value.Null)) name_if_x ≡ name_skipped
  name_of_null = name_left_out (final (Some value.Null)) (include_x_of (final (Some value.Null)) None truth_of_null)

  -- where it gives nothing, the default keeps it
  pub name_of_nothing : plain_by itself boolean (final None) name_if_x ≡ hero (name_field [])
  name_of_nothing = name_kept (final None) (include_x_of (final None) (Some true) (truth_of_boolean true))

-- ---- what is given

-- `hero: Human` and `name: String`; the hero is Ann
abbrev heroes : Values → Engine Scalar Bool
heroes given = record {
  drops = drops given;
  is_below = bytes_eq;
  declared = λ object name. Some (reference_to (if bytes_eq name (codes "hero") then codes "Human" else codes "String"));
  is_leaf = λ name. bytes_eq name (codes "String");
  is_possible = λ name object. bytes_eq object name;
  arguments = λ object head. [];
  concrete = λ node. codes "Human";
  answer = λ node object name arguments. Ok (if bytes_eq name (codes "hero") then resolved.Node true else resolved.Scalar (text (codes "Ann")));
}

abbrev x_is_false : Values
x_is_false = given_x (Some (truth_value false))

abbrev given_for : Tree Scalar → Outcome Scalar (Members Scalar)
given_for set = evaluate (heroes x_is_false) [] (codes "Query") true (set ∷ [])

-- where `$x` is false, `{ hero { name @skip(if: true) } }` gives what `{ hero { name @include(if: $x) } }` gives
pub skipped_gives_the_same : given_for name_skipped ≡ given_for name_if_x
skipped_gives_the_same =
    ap given_for (sym name_of_false)
    ∙ evaluate-plain (heroes x_is_false) stand_in (stand_in_fits x_is_false) [] (codes "Query") true (name_if_x ∷ [])

-- which is `{"hero": {}}`
pub hero_is_empty : given_for name_skipped ≡ gives ((codes "hero", object_members []) ∷ [])
hero_is_empty = simp (resolved.outs-Node, (stand_in_fits x_is_false).0) refl

-- ---- what merges

-- the set of both friends, at the union, whatever is left out of it
pub plain_friends_merge : (leaves_out : Directives ℕ → Bool) (marks : Directives ℕ)
    → Merging nat_eq beings (members beings friends.scope (plain leaves_out marks friends.tree))
plain_friends_merge leaves_out marks = merging-plain beings leaves_out marks nat_eq friends.scope friends.tree friends_merge

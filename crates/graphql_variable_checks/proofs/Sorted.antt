-- What is told of definitions, put in order.
use Rattle.std.proofs.Common.{◌≡◌, ◌↔◌, List, [], Option, length, sym, ap, ◌∙◌}
use Rattle.std.specs.List.Sorted.{IsPermutation}
use Rattle.std.proofs.lemmas.List.{nil_from_length}
use Rattle.std.proofs.lemmas.List.Sorted.{IsPermutation-map, length_permutation}
use Rattle.graphql_schema.specs.Scalars.{Scalars}
use Rattle.graphql_schema.specs.declared.meta.MetaType.{MetaType}
use Rattle.graphql_names.specs.Names.{Bytes}
use Rattle.graphql_rule_errors.specs.Places.{places}
use Rattle.graphql_rule_errors.specs.declared.rule_error.RuleError.{RuleError}
use Rattle.graphql_text.specs.declared.position.SourcePosition.{SourcePosition}
use Rattle.graphql_tree.specs.Variables.{Variable}
use Rattle.graphql_values.specs.declared.input_value.InputValue.{InputValue}
use Rattle.graphql_variable_checks.specs.Accepted.{Refusals, ValuesTold}

pub none_moved : {A : Type 0} (xs ys : List A) → IsPermutation xs ys → (xs ≡ []) ↔ (ys ≡ [])
none_moved xs ys moved = (
  λ none. nil_from_length ys (length_permutation xs ys moved ∙ ap length none),
  λ none. nil_from_length xs (sym (length_permutation xs ys moved) ∙ ap length none),
)

module _ {S C : Type 0} (scalars : Scalars S C) (types : List (MetaType S C)) (given : Bytes → Option (InputValue S)) where
  pub told_sorted : (vs : List (Variable S)) (old new : List RuleError) → IsPermutation old new → Refusals scalars types given vs (places old) → ValuesTold scalars types given vs (places new)
  told_sorted vs old new moved told = (places old, told, IsPermutation-map {P = RuleError} {X = List SourcePosition} (λ e. e.locations) old new moved)

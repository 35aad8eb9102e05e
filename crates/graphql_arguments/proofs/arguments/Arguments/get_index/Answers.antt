use Rattle.std.proofs.Common.{◌≡◌, ◌∙◌, ℕ, List, Some, None, map, slice_get, ap, sym}
use Rattle.std.specs.Option.{option_map}
use Rattle.std.proofs.lemmas.Option.{slice_get-map}
use Rattle.graphql_names.specs.Names.{Bytes}
use Rattle.graphql_values.specs.InputValues.{Placed}
use Rattle.graphql_values.specs.declared.input_value.InputValue.{InputValue}
use Rattle.graphql_arguments.specs.GivenValues.{named_value, pair_told, value_told}
use Rattle.graphql_arguments.specs.declared.given.GivenValue.{GivenValue}
use Rattle.graphql_arguments.proofs.arguments.Arguments.get_index.Goals as goal

module _ {S : Type 0} (held : List (Bytes × Placed (GivenValue S))) (i : ℕ) where
  at-place : (p : Bytes × Placed (GivenValue S)) (name : Bytes) (v : InputValue S) → Some p ≡ slice_get held i → name ≡ p.0 → v ≡ value_told p.1.item
      → Some (name, v) ≡ option_map named_value (slice_get (map pair_told held) i)
  at-place p name v is named valued =
      let here : Some (name, v) ≡ Some (p.0, value_told p.1.item) = λ j. Some (named j, valued j) in
      here ∙ ap (λ o. option_map named_value (option_map pair_told o)) is ∙ ap (option_map named_value) (sym (slice_get-map pair_told held i))

  past-end : None ≡ slice_get held i → None ≡ option_map named_value (slice_get (map pair_told held) i)
  past-end is = ap (λ o. option_map named_value (option_map pair_told o)) is ∙ ap (option_map named_value) (sym (slice_get-map pair_told held i))

pub returns-in-Some : goal.returns-in-Some
returns-in-Some g c =
    at-place c.args.self.now.held.entries c.args.index (c.in-Some.name.now, c.in-Some.value.now) c.as_str.result.now c.value.result.now c.in-Some.ensures.entry c.as_str.ensures c.value.ensures

pub returns-in-None : goal.returns-in-None
returns-in-None g c = past-end c.args.self.now.held.entries c.args.index c.in-None.ensures.entry

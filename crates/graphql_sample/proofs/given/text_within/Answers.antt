use Rattle.std.proofs.Common.{Option, List, ◌∙◌, ap, sym}
use Rattle.std.specs.List.{find}
use Rattle.std.specs.Option.{option_and_then, option_copied}
use Rattle.std.specs.Str.{bytes_eq}
use Rattle.graphql_names.specs.Names.{Bytes}
use Rattle.graphql_scalars.specs.declared.default_scalar.DefaultScalarValue.{DefaultScalarValue}
use Rattle.graphql_values.specs.InputValues.{Pair}
use Rattle.graphql_values.specs.declared.input_value.InputValue.{InputValue}
use Rattle.graphql_values.specs.declared.input_value.InputValue.TheVariants as value
use Rattle.graphql_sample.specs.Sample.{field_layer, text_of, text_within}
use Rattle.graphql_sample.proofs.given.text_within.Goals as goal

abbrev text_in : Option (Pair (InputValue DefaultScalarValue)) → Option Bytes
text_in = option_and_then (λ p. text_of p.1.item)

pub returns-in-Some : goal.returns-in-Some
returns-in-Some c =
    let name = c.args.name.now in
    let pairs = c.in-Object.pairs in
    let first : List (Pair (InputValue DefaultScalarValue)) → Option (Pair (InputValue DefaultScalarValue)) = find (λ p. bytes_eq p.0.item name) in
    c.text_of.ensures
    ∙ ap (λ o. text_in (option_copied o)) (sym c.in-Some.is)
    ∙ ap text_in c.first_named.ensures
    ∙ ap (λ ps. text_in (first ps)) c.as_slice.ensures
    ∙ sym (ap (field_layer name) (value.outs-Object pairs))
    ∙ ap (text_within name) (sym c.in-Object.is)

-- The extensions of an error have distinct keys, whichever texts are told.
use Rattle.std.proofs.Common.{List, [], ◌∷◌, map, Option, Some, None}
use Rattle.std.specs.List.{All}
use Rattle.std.specs.Map.{values_of}
use Rattle.std.proofs.lemmas.List.Elements.{All-cons, All-nil}
use Rattle.graphql_names.specs.Names.{Bytes}
use Rattle.graphql_scalars.specs.declared.default_scalar.DefaultScalarValue.TheVariants as scalar
use Rattle.graphql_output_values.specs.DistinctKeys.{HasDistinctKeysThroughout}
use Rattle.graphql_output_values.specs.Objects.{with_fields}
use Rattle.graphql_output_values.specs.declared.value.Value.TheVariants as value
use Rattle.graphql_output_values.proofs.DistinctKeyLaws.{by_forms, made_throughout}
use Rattle.graphql_resolvers.specs.Refusals.{extensions, text_pair}

distinct_texts : (pairs : List (Bytes × Bytes)) → All HasDistinctKeysThroughout (values_of (map text_pair pairs))
distinct_texts [] = All-nil HasDistinctKeysThroughout
distinct_texts (p ∷ ps) =
    All-cons HasDistinctKeysThroughout (value.Scalar (scalar.String p.1)) (values_of (map text_pair ps)) (by_forms.1 (scalar.String p.1)) (distinct_texts ps)

pub distinct_extensions : (beside : Option (List (Bytes × Bytes))) → HasDistinctKeysThroughout (extensions beside)
distinct_extensions None = by_forms.0
distinct_extensions (Some pairs) = (by_forms.3 (record { fields = with_fields [] (map text_pair pairs) })).1 (made_throughout (map text_pair pairs) (distinct_texts pairs))

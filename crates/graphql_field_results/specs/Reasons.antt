-- An error that tells nothing beside its reason.
use Rattle.std.specs.Prelude.{ℕ, List, Err}
use Rattle.std.specs.List.{All, IsDistinct}
use Rattle.std.specs.Str.{bytes_eq}
use Rattle.std.proofs.Common.{sym, subst}
use Rattle.std.proofs.lemmas.List.Elements.{All-nil}
use Rattle.graphql_output_values.specs.DistinctKeys.{keys_layer, keys_fields_layer}
use Rattle.graphql_output_values.specs.ValueEquations.{fold_null}
use Rattle.graphql_field_results.specs.Answered.{TellsInDistinctKeys}
use Rattle.graphql_field_results.specs.IntoFieldErrors.{only_reason}

-- so it tells nothing that has a key
pub reason_alone : {S A : Type 0} (message : List ℕ)
    → TellsInDistinctKeys {S = S} {A = A} (Err (only_reason message))
reason_alone message = record {
  beside = subst (All (IsDistinct bytes_eq)) (sym (fold_null keys_layer keys_fields_layer))
      (All-nil (IsDistinct bytes_eq));
}

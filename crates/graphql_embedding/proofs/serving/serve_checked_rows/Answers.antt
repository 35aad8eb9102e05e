use Rattle.std.proofs.Common.{◌≡◌, ◌++◌, ◌∙◌, List, ap, map, refl, rules}
use Rattle.std.specs.Borrow.{Bor}
use Rattle.graphql_names.specs.Names.{Bytes}
use Rattle.std.proofs.lemmas.Result.{err_from_is_err_and}
use Rattle.graphql_schema_rows.specs.Types.{row_names}
use Rattle.graphql_embedding.proofs.Runs.{ran_over_rows}
use Rattle.graphql_embedding.proofs.serving.serve_checked_rows.Goals as goal

pub returns-in_err-declared-clause-ran : goal.returns-in_err-declared-clause-ran
returns-in_err-declared-clause-ran g c =
    let error = err_from_is_err_and c.from_residual-in_err-declared.result c.from_residual-in_err-declared.ensures.1 in
    rw (error.1, error.2) (c.in_err-declared.ensures, (refl, refl))

pub returns-clause-ran : goal.returns-clause-ran
returns-clause-ran g c =
    let whole : c.append.new.self ≡ c.in_ok-types.types ++ c.in_ok-declared.declared = search rules in
    let texts : List (Bor Bytes) → List Bytes = map (λ name. name.now) in
    let named : texts c.as_slice-2.result.now ≡ row_names c.args.rows.types.items =
    ap texts c.as_slice-2.ensures ∙ c.in_ok-row_names.ensures ∙ ap row_names c.as_slice.ensures.value in
    ran_over_rows _ _ _ _ _ _ c.in_ok-declared.declared c.in_ok-declared.ensures _ (rw c.in_ok-types.ensures at whole)
    (texts c.as_slice-2.result.now) named _ _ _ _ _ _
    c.serve_types.result c.serve_types.ensures.ran

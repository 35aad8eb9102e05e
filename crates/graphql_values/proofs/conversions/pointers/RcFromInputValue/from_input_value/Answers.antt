use Rattle.std.proofs.lemmas.Result.{err_from_is_err_and}
use Rattle.graphql_values.proofs.conversions.pointers.RcFromInputValue.from_input_value.Goals as goal

pub returns-in_err-meant : goal.returns-in_err-meant
returns-in_err-meant g c =
    let p = err_from_is_err_and c.from_residual.result c.from_residual.ensures.1 in rw (p.1, p.2) (c.in_err-meant.ensures)

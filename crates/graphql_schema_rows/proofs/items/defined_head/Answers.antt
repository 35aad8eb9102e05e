use Rattle.std.proofs.Common.{inl}
use Rattle.graphql_schema_rows.proofs.items.defined_head.Goals as goal

pub returns-in_ok-bad_row-in-Err : goal.returns-in_ok-bad_row-in-Err
returns-in_ok-bad_row-in-Err c = λ told. inl (record { at = c.in-Err.fault; refused = c.in-Err.ensures.fault c.in_ok-bad_row-in-Err.ensures.0; is = c.in_ok-bad_row-in-Err.ensures.1 })

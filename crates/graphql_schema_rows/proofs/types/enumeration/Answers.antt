use Rattle.std.proofs.Common.{inl, inr, rules}
use Rattle.graphql_schema_rows.specs.Rows.{RefusedAt, RefusesHead, RefusesValue}
use Rattle.graphql_schema_rows.proofs.Described.{handed_on}
use Rattle.graphql_schema_rows.proofs.types.enumeration.Goals as goal

pub returns-in_err-own : goal.returns-in_err-own
returns-in_err-own g c = handed_on _ (RefusesHead c.args.head) c.from_residual.result c.from_residual.ensures.1 c.in_err-own.ensures (λ e refused. inl refused)

pub returns-in_err-values_of : goal.returns-in_err-values_of
returns-in_err-values_of g c =
    handed_on _ (RefusedAt (RefusesValue g.S.ParseScalarValue.reads g.S.ScalarValue.of_bool g.S.ScalarValue.answer c.args.head.now) c.args.rows.now) c.from_residual-in_err-values_of.result c.from_residual-in_err-values_of.ensures.1 c.in_err-values_of.ensures (λ e refused. inr refused)

pub returns : goal.returns
returns g c = record {
  own = c.in_ok-own.own;
  headed = c.in_ok-own.ensures;
  parts = c.in_ok-values_of.field-0;
  defined = c.in_ok-values_of.ensures;
  is = search rules;
}

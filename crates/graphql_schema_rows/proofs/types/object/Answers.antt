use Rattle.std.proofs.Common.{inl, inr, rules}
use Rattle.graphql_schema_rows.specs.Rows.{RefusedAt, RefusesField, RefusesHead, RefusesName}
use Rattle.graphql_schema_rows.proofs.Described.{handed_on}
use Rattle.graphql_schema_rows.proofs.types.object.Goals as goal

pub returns-in_err-own : goal.returns-in_err-own
returns-in_err-own g c = handed_on _ (RefusesHead c.args.head) c.from_residual.result c.from_residual.ensures.1 c.in_err-own.ensures (λ e refused. inl (inl refused))

pub returns-in_err-listed : goal.returns-in_err-listed
returns-in_err-listed g c =
    handed_on _ (RefusedAt RefusesName c.args.interfaces.now) c.from_residual-in_err-listed.result c.from_residual-in_err-listed.ensures.1 c.in_err-listed.ensures (λ e refused. inr refused)

pub returns-in_err-fields_of : goal.returns-in_err-fields_of
returns-in_err-fields_of g c =
    handed_on _ (RefusedAt (RefusesField g.S.ParseScalarValue.reads g.S.ScalarValue.of_bool g.S.ScalarValue.answer c.args.head.now) c.args.rows.now) c.from_residual-in_err-fields_of.result c.from_residual-in_err-fields_of.ensures.1 c.in_err-fields_of.ensures (λ e refused. inl (inr refused))

pub returns : goal.returns
returns g c = record {
  own = c.in_ok-own.own;
  headed = c.in_ok-own.ensures;
  parts = c.in_ok-fields_of.field-0;
  defined = c.in_ok-fields_of.ensures;
  names = c.in_ok-listed.listed;
  lists = c.in_ok-listed.ensures;
  is = search rules;
}

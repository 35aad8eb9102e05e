use Rattle.std.proofs.Common.{inl, inr, rules}
use Rattle.graphql_schema_rows.specs.Rows.{RefusedAt, RefusesHead, RefusesName}
use Rattle.graphql_schema_rows.proofs.Described.{handed_on}
use Rattle.graphql_schema_rows.proofs.types.union_type.Goals as goal

pub returns-in_err-own : goal.returns-in_err-own
returns-in_err-own g c = handed_on _ (RefusesHead c.args.head) c.from_residual.result c.from_residual.ensures.1 c.in_err-own.ensures (λ e refused. inl refused)

pub returns-in_err-members : goal.returns-in_err-members
returns-in_err-members g c =
    handed_on _ (RefusedAt RefusesName c.args.members.now) c.from_residual-in_err-members.result c.from_residual-in_err-members.ensures.1 c.in_err-members.ensures (λ e refused. inr refused)

pub returns : goal.returns
returns g c = record {
  own = c.in_ok-own.own;
  headed = c.in_ok-own.ensures;
  parts = c.in_ok-members.members;
  defined = c.in_ok-members.ensures;
  is = search rules;
}

use Rattle.std.proofs.Common.{inl, inr}
use Rattle.graphql_service.specs.Answers.{asked_by, no_request, not_executed, executed_to}
use Rattle.graphql_service.proofs.laws.answer_lines_fit.Goals as goal

pub returns : goal.returns
returns g c = λ service line answered old new is. elim is [
  | no_request refusal due e kept ↦ inl (inl (refusal, due, e))
  | not_executed refusal due e kept ↦ inl (inr (refusal, due, e))
  | executed_to found errors ex e ↦ inr (record {
    request = ex.request;
    asks = ex.asks;
    document = ex.answers.document;
    operation = ex.answers.operation;
    executable = ex.answers.executable;
    root = ex.answers.yields.root;
    served = ex.answers.yields.served;
    found = found;
    errors = errors;
    is = e;
    fits = c.answers_fit.ensures _ _ _ old new found errors ex.answers;
  })
]

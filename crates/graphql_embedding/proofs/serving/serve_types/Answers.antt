use Rattle.std.proofs.Common.{refl, subst}
use Rattle.std.proofs.lemmas.Result.{err_from_is_err_and}
use Rattle.graphql_embedding.proofs.Runs.{refused_defaults}
use Rattle.graphql_embedding.proofs.serving.serve_types.Goals as goal

pub returns-in_err-schema-clause-ran : goal.returns-in_err-schema-clause-ran
returns-in_err-schema-clause-ran g c =
    let error = err_from_is_err_and c.from_residual.result c.from_residual.ensures.1 in
    rw (error.1, error.2) (c.in_err-schema.ensures.made, (refl, refl))

pub returns-in_err-judge_defaults-clause-ran : goal.returns-in_err-judge_defaults-clause-ran
returns-in_err-judge_defaults-clause-ran g c =
    let error = err_from_is_err_and c.from_residual-in_err-judge_defaults.result c.from_residual-in_err-judge_defaults.ensures.1 in
    rw (error.1, error.2) (refused_defaults _ _ _ _ _ _ c.in_ok-schema.schema c.in_ok-schema.ensures.made _ _ _ _ c.in_err-judge_defaults.field-0.0 c.in_err-judge_defaults.ensures)

pub returns-in_err-service-clause-ran : goal.returns-in_err-service-clause-ran
returns-in_err-service-clause-ran g c =
    let error = err_from_is_err_and c.from_residual-in_err-service.result c.from_residual-in_err-service.ensures.1 in
    rw (error.1, error.2)
    ((c.new-root_node.result, c.in_ok-schema.schema, c.new-root_node.ensures, c.in_ok-schema.ensures.made, c.in_ok-judge_defaults.ensures, c.in_err-service.ensures), (refl, refl))

pub returns-in_err-serve-clause-ran : goal.returns-in_err-serve-clause-ran
returns-in_err-serve-clause-ran g c =
    let error = err_from_is_err_and c.from_residual-in_err-serve.result c.from_residual-in_err-serve.ensures.1 in
    let made = rw c.new-root_node.ensures at c.in_ok-service.ensures in
    rw (error.1, error.2) (record {
      service = c.in_ok-service.service;
      described = record { schema = c.in_ok-schema.schema; made = c.in_ok-schema.ensures.made; fit = c.in_ok-judge_defaults.ensures; parts = made.0; truth = made.1 };
      after = c.serve.new.self.context;
      run = c.in_err-serve.ensures.ended;
    })

pub returns-clause-ran : goal.returns-clause-ran
returns-clause-ran g c =
    let made = rw c.new-root_node.ensures at c.in_ok-service.ensures in
    record {
      service = c.in_ok-service.service;
      described = record { schema = c.in_ok-schema.schema; made = c.in_ok-schema.ensures.made; fit = c.in_ok-judge_defaults.ensures; parts = made.0; truth = made.1 };
      after = c.serve.new.self.context;
      run = c.in_ok-serve.ensures.served;
    }

pub returns-in_err-serve-clause-reads : goal.returns-in_err-serve-clause-reads
returns-in_err-serve-clause-reads g c =
    let error = err_from_is_err_and c.from_residual-in_err-serve.result c.from_residual-in_err-serve.ensures.1 in
    rw (error.1, error.2) c.in_err-serve.ensures.reads

pub returns-in_err-serve-clause-writes : goal.returns-in_err-serve-clause-writes
returns-in_err-serve-clause-writes g c =
    let error = err_from_is_err_and c.from_residual-in_err-serve.result c.from_residual-in_err-serve.ensures.1 in
    rw (error.1, error.2) c.in_err-serve.ensures.writes

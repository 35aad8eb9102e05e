use Rattle.std.proofs.Common.{[], ◌∷◌, ◌++◌, ap, ◌∙◌}
use Rattle.graphql_rule_errors.proofs.ReportLemmas.{reports_behind}
use Rattle.graphql_rule_errors.proofs.repeats.report.Goals as goal

pub returns-clause-places : goal.returns-clause-places
returns-clause-places c =
    reports_behind (c.args.places.now ∷ []) (c.in_ok-error.error ∷ []) c.args.errors.now c.push.new.self c.in_ok-push.ensures.ok
    (ap (λ at. at ∷ []) c.in_ok-error.ensures.locations)

pub returns-clause-error : goal.returns-clause-error
returns-clause-error c =
    c.in_ok-push.ensures.ok
    ∙ (λ i. c.args.errors.now ++ record { locations = c.in_ok-error.ensures.locations i; message = (c.in_ok-error.ensures.message ∙ c.from_string.ensures) i } ∷ [])

use Rattle.std.proofs.Common.{◌++◌, ap, ◌∙◌}
use Rattle.std.specs.List.{flat_map}
use Rattle.graphql_values.specs.Pending.{steps_ahead}
use Rattle.graphql_values.proofs.StepLemmas.{steps_tell_variables, told_variables}
use Rattle.graphql_values.proofs.input_value.InputValue.referenced_variables.Goals as goal

pub steps-init : goal.steps-init
steps-init g c =
    ap (λ names. names ++ flat_map told_variables (steps_ahead c.in_ok-walk.walk)) c.new-found.ensures
    ∙ ap (flat_map told_variables) c.in_ok-walk.ensures
    ∙ steps_tell_variables c.args.self.now

use Rattle.std.proofs.Common.{[], ap, sym, ◌∙◌}
use Rattle.std.proofs.lemmas.List.Sums.{fold-append}
use Rattle.graphql_written_out.specs.FinalVariables.{value_in}
use Rattle.graphql_arguments.specs.ArgumentValues.{declared_defaults, with_value, with_values, written_values}
use Rattle.graphql_arguments.specs.GivenValues.{values_told}
use Rattle.graphql_arguments.proofs.arguments.Arguments.new.Goals as goal

pub returns : goal.returns
returns g c =
    let written = written_values (value_in c.args.variables.now) c.args.written.now in
    let defaults = declared_defaults c.args.declared.now in
    c.in_ok-put_defaults.ensures
    ∙ ap (λ vs. with_values vs defaults) (c.in_ok-put_written.ensures ∙ ap (λ es. with_values (values_told es) written) c.new-held.ensures.empty)
    ∙ sym (fold-append with_value [] written defaults)

use Rattle.std.proofs.Common.{ap, sym, ◌∙◌}
use Rattle.std.specs.Option.{option_map}
use Rattle.graphql_written_out.specs.FinalVariables.{value_in}
use Rattle.graphql_arguments.specs.ArgumentValues.{filled_argument, with_value}
use Rattle.graphql_arguments.specs.GivenValues.{value_told, values_told}
use Rattle.graphql_arguments.proofs.FirstValues.{kept_more, put_more}
use Rattle.graphql_arguments.proofs.filling.put_written.Goals as goal
use Rattle.graphql_arguments.proofs.filling.put_written.Goals.{in-Some+in_ok-put_value, in_default}

pub loop-argument-preserved : goal.loop-argument-preserved
loop-argument-preserved g c =
    let fills = filled_argument (value_in c.args.variables.now) in
    let written = c.args.written.now in
    let i = c.loop-argument.argument-index in
    let argument = c.argument-item.result in
    let start = values_told c.args.values.now.entries in
    let before = values_told c.loop-argument.values.entries in
    let after = values_told c.match-branch-2.values.entries in
    elim c.match-branch-2.branch [
      | in-Some+in_ok-put_value w ↦
          put_more fills written i argument start before after (argument.0.item, record { item = value_told w.in-Some.item; span = argument.1.span }) c.loop-argument.invariant c.loop-argument-test.true c.argument-item.is
          (ap (option_map (λ v. (argument.0.item, record { item = v; span = argument.1.span }))) (sym c.in_ok-item.ensures ∙ ap (option_map value_told) w.in-Some.is))
          (ap (λ m. values_told m.entries) w.values-is ∙ w.in_ok-put_value.ensures ∙ ap (λ n. with_value before (n, record { item = value_told w.in-Some.item; span = argument.1.span })) w.copied.ensures)
      | in_default w ↦
          kept_more fills written i argument start before after c.loop-argument.invariant c.loop-argument-test.true c.argument-item.is
          (ap (option_map (λ v. (argument.0.item, record { item = v; span = argument.1.span }))) (sym c.in_ok-item.ensures ∙ ap (option_map value_told) w.in_default.is))
          (ap (λ m. values_told m.entries) w.values-is)
    ]

use Rattle.std.proofs.Common.{ap, ◌∙◌}
use Rattle.std.specs.Option.{option_map}
use Rattle.graphql_values.specs.InputValues.{unplaced}
use Rattle.graphql_arguments.specs.ArgumentValues.{default_of, with_value}
use Rattle.graphql_arguments.specs.GivenValues.{pair_told, values_told}
use Rattle.graphql_arguments.proofs.FirstValues.{kept_more, put_more}
use Rattle.graphql_arguments.proofs.filling.put_defaults.Goals as goal
use Rattle.graphql_arguments.proofs.filling.put_defaults.Goals.{in-Some+in_ok-put_value, in_default}

pub loop-argument-preserved : goal.loop-argument-preserved
loop-argument-preserved g c =
    let declared = c.args.declared.now in
    let i = c.loop-argument.argument-index in
    let argument = c.argument-item.result in
    let start = values_told c.args.values.now.entries in
    let before = values_told c.loop-argument.values.entries in
    let after = values_told c.match-argument.values.entries in
    elim c.match-argument.branch [
      | in-Some+in_ok-put_value w ↦
          put_more default_of declared i argument start before after (argument.name, unplaced w.in-Some.value) c.loop-argument.invariant c.loop-argument-test.true c.argument-item.is
          (ap (option_map (λ v. (argument.name, unplaced v))) w.in-Some.is)
          (ap (λ m. values_told m.entries) w.values-is ∙ w.in_ok-put_value.ensures ∙ (λ j. with_value before (pair_told ((w.new-name.ensures ∙ w.as_str.ensures) j, w.unlocated.ensures j))))
      | in_default w ↦
          kept_more default_of declared i argument start before after c.loop-argument.invariant c.loop-argument-test.true c.argument-item.is
          (ap (option_map (λ v. (argument.name, unplaced v))) w.in_default.is)
          (ap (λ m. values_told m.entries) w.values-is)
    ]

use Rattle.std.proofs.Common.{◌≡◌, ◌++◌, length}
use Rattle.std.specs.List.{flat_map}
use Rattle.graphql_json.specs.Json.{step_json}
use Rattle.graphql_json.specs.Writing.{KeepsFront}
use Rattle.graphql_output_values.specs.Pending.{steps_ahead}
use Rattle.graphql_json.proofs.to_json.steps_to_json.Given as goal

-- what was written, and then what is left to be, is the whole
abbrev pub invariant-steps : goal.invariant-steps
invariant-steps g l =
    let texts = flat_map (step_json g.S.ScalarValue.answer) in
    record {
      written : l.out.items ++ texts (steps_ahead l.walk) ≡ l.initial.out.items ++ texts (steps_ahead l.initial.walk);
      front : KeepsFront l.fn.out.items l.out.items;
    }

abbrev pub decreases-steps : goal.decreases-steps
decreases-steps g l = length (steps_ahead l.walk)

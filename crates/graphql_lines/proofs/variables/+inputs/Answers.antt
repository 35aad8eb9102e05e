use Rattle.std.proofs.Common.{rules, ◌≡◌, ◌++◌, [], ◌∷◌, Some, string_bytes}
use Rattle.serde_json.specs.View.{view}
use Rattle.graphql_values.specs.InputValues.{unplaced_pair}
use Rattle.graphql_lines.specs.Variables.{input_of}
use Rattle.graphql_lines.proofs.Turns.{member_turn}
use Rattle.graphql_lines.proofs.variables.+inputs.Goals as goal

pub object-members-preserved : goal.object-members-preserved
object-members-preserved g t c =
    let scalars = g.S.ScalarValue in
    let value = c.in-Some-2.value in
    let means : input_of scalars.of_bool scalars.of_int scalars.of_text (view c.in-Some.member) ≡ Some value = search rules in
    let pushed : c.push.new.self ≡ c.members.found ++ unplaced_pair (string_bytes c.in-Some.key, value) ∷ [] = search rules in
    member_turn scalars.of_bool scalars.of_int scalars.of_text _ c.members.key-iterator c.next.new.self (c.in-Some.key, c.in-Some.member) value c.members.found c.push.new.self c.in-Some.ensures.steps means pushed c.members.invariant

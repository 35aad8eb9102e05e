use Rattle.std.proofs.Common.{rules, ◌≡◌, ◌++◌, [], ◌∷◌, Some, string_bytes}
use Rattle.serde_json.specs.View.{view}
use Rattle.graphql_data_files.specs.FileValues.{file_value}
use Rattle.graphql_data_files.proofs.ValueTurns.{member_turn}
use Rattle.graphql_data_files.proofs.values.fields_of.Goals as goal

pub members-preserved : goal.members-preserved
members-preserved c =
    let value = c.in-Some-2.value in
    let means : file_value (view c.in-Some.member.now) ≡ Some value = search rules in
    let pushed : c.push.new.self ≡ c.members.found ++ (string_bytes c.in-Some.key.now, value) ∷ [] = search rules in
    member_turn _ c.members.key-iterator c.next.new.self (c.in-Some.key.now, c.in-Some.member.now) value c.members.found c.push.new.self c.in-Some.ensures.steps means pushed c.members.invariant

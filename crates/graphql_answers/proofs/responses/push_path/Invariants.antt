use Rattle.std.proofs.Common.{◌≡◌, ◌++◌, [], map}
use Rattle.graphql_json.specs.Json.{json_text, joined}
use Rattle.graphql_json.specs.Writing.{KeepsFront}
use Rattle.graphql_answers.proofs.Parts.{left_of}
use Rattle.graphql_answers.proofs.responses.push_path.Given as goal

-- what was written, and then what is left to be, is the whole
abbrev pub invariant-keys : goal.invariant-keys
invariant-keys l = record {
  written : l.out.items ++ left_of json_text l.gap l.key-index l.path ≡ l.fn.out.items ++ joined [] (map json_text l.path);
  front : KeepsFront l.fn.out.items l.out.items;
}

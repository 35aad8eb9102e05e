use Rattle.std.proofs.Common.{◌≡◌, ◌++◌, [], map}
use Rattle.graphql_json.specs.Json.{joined}
use Rattle.graphql_json.specs.Writing.{KeepsFront}
use Rattle.graphql_answers.specs.Texts.{request_error_text}
use Rattle.graphql_answers.proofs.Parts.{left_of}
use Rattle.graphql_answers.proofs.refusals.push_request_errors.Given as goal

-- what was written, and then what is left to be, is the whole
abbrev pub invariant-errors : goal.invariant-errors
invariant-errors l = record {
  written : l.out.items ++ left_of request_error_text l.gap l.error-index l.errors ≡ l.fn.out.items ++ joined [] (map request_error_text l.errors);
  front : KeepsFront l.fn.out.items l.out.items;
}

use Rattle.std.proofs.Common.{◌≡◌, ◌++◌, [], map}
use Rattle.graphql_json.specs.Json.{joined}
use Rattle.graphql_json.specs.Writing.{KeepsFront}
use Rattle.graphql_answers.specs.Texts.{field_error_text}
use Rattle.graphql_answers.proofs.Parts.{left_of}
use Rattle.graphql_answers.proofs.responses.push_field_errors.Given as goal

-- what was written, and then what is left to be, is the whole
abbrev pub invariant-errors : goal.invariant-errors
invariant-errors g l = record {
  written : l.out.items ++ left_of (field_error_text g.S.ScalarValue.answer) l.gap l.error-index l.errors ≡ l.fn.out.items ++ joined [] (map (field_error_text g.S.ScalarValue.answer) l.errors);
  front : KeepsFront l.fn.out.items l.out.items;
}

use Rattle.std.proofs.Common.{◌++◌, [], map}
use Rattle.graphql_json.specs.Json.{joined}
use Rattle.graphql_answers.specs.Texts.{field_error_text}
use Rattle.graphql_answers.proofs.Parts.{one_more, front_more}
use Rattle.graphql_answers.proofs.responses.push_field_errors.Goals as goal

pub errors-preserved : goal.errors-preserved
errors-preserved g c =
    let text = field_error_text g.S.ScalarValue.answer in
    record {
      written =
          one_more text (c.args.out.now.items ++ joined [] (map text c.args.errors.now)) c.errors.out.items c.errors.gap.now c.extend_from_slice.new.self.items
          c.push_field_error.new.out.items c.errors.error-index c.args.errors.now c.error-item.result c.errors-test.true c.error-item.is c.errors.invariant.written
          c.in_ok-extend_from_slice.ensures.items c.in_ok-push_field_error.ensures.written;
      front =
          front_more c.args.out.now.items c.errors.out.items c.errors.gap.now c.extend_from_slice.new.self.items c.push_field_error.new.out.items
          c.errors.invariant.front c.in_ok-extend_from_slice.ensures.items c.push_field_error.ensures.front;
    }

pub returns-in_err-push_field_error-clause-front : goal.returns-in_err-push_field_error-clause-front
returns-in_err-push_field_error-clause-front g c =
    front_more c.args.out.now.items c.errors.out.items c.errors.gap.now c.extend_from_slice.new.self.items c.push_field_error.new.out.items
    c.errors.invariant.front c.in_ok-extend_from_slice.ensures.items c.push_field_error.ensures.front

use Rattle.std.proofs.Common.{◌≡◌, ◌++◌, [], map, ap₂, ◌∙◌}
use Rattle.graphql_json.specs.Json.{joined}
use Rattle.graphql_answers.specs.Texts.{request_error_text}
use Rattle.graphql_answers.proofs.Parts.{one_more, front_more}
use Rattle.graphql_answers.proofs.refusals.push_request_errors.Goals as goal

pub errors-preserved : goal.errors-preserved
errors-preserved c =
    let a = c.extend_from_slice.new.self.items in
    let e = c.error-item.result in
    let told : c.push_request_error.new.out.items ≡ a ++ request_error_text e =
    c.in_ok-push_request_error.ensures.written ∙ ap₂ (λ ps m. a ++ request_error_text (record { locations = ps; message = m })) c.locations.ensures c.message.ensures in
    record {
      written =
          one_more request_error_text (c.args.out.now.items ++ joined [] (map request_error_text c.args.errors.now)) c.errors.out.items c.errors.gap.now a
          c.push_request_error.new.out.items c.errors.error-index c.args.errors.now e c.errors-test.true c.error-item.is c.errors.invariant.written c.in_ok-extend_from_slice.ensures.items told;
      front =
          front_more c.args.out.now.items c.errors.out.items c.errors.gap.now c.extend_from_slice.new.self.items c.push_request_error.new.out.items
          c.errors.invariant.front c.in_ok-extend_from_slice.ensures.items c.push_request_error.ensures.front;
    }

pub returns-in_err-push_request_error-clause-front : goal.returns-in_err-push_request_error-clause-front
returns-in_err-push_request_error-clause-front c =
    front_more c.args.out.now.items c.errors.out.items c.errors.gap.now c.extend_from_slice.new.self.items c.push_request_error.new.out.items
    c.errors.invariant.front c.in_ok-extend_from_slice.ensures.items c.push_request_error.ensures.front

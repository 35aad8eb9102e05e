use Rattle.std.proofs.Common.{◌≡◌, ◌++◌, OnOk, codes, rules}
use Rattle.graphql_json.specs.Json.{json_text}
use Rattle.graphql_answers.specs.Texts.{locations_text}
use Rattle.graphql_answers.proofs.Parts.{four_parts}
use Rattle.graphql_answers.proofs.refusals.push_request_error.Goals as goal

pub returns-clause-written : goal.returns-clause-written
returns-clause-written c =
    let o = c.args.out.now.items in
    let a = c.extend_from_slice.new.self.items in
    let b = c.text_to_json.new.out.items in
    let d = c.push_locations.new.out.items in
    let n = c.extend_from_slice-2.new.self.items in
    let first : a ≡ o ++ codes "{\"message\":" = c.in_ok-extend_from_slice.ensures.items in
    let end : OnOk c.extend_from_slice-2.result (n ≡ d ++ codes "}") = search rules in
    four_parts c.extend_from_slice-2.result o (codes "{\"message\":") a (json_text c.args.message.now) b (locations_text c.args.places.now) d (codes "}") n first c.in_ok-text_to_json.ensures.written c.in_ok-push_locations.ensures.written end

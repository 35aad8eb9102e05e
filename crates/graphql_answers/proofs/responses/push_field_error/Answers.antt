use Rattle.std.proofs.Common.{◌≡◌, ◌++◌, OnOk, codes, ap, ◌∙◌, rules}
use Rattle.graphql_json.specs.Json.{json_text}
use Rattle.graphql_answers.specs.Texts.{where_text, extensions_text}
use Rattle.graphql_answers.proofs.Parts.{five_parts}
use Rattle.graphql_answers.proofs.responses.push_field_error.Goals as goal

pub returns-clause-written : goal.returns-clause-written
returns-clause-written g c =
    let o = c.args.out.now.items in
    let e = c.args.error.now in
    let texts = extensions_text g.S.ScalarValue.answer in
    let a = c.extend_from_slice.new.self.items in
    let b = c.text_to_json.new.out.items in
    let d = c.push_where.new.out.items in
    let w = c.push_extensions.new.out.items in
    let n = c.extend_from_slice-2.new.self.items in
    let first : a ≡ o ++ codes "{\"message\":" = c.in_ok-extend_from_slice.ensures.items in
    let second : b ≡ a ++ json_text e.error.message = c.in_ok-text_to_json.ensures.written ∙ ap (λ t. a ++ json_text t) (c.message.ensures ∙ ap (λ f. f.message) c.error.ensures) in
    let fourth : w ≡ d ++ texts e.error.extensions = c.in_ok-push_extensions.ensures.written ∙ ap (λ v. d ++ texts v) (c.extensions.ensures ∙ ap (λ f. f.extensions) c.error-2.ensures) in
    let end : OnOk c.extend_from_slice-2.result (n ≡ w ++ codes "}") = search rules in
    five_parts c.extend_from_slice-2.result o (codes "{\"message\":") a (json_text e.error.message) b (where_text e) d (texts e.error.extensions) w (codes "}") n first second c.in_ok-push_where.ensures.written fourth end

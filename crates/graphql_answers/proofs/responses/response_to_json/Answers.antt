use Rattle.std.proofs.Common.{◌≡◌, ◌++◌, OnOk, codes, subst, sym, rules}
use Rattle.graphql_json.specs.Json.{json}
use Rattle.graphql_names.specs.Names.{Bytes}
use Rattle.graphql_answers.specs.Texts.{errors_text}
use Rattle.graphql_answers.proofs.Parts.{four_parts}
use Rattle.graphql_answers.proofs.Written.{of_response}
use Rattle.graphql_answers.proofs.responses.response_to_json.Goals as goal

pub returns-clause-written : goal.returns-clause-written
returns-clause-written g c =
    let s = g.S.ScalarValue in
    let o = c.args.out.now.items in
    let v = c.args.value.now in
    let a = c.extend_from_slice.new.self.items in
    let b = c.value_to_json.new.out.items in
    let d = c.push_errors.new.out.items in
    let n = c.extend_from_slice-2.new.self.items in
    let first : a ≡ o ++ codes "{\"data\":" = c.in_ok-extend_from_slice.ensures.items in
    let end : OnOk c.extend_from_slice-2.result (n ≡ d ++ codes "}") = search rules in
    let whole = four_parts c.extend_from_slice-2.result o (codes "{\"data\":") a (json s.answer v) b (errors_text s.answer c.args.errors.now) d (codes "}") n first c.in_ok-value_to_json.ensures.written c.in_ok-push_errors.ensures.written end in
    let P : Bytes → Type 0 = λ t. OnOk c.extend_from_slice-2.result (n ≡ o ++ t) in
    subst P (sym (of_response s.answer v c.args.errors.now)) whole

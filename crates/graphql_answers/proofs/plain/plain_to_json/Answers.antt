use Rattle.std.proofs.Common.{◌≡◌, ◌++◌, OnOk, codes, subst, sym, rules}
use Rattle.graphql_json.specs.Json.{json_text}
use Rattle.graphql_names.specs.Names.{Bytes}
use Rattle.graphql_answers.proofs.Parts.{three_parts}
use Rattle.graphql_answers.proofs.Written.{of_plain_answer}
use Rattle.graphql_answers.proofs.plain.plain_to_json.Goals as goal

pub returns-clause-written : goal.returns-clause-written
returns-clause-written c =
    let o = c.args.out.now.items in
    let a = c.extend_from_slice.new.self.items in
    let b = c.text_to_json.new.out.items in
    let n = c.extend_from_slice-2.new.self.items in
    let first : a ≡ o ++ codes "{\"plain\":" = c.in_ok-extend_from_slice.ensures.items in
    let end : OnOk c.extend_from_slice-2.result (n ≡ b ++ codes "}") = search rules in
    let whole = three_parts c.extend_from_slice-2.result o (codes "{\"plain\":") a (json_text c.args.plain.now) b (codes "}") n first c.in_ok-text_to_json.ensures.written end in
    let P : Bytes → Type 0 = λ t. OnOk c.extend_from_slice-2.result (n ≡ o ++ t) in
    subst P (sym (of_plain_answer c.args.plain.now)) whole

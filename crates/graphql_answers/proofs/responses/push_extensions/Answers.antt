use Rattle.std.proofs.Common.{◌≡◌, ◌++◌, OnOk, codes, subst}
use Rattle.graphql_json.specs.Json.{json}
use Rattle.graphql_names.specs.Names.{Bytes}
use Rattle.graphql_answers.proofs.Parts.{two_parts}
use Rattle.graphql_answers.proofs.Written.{some_extensions}
use Rattle.graphql_answers.proofs.responses.push_extensions.Goals as goal

pub returns-clause-written : goal.returns-clause-written
returns-clause-written g c =
    let answer = g.S.ScalarValue.answer in
    let o = c.args.out.now.items in
    let v = c.args.beside.now in
    let a = c.extend_from_slice.new.self.items in
    let n = c.value_to_json.new.out.items in
    let first : a ≡ o ++ codes ",\"extensions\":" = c.in_ok-extend_from_slice.ensures.items in
    let whole = two_parts c.value_to_json.result o (codes ",\"extensions\":") a (json answer v) n first c.value_to_json.ensures.written in
    let P : Bytes → Type 0 = λ t. OnOk c.value_to_json.result (n ≡ o ++ t) in
    subst P (some_extensions answer v (λ e. let h = c.is_null.ensures.1 e in let k = c.if-is_null.false in cc)) whole

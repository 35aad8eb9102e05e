use Rattle.std.proofs.Common.{◌≡◌, ◌∷◌, [], ◌++◌, OnOk, codes, subst, sym, ap, ◌∙◌, append-nil, rules}
use Rattle.graphql_names.specs.Names.{Bytes}
use Rattle.graphql_rule_errors.specs.declared.rule_error.RuleError.{RuleError}
use Rattle.graphql_answers.specs.Texts.{request_error_text}
use Rattle.graphql_answers.proofs.Parts.{three_parts}
use Rattle.graphql_answers.proofs.Written.{of_refusal}
use Rattle.graphql_answers.proofs.refusals.refusal_to_json.Goals as goal

pub returns-clause-written : goal.returns-clause-written
returns-clause-written c =
    let error : RuleError = record { locations = c.args.places.now; message = c.args.message.now } in
    let o = c.args.out.now.items in
    let a = c.extend_from_slice.new.self.items in
    let b = c.push_request_error.new.out.items in
    let n = c.extend_from_slice-2.new.self.items in
    let first : a ≡ o ++ codes "{\"errors\":[" = c.in_ok-extend_from_slice.ensures.items in
    let end : OnOk c.extend_from_slice-2.result (n ≡ b ++ codes "]}") = search rules in
    let whole = three_parts c.extend_from_slice-2.result o (codes "{\"errors\":[") a (request_error_text error) b (codes "]}") n first c.in_ok-push_request_error.ensures.written end in
    let P : Bytes → Type 0 = λ t. OnOk c.extend_from_slice-2.result (n ≡ o ++ t) in
    subst P (sym (of_refusal (error ∷ [])
    ∙ ap (λ z. codes "{\"errors\":[" ++ (z ++ codes "]}")) (append-nil (request_error_text error)))) whole

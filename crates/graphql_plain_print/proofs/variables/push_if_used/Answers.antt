use Rattle.std.proofs.Common.{◌++◌, [], sym, ◌∙◌, ap, subst, append-nil, OnOk}
use Rattle.std.specs.List.{flat_map}
use Rattle.std.specs.String.{string_bytes}
use Rattle.graphql_names.specs.Names.{is_one_of}
use Rattle.graphql_plain_text.specs.PlainTexts.{spaced}
use Rattle.graphql_plain_text.specs.SpanTokens.{tokens_within}
use Rattle.graphql_plain_text.specs.TreeTokens.{variable_tokens}
use Rattle.graphql_plain_print.specs.Adding.{AddsTokens}
use Rattle.graphql_plain_print.proofs.OperationLemmas.{used-alone, used-not}
use Rattle.graphql_plain_print.proofs.variables.push_if_used.Goals as goal

pub returns-then-not-is_used : goal.returns-then-not-is_used
returns-then-not-is_used g c =
    let names = c.args.used.now.keys in
    let old = string_bytes c.args.text.now in
    let f = variable_tokens (tokens_within c.args.tokens.now.tokens) in
    sym (append-nil old)
    ∙ ap (λ l. old ++ spaced (flat_map f l)) (sym (used-not names c.args.definition.now [] (ap (is_one_of names) (sym c.as_str.ensures) ∙ sym c.is_used.ensures ∙ c.if-not-is_used.true)))

pub returns : goal.returns
returns g c =
    let names = c.args.used.now.keys in
    let f = variable_tokens (tokens_within c.args.tokens.now.tokens) in
    subst (λ l. OnOk c.push_definition.result (AddsTokens (string_bytes c.args.text.now) (string_bytes c.push_definition.new.text) l))
    (sym (used-alone names f c.args.definition.now (ap (is_one_of names) (sym c.as_str.ensures) ∙ sym c.is_used.ensures ∙ c.if-not-is_used.false)))
    c.push_definition.ensures

use Rattle.std.proofs.Common.{◌++◌, not, sym, ◌∙◌, ap, append-nil, take_all}
use Rattle.std.specs.List.{flat_map}
use Rattle.std.specs.String.{string_bytes}
use Rattle.graphql_plain_tree.specs.PlainOperations.{definitions_used}
use Rattle.graphql_plain_text.specs.PlainTexts.{spaced}
use Rattle.graphql_plain_text.specs.SpanTokens.{tokens_within}
use Rattle.graphql_plain_text.specs.TreeTokens.{variable_tokens}
use Rattle.graphql_plain_print.proofs.OperationLemmas.{adds-next, nothing-parenthesized, parenthesized, used-more}
use Rattle.graphql_plain_print.proofs.variables.push_definitions.Goals as goal

pub returns-then-not-is_one_used : goal.returns-then-not-is_one_used
returns-then-not-is_one_used g c =
    let old = string_bytes c.args.text.now in
    let f = variable_tokens (tokens_within c.args.tokens.now.tokens) in
    sym (append-nil old)
    ∙ ap (λ l. old ++ spaced l) (sym (nothing-parenthesized f (definitions_used c.args.used.now.keys c.args.definitions.now) (c.is_one_used.ensures ∙ ap not c.if-not-is_one_used.true)))

pub loop-definition-preserved : goal.loop-definition-preserved
loop-definition-preserved g c =
    let f = variable_tokens (tokens_within c.args.tokens.now.tokens) in
    adds-next _ _ _ _ _ _ c.loop-definition.invariant c.in_ok-push_if_used.ensures
    (sym (used-more c.args.used.now.keys f c.args.definitions.now c.loop-definition.definition-index c.definition-item.result c.loop-definition-test.true c.definition-item.is))

pub returns : goal.returns
returns g c =
    let names = c.args.used.now.keys in
    let f = variable_tokens (tokens_within c.args.tokens.now.tokens) in
    let first = string_bytes c.push_word.new.text in
    parenthesized f (definitions_used names c.args.definitions.now) (string_bytes c.args.text.now) first (string_bytes c.loop-definition.text) (string_bytes c.push_word-2.new.text)
    (c.is_one_used.ensures ∙ ap not c.if-not-is_one_used.false) c.in_ok-push_word.ensures
    (c.loop-definition.invariant
    ∙ ap (λ l. first ++ spaced (flat_map f (definitions_used names l))) (take_all c.loop-definition.definition-index c.args.definitions.now c.loop-definition-test.false))
    c.in_ok-push_word-2.ensures

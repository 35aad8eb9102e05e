use Rattle.std.proofs.Common.{◌≡◌, ◌++◌, sym, subst, ◌∙◌, ap, arith, append_assoc, OnOk}
use Rattle.std.specs.Option.{is_some}
use Rattle.std.specs.String.{string_bytes}
use Rattle.graphql_tree.specs.Documents.{arguments_in}
use Rattle.graphql_written_out.specs.Trees.{none}
use Rattle.graphql_written_out.specs.Written.{listed, response_key}
use Rattle.graphql_written_out.proofs.Layers.{written-nil}
use Rattle.graphql_plain_tree.specs.Plain.{size}
use Rattle.graphql_plain_tree.specs.PlainOperations.{variables_given, variables_used}
use Rattle.graphql_plain_text.specs.PlainTexts.{spaced}
use Rattle.graphql_plain_text.specs.SpanTokens.{tokens_within}
use Rattle.graphql_plain_text.specs.TreeTokens.{argument_tokens, name_tokens, in_parentheses}
use Rattle.graphql_plain_print.specs.Alone.{marks, set_tokens}
use Rattle.graphql_plain_print.specs.Frames.{stack_tokens, stack_uses}
use Rattle.graphql_plain_print.specs.NameSets.{AreSame}
use Rattle.graphql_plain_print.specs.Plans.{fragments_by, plain_by, written_by}
use Rattle.graphql_plain_print.proofs.NameLemmas.{same-added, same-append, same-as}
use Rattle.graphql_plain_print.proofs.StepLemmas.{empty-size, empty-tokens, empty-uses}
use Rattle.graphql_plain_print.proofs.TokenLemmas.{printed-head}
use Rattle.graphql_plain_print.proofs.printing.print_field.Goals as goal

pub returns-in-None-clause-text : goal.returns-in-None-clause-text
returns-in-None-clause-text g c =
    let x = c.args.field.now.item in
    let set = listed x.selection_set in
    let s = stack_tokens g.S.ScalarValue.answer g.S.ScalarValue.of_bool c.args.plan.now c.args.sets.now in
    let e : written_by c.args.plan.now set ≡ none = ap (λ o. written_by c.args.plan.now (listed o)) c.in-None.is ∙ written-nil (fragments_by c.args.plan.now) in
    let names = name_tokens (is_some x.alias) (response_key x.alias x.name) x.name.item in
    let args = in_parentheses (argument_tokens (tokens_within c.args.plan.now.tokens.now.tokens)) (arguments_in x.arguments) in
    printed-head (string_bytes c.args.text.now) (string_bytes c.push_head.new.text) (string_bytes c.push_stand_in.new.text) (string_bytes c.push_stand_in.new.text)
    names args (marks c.args.stands_in) (set_tokens g.S.ScalarValue.answer g.S.ScalarValue.of_bool c.args.plan.now set) s s
    c.in_ok-push_head.ensures c.in_ok-push_stand_in.ensures (ap (λ l. string_bytes c.push_stand_in.new.text ++ spaced (l ++ s)) (sym (empty-tokens g.S.ScalarValue.answer g.S.ScalarValue.of_bool c.args.plan.now set e)))

pub returns-in-None-clause-uses : goal.returns-in-None-clause-uses
returns-in-None-clause-uses g c =
    let x = c.args.field.now.item in
    let set = listed x.selection_set in
    let u = stack_uses g.S.ScalarValue.answer g.S.ScalarValue.of_bool c.args.plan.now c.args.sets.now in
    let old = c.args.used.now.keys in
    let given = variables_given (arguments_in x.arguments) in
    let e : written_by c.args.plan.now set ≡ none = ap (λ o. written_by c.args.plan.now (listed o)) c.in-None.is ∙ written-nil (fragments_by c.args.plan.now) in
    same-as (c.add_used.new.used.keys ++ u) ((old ++ given) ++ u) (old ++ ((given ++ variables_used (plain_by g.S.ScalarValue.answer g.S.ScalarValue.of_bool c.args.plan.now set)) ++ u))
    (same-append c.add_used.new.used.keys (old ++ given) u (subst (λ l. AreSame c.add_used.new.used.keys (c.args.used.now.keys ++ variables_given l)) c.arguments_in.ensures c.in_ok-add_used.ensures))
    (append_assoc old given u ∙ ap (λ l. old ++ l) (ap (λ l. given ++ (l ++ u)) (sym (empty-uses g.S.ScalarValue.answer g.S.ScalarValue.of_bool c.args.plan.now set e)) ∙ sym (append_assoc given (variables_used (plain_by g.S.ScalarValue.answer g.S.ScalarValue.of_bool c.args.plan.now set)) u)))

pub returns-in-None-clause-sized : goal.returns-in-None-clause-sized
returns-in-None-clause-sized g c =
    let set = listed c.args.field.now.item.selection_set in
    let e : written_by c.args.plan.now set ≡ none = ap (λ o. written_by c.args.plan.now (listed o)) c.in-None.is ∙ written-nil (fragments_by c.args.plan.now) in
    let none_left : size (plain_by g.S.ScalarValue.answer g.S.ScalarValue.of_bool c.args.plan.now set) ≡ 0 = empty-size g.S.ScalarValue.answer g.S.ScalarValue.of_bool c.args.plan.now set e in
    omega (arith, none_left)

pub returns-in-Some-clause-uses : goal.returns-in-Some-clause-uses
returns-in-Some-clause-uses g c =
    let x = c.args.field.now.item in
    let set = listed x.selection_set in
    let given = variables_given (arguments_in x.arguments) in
    let before = stack_uses g.S.ScalarValue.answer g.S.ScalarValue.of_bool c.args.plan.now c.args.sets.now in
    let after = stack_uses g.S.ScalarValue.answer g.S.ScalarValue.of_bool c.args.plan.now c.open_some.new.sets in
    same-added c.open_some.result c.args.used.now.keys given (variables_used (plain_by g.S.ScalarValue.answer g.S.ScalarValue.of_bool c.args.plan.now set))
    c.add_used.new.used.keys after before
    (subst (λ l. AreSame c.add_used.new.used.keys (c.args.used.now.keys ++ variables_given l)) c.arguments_in.ensures c.in_ok-add_used.ensures)
    (subst (λ s. OnOk c.open_some.result (after ≡ variables_used (plain_by g.S.ScalarValue.answer g.S.ScalarValue.of_bool c.args.plan.now s) ++ before))
    (c.as_slice.ensures ∙ ap listed (sym c.in-Some.is)) c.open_some.ensures.uses)

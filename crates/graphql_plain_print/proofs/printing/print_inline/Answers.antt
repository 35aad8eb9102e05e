use Rattle.std.proofs.Common.{[], ◌∷◌, Result, Ok, Err, OnOk}
use Rattle.std.specs.Option.{option_map}
use Rattle.std.specs.String.{string_bytes}
use Rattle.graphql_text.specs.declared.token.Token.TheVariants as t
use Rattle.graphql_plain_text.specs.TreeTokens.{condition_tokens, in_braces}
use Rattle.graphql_plain_print.specs.Alone.{marks}
use Rattle.graphql_plain_print.specs.Frames.{stack_tokens}
use Rattle.graphql_plain_print.specs.Plans.{plain_by, tokens_by}
use Rattle.graphql_plain_print.proofs.TokenLemmas.{printed-head}
use Rattle.graphql_plain_print.proofs.printing.print_inline.Goals as goal

where_ok : {A E : Type 0} {P Q : Type 0} (r : Result A E) → (P → Q) → OnOk r P → OnOk r Q
where_ok (Ok x) f p = f p
where_ok (Err x) f p = tt

pub returns-clause-text : goal.returns-clause-text
returns-clause-text g c =
    let answer = g.S.ScalarValue.answer in
    let of_bool = g.S.ScalarValue.of_bool in
    let plan = c.args.plan.now in
    where_ok c.open.result
    (printed-head (string_bytes c.args.text.now) (string_bytes c.push_condition.new.text) (string_bytes c.push_stand_in.new.text) (string_bytes c.open.new.text)
    (t.Ellipsis ∷ []) (condition_tokens (option_map (λ n. n.now) c.args.on)) (marks c.args.stands_in) (in_braces (tokens_by plan (plain_by answer of_bool plan c.args.set.now)))
    (stack_tokens answer of_bool plan c.args.sets.now) (stack_tokens answer of_bool plan c.open.new.sets) c.in_ok-push_condition.ensures c.in_ok-push_stand_in.ensures)
    c.open.ensures.text

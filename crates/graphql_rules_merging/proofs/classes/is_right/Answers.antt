use Rattle.std.proofs.Common.{ap, get_or, ◌∙◌}
use Rattle.std.proofs.lemmas.Result.{IfOk-weaker}
use Rattle.graphql_rules_merging.specs.Classes.{unnumbered}
use Rattle.graphql_rules_merging.proofs.Classing.{numbered-by}
use Rattle.graphql_rules_merging.proofs.classes.is_right.Goals as goal

pub returns : goal.returns
returns g c =
    IfOk-weaker c.has_class.result _ _
    (λ b class right.
    numbered-by g.S.PartialEq.eq c.args.schema.now.types c.args.draft.now c.args.field.now c.numbers_at-numbers.result c.new-key.result c.object_name.result c.as_slice-2.result.now
    (c.numbers_at-numbers.ensures ∙ ap (λ ns. get_or ns c.args.field.now.own unnumbered) c.as_slice.ensures.value)
    (c.new-key.ensures ∙ c.response_key.ensures) c.object_name.ensures c.as_slice-2.ensures
    (c.has_place.ensures c.if-not-has_place.false) (c.has_place-2.ensures c.if-not-has_place-2.false) (class right))
    c.has_class.ensures

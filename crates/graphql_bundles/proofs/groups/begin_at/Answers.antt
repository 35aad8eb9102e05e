use Rattle.std.proofs.Common.{◌∙◌, sym, ◌++◌, ◌∷◌, []}
use Rattle.graphql_bundles.proofs.GroupLemmas.{begun-new, begun-old}
use Rattle.graphql_bundles.proofs.groups.begin_at.Goals as goal

pub returns-in_ok-push : goal.returns-in_ok-push
returns-in_ok-push g c =
    c.in_ok-push.ensures.ok ∙ (λ j. c.args.groups.now ++ (c.key_of.ensures j, c.new.ensures j) ∷ [])
    ∙ begun-new c.args.field.now c.args.place c.args.groups.now c.requires (c.if-place-len.true ∙ c.len.ensures)

pub returns-else-place-len : goal.returns-else-place-len
returns-else-place-len g c =
    begun-old c.args.field.now c.args.place c.args.groups.now c.requires (λ e. c.if-place-len.false (e ∙ sym c.len.ensures))

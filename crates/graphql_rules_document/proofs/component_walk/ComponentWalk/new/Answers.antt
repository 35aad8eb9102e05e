use Rattle.std.proofs.Common.{None, get_or, ap, ◌∙◌}
use Rattle.graphql_rules_document.proofs.ComponentLemmas.{none_more, told_of_none}
use Rattle.graphql_rules_document.proofs.component_walk.ComponentWalk.new.Goals as goal

pub fragments-preserved : goal.fragments-preserved
fragments-preserved c place = ap (λ cs. get_or cs place None) c.in_ok-push-2.ensures.ok ∙ none_more c.fragments.components c.fragments.invariant place

pub returns : goal.returns
returns c =
    let fragments = c.args.index.now.fragments.now in
    record { path = c.new.ensures fragments; told = told_of_none fragments c.fragments.components c.fragments.invariant }

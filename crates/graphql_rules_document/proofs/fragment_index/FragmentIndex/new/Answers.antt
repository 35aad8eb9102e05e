use Rattle.std.proofs.Common.{◌∙◌}
use Rattle.graphql_rules_document.proofs.NamedLemmas.{lasts_more, earliers_more}
use Rattle.graphql_rules_document.proofs.fragment_index.FragmentIndex.new.Goals as goal

pub fragments-preserved : goal.fragments-preserved
fragments-preserved c =
    let place = c.fragments.place in
    let fragment = c.index-fragments-place.result in
    let is = c.index-fragments-place.is in
    let lasts = c.fragments.invariant.lasts in
    record {
      lasts = lasts_more c.args.fragments.now place fragment c.fragments-test.true is c.fragments.last c.insert.new.self c.in_ok-before.ensures.updates lasts;
      earliers = c.in_ok-push.ensures.ok
          ∙ earliers_more c.args.fragments.now place fragment c.fragments-test.true is c.fragments.earlier c.in_ok-before.before (c.in_ok-before.ensures.old ∙ lasts fragment.name.now) c.fragments.invariant.earliers;
    }

use Rattle.std.proofs.Common.{sym}
use Rattle.graphql_rules_document.proofs.ComponentLemmas.{path_extended, path_is}
use Rattle.graphql_rules_document.proofs.open_fragments.OpenFragments.extend.Goals as goal

pub returns : goal.returns
returns c fragments from position h behind there leads =
    let old = c.args.self.now in
    path_is fragments _ _ _ _ _ _ (sym c.in_ok-push-2.ensures.ok) (sym c.len-self.ensures) (sym c.in_ok-push.ensures.ok)
    (path_extended fragments old.path old.start old.earlier from position c.args.place h behind there leads)

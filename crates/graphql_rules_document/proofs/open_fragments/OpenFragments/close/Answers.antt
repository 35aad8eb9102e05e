use Rattle.std.proofs.Common.{refl, sym}
use Rattle.graphql_rules_document.proofs.ComponentLemmas.{path_closed, path_ends, path_is}
use Rattle.graphql_rules_document.proofs.open_fragments.OpenFragments.close.Goals as goal

pub returns-in_default : goal.returns-in_default
returns-in_default c fragments h =
    let old = c.args.self.now in
    path_is fragments _ _ _ _ _ _ (sym c.truncate.ensures) refl (sym c.in_default.ensures.1) (path_ends fragments old.path old.start old.earlier c.in_default.ensures.0 h)

pub returns : goal.returns
returns c fragments h =
    let old = c.args.self.now in
    path_is fragments _ _ _ _ _ _ (sym c.truncate.ensures) refl refl (path_closed fragments old.path old.start old.earlier c.pop.new.self c.in-Some.start c.in-Some.ensures h)

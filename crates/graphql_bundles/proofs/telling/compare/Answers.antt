use Rattle.std.proofs.Common.{refl, subst}
use Rattle.std.proofs.lemmas.Result.{on_ok_weaker}
use Rattle.graphql_bundles.specs.Conflicts.{places}
use Rattle.graphql_merging.specs.Merging.{Agree}
use Rattle.graphql_merging.specs.Selected.{member_of}
use Rattle.graphql_merging.specs.Told.{Differs, in_order}
use Rattle.graphql_merging.proofs.Reports.{adds-one, adds-none, differing}
use Rattle.graphql_bundles.proofs.telling.compare.Goals as goal

pub returns-in-Some-clause-told : goal.returns-in-Some-clause-told
returns-in-Some-clause-told g c =
    let eq = g.S.PartialEq.eq in
    let types = c.args.schema.now.types in
    let left = c.args.left.now.selected in
    let right = c.args.right.now.selected in
    on_ok_weaker c.tell_as.result
    (λ told fragments.
    adds-one (Agree eq types c.args.around) (member_of fragments left) (member_of fragments right) (places c.args.told.now) (places c.tell_as.new.told)
    (in_order left.field.now.span.start right.field.now.span.start)
    (differing eq types c.args.around (member_of fragments left) (member_of fragments right) c.in-Some.difference
    (subst (Differs eq types c.args.around (member_of fragments left) (member_of fragments right)) c.in-Some.is (c.in_ok-difference.ensures fragments)))
    refl told.at)
    c.tell_as.ensures

pub returns-in-None-clause-told : goal.returns-in-None-clause-told
returns-in-None-clause-told g c = λ fragments.
    let left = member_of fragments c.args.left.now.selected in
    let right = member_of fragments c.args.right.now.selected in
    adds-none (Agree g.S.PartialEq.eq c.args.schema.now.types c.args.around) left right (places c.args.told.now)
    (subst (Differs g.S.PartialEq.eq c.args.schema.now.types c.args.around left right) c.in-None.is (c.in_ok-difference.ensures fragments))

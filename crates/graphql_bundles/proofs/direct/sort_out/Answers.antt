use Rattle.std.proofs.Common.{refl, subst, false, inl, inr}
use Rattle.graphql_bundles.specs.Conflicts.{places}
use Rattle.graphql_merging.specs.Selected.{member_of}
use Rattle.graphql_merging.specs.Told.{Differs}
use Rattle.graphql_bundles.specs.Direct.{ComparesBefore}
use Rattle.graphql_bundles.proofs.direct.sort_out.Goals as goal

pub returns-in_ok-push-in-None-clause-sorted : goal.returns-in_ok-push-in-None-clause-sorted
returns-in_ok-push-in-None-clause-sorted g c = λ fragments.
    let eq = g.S.PartialEq.eq in
    let types = c.args.schema.now.types in
    inl (
      subst (Differs eq types false (member_of fragments c.args.head.now.selected) (member_of fragments c.args.field.now.selected)) c.in-None.is (c.in_ok-difference.ensures fragments),
      c.in_ok-push-in-None.ensures.ok,
      refl,
      subst (λ fs. ComparesBefore eq types fragments fs c.args.field.now (places c.args.told.now) (places c.compare_before.new.told)) c.as_slice-others.ensures
          (c.in_ok-compare_before-in-None.ensures.told fragments),
    )

pub returns-in_ok-push-in-Some-clause-sorted : goal.returns-in_ok-push-in-Some-clause-sorted
returns-in_ok-push-in-Some-clause-sorted g c = λ fragments.
    let eq = g.S.PartialEq.eq in
    let types = c.args.schema.now.types in
    inr (
      refl,
      c.in_ok-push-in-Some.ensures.ok,
      subst (λ fs. ComparesBefore eq types fragments fs c.args.field.now (places c.args.told.now) (places c.compare_before-in-Some.new.told)) c.as_slice-alike.ensures
          (c.in_ok-compare_before-in-Some.ensures.told fragments),
    )

use Rattle.std.proofs.Common.{◌≤◌, refl, slice_get, sym, ap, subst, ◌∙◌, arith}
use Rattle.graphql_rules_document.specs.Components.{Told}
use Rattle.graphql_rules_document.specs.Walks.{IsOpen}
use Rattle.graphql_rules_document.specs.declared.component_walk.Component.{Component}
use Rattle.graphql_rules_document.proofs.ComponentLemmas.{members_down, members_up, told_at}
use Rattle.graphql_rules_document.proofs.component_walk.ComponentWalk.close.Goals as goal

pub members-preserved : goal.members-preserved
members-preserved c at_first path told =
    let inv = c.members.invariant at_first path told in
    let fragments = c.args.index.now.fragments.now in
    let old = c.args.self.now.path in
    let after : old.start ≤ c.members.position = omega (arith, c.members.auto.position, c.start-position.ensures) in
    let component : Component = record { first = c.args.first; number = c.saturating_add-self.result } in
    let found = c.at-place.ensures ∙ ap (λ o. slice_get o.path c.members.position) inv.0 in (
      inv.0,
      subst (Told fragments) (sym c.tell.ensures)
          (told_at fragments c.members.self.components c.at-place.result component inv.1
          (λ place is. members_down fragments old.path old.start old.earlier c.args.first c.members.position place path at_first after (sym found ∙ is))
          (λ place is. members_up fragments old.path old.start old.earlier c.args.first c.members.position place path at_first after (sym found ∙ is))),
    )

pub returns : goal.returns
returns c at_first w =
    let inv = c.members.invariant at_first w.path w.told in
    let fragments = c.args.index.now.fragments.now in
    record { path = c.close.ensures fragments (subst (IsOpen fragments) (sym inv.0) w.path); told = inv.1 }

use Rattle.std.proofs.Common.{arith, ap, sym, ◌∙◌, ◌≡◌, ◌∷◌, ◌++◌, [], map, true}
use Rattle.std.proofs.lemmas.List.{take_all}
use Rattle.std.specs.List.{filter}
use Rattle.graphql_look_ahead.specs.Applies.{applies_to}
use Rattle.graphql_look_ahead.specs.Told.{looked_at, only, document_field, with_request}
use Rattle.graphql_look_ahead.proofs.SelectionLemmas.{all-of, kept-alike, kept-more, kept-none}
use Rattle.graphql_look_ahead.proofs.selection.LookAheadSelection+S.children_for_explicit_type.Goals.{then-applies_to+in_ok-push, else-applies_to}
use Rattle.graphql_look_ahead.proofs.selection.LookAheadSelection+S.children_for_explicit_type.Goals as goal

pub loop-child-preserved : goal.loop-child-preserved
loop-child-preserved g c = elim c.if-applies_to.branch [
  | then-applies_to+in_ok-push w ↦ w.children-is ∙ w.in_ok-push.ensures.ok ∙ ap (λ z. c.loop-child.children ++ z ∷ []) w.lent.ensures
      ∙ kept-more (λ child. applies_to c.args.type_name.now (only (document_field child))) c.as_slice-child-items.result.now c.loop-child.child-index c.child-item.result
      c.loop-child.children true (omega arith) c.child-item.is (sym c.applies_to.ensures ∙ w.if-applies_to.true) c.loop-child.invariant
  | else-applies_to w ↦ w.children-is
      ∙ kept-none (λ child. applies_to c.args.type_name.now (only (document_field child))) c.as_slice-child-items.result.now c.loop-child.child-index c.child-item.result
      c.loop-child.children (omega arith) c.child-item.is (sym c.applies_to.ensures ∙ w.if-applies_to.false) c.loop-child.invariant
]

pub returns-clause-children : goal.returns-clause-children
returns-clause-children g c =
    let all = c.in_ok-all.ensures.children in
    let kept : c.loop-child.children ≡ filter (λ child. applies_to c.args.type_name.now (only (document_field child))) c.in_ok-all.all.children =
    c.loop-child.invariant ∙ ap (filter (λ child. applies_to c.args.type_name.now (only (document_field child)))) (take_all c.loop-child.child-index c.as_slice-child-items.result.now (omega arith) ∙ c.as_slice-child-items.ensures) in
    (all.0, all.1, ap (map looked_at) kept ∙ kept-alike (λ p. applies_to c.args.type_name.now (only p.0)) looked_at (with_request c.args.self.now.request.now) c.in_ok-all.all.children all.0 all.2)

pub returns-clause-request : goal.returns-clause-request
returns-clause-request g c =
    let all = c.in_ok-all.ensures.children in
    let kept : c.loop-child.children ≡ filter (λ child. applies_to c.args.type_name.now (only (document_field child))) c.in_ok-all.all.children =
    c.loop-child.invariant ∙ ap (filter (λ child. applies_to c.args.type_name.now (only (document_field child)))) (take_all c.loop-child.child-index c.as_slice-child-items.result.now (omega arith) ∙ c.as_slice-child-items.ensures) in
    all-of c.args.self.now.request.now c.loop-child.children (filter (λ child. applies_to c.args.type_name.now (only child)) all.0)
    (ap (map looked_at) kept ∙ kept-alike (λ p. applies_to c.args.type_name.now (only p.0)) looked_at (with_request c.args.self.now.request.now) c.in_ok-all.all.children all.0 all.2)

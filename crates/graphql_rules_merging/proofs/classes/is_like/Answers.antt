use Rattle.std.proofs.Common.{◌≡◌, refl, sym, subst, ◌∙◌, false, true, Option, Some, None, []}
use Rattle.std.specs.Option.{is_some}
use Rattle.std.proofs.lemmas.Bool.{false≢true}
use Rattle.graphql_merging.specs.Selected.{member_of}
use Rattle.graphql_merging.specs.Told.{Differs}
use Rattle.graphql_merging.specs.declared.difference.Difference.{Difference}
use Rattle.graphql_merging.proofs.SameWraps.{same-text}
use Rattle.graphql_rules_merging.proofs.Classing.{alike-by}
use Rattle.graphql_rules_merging.proofs.classes.is_like.Goals as goal

no-some : (o : Option Difference) → is_some o ≡ false → o ≡ None
no-some None e = refl
no-some (Some d) e = absurd (false≢true (sym e))

pub returns : goal.returns
returns g c = λ _.
    let eq = g.S.PartialEq.eq in
    let types = c.args.schema.now.types in
    let head = c.args.head.now in
    let field = c.args.field.now in
    let key = sym c.response_key.ensures ∙ same-text c.response_key.result.now c.response_key-2.result.now c.ne.result c.ne.ensures c.if-ne.false ∙ c.response_key-2.ensures in (
      alike-by eq types head field key
          (subst (Differs eq types false (member_of [] (record { parent = field.selected.parent; field = head.selected.field })) (member_of [] field.selected))
          (no-some c.in_ok-written.written (sym c.is_some.ensures ∙ c.if-is_some.false)) (c.in_ok-written.ensures []))
          (subst (Differs eq types true (member_of [] head.selected) (member_of [] field.selected)) (no-some c.in_ok-shapes.shapes (sym c.is_some-2.ensures ∙ c.if-is_some-2.false)) (c.in_ok-shapes.ensures [])),
      sym c.is_declared-declared.ensures ∙ c.if-not-declared.false,
    )

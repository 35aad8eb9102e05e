use Rattle.std.proofs.Common.{sym, subst, take_all, inl, inr}
use Rattle.std.specs.List.{Contains}
use Rattle.graphql_merging.specs.declared.table.WrittenField.{WrittenField}
use Rattle.graphql_bundles.proofs.ListLemmas.{take-cases}
use Rattle.graphql_rules_merging.specs.Classes.{IsNumbered}
use Rattle.graphql_rules_merging.proofs.classes.are_fields_right.Goals as goal

pub loop-field-preserved : goal.loop-field-preserved
loop-field-preserved g c = λ f i.
    elim (take-cases c.args.fields.now c.loop-field.field-index c.field-item.result c.loop-field-test.true c.field-item.is f i) [
      | inl j ↦ c.loop-field.invariant f j
      | inr e ↦ subst (λ (h : WrittenField g.row.S.Denot g.row.C.Denot). IsNumbered g.S.PartialEq.eq c.args.schema.now.types c.args.draft.now h) e
          (c.in_ok-right.ensures c.if-not-right.false)
    ]

pub returns : goal.returns
returns g c = λ right f i.
    c.loop-field.invariant f (subst (λ fs. Contains fs f) (sym (take_all c.loop-field.field-index c.args.fields.now c.loop-field-test.false)) i)

use Rattle.std.proofs.Common.{◌≡◌, sym, ◌∙◌, ap, ◌∷◌, Some, None}
use Rattle.graphql_written_out.specs.Written.{fragment_meant}
use Rattle.graphql_plain_print.specs.Plans.{fragments_by, written_by}
use Rattle.graphql_plain_print.proofs.WrittenLemmas.{field-leads, inline-leads, spread-leads, of-nothing}
use Rattle.graphql_plain_print.proofs.written.as_written.Goals as goal

pub returns-in-Field : goal.returns-in-Field
returns-in-Field g c = λ xs. ap (λ z. written_by c.args.plan.now (z ∷ xs)) c.in-Field.is ∙ field-leads c.args.plan.now c.in-Field.field c.field_written.result c.field_written.ensures xs

pub returns-in-InlineFragment : goal.returns-in-InlineFragment
returns-in-InlineFragment g c = λ xs. ap (λ z. written_by c.args.plan.now (z ∷ xs)) c.in-InlineFragment.is ∙ inline-leads c.args.plan.now c.in-InlineFragment.inline c.inline_written.result c.inline_written.ensures xs

pub returns-in-None : goal.returns-in-None
returns-in-None g c = λ xs.
    let fs = fragments_by c.args.plan.now in
    let none : fragment_meant fs c.in-FragmentSpread.spread.item.name.item ≡ None = ap (fragment_meant fs) (sym c.as_str.ensures) ∙ sym c.in-None.ensures in
    ap (λ z. written_by c.args.plan.now (z ∷ xs)) c.in-FragmentSpread.is ∙ of-nothing fs c.in-FragmentSpread.spread xs none

pub returns-in-Some : goal.returns-in-Some
returns-in-Some g c = λ xs.
    let fs = fragments_by c.args.plan.now in
    let some : fragment_meant fs c.in-FragmentSpread.spread.item.name.item ≡ Some c.in-Some.found.now = ap (fragment_meant fs) (sym c.as_str.ensures) ∙ sym c.in-Some.ensures in
    ap (λ z. written_by c.args.plan.now (z ∷ xs)) c.in-FragmentSpread.is
    ∙ spread-leads c.args.plan.now c.requires c.in-FragmentSpread.spread c.in-Some.found.now c.spread_written.result some c.spread_written.ensures xs

use Rattle.std.proofs.Common.{slice_set, sym, ap, ◌∙◌}
use Rattle.graphql_output_values.proofs.ObjectLemmas.{place, put_at, put_last}
use Rattle.graphql_records.proofs.record.set_value.Goals as goal

pub returns-in-Some-clause-value : goal.returns-in-Some-clause-value
returns-in-Some-clause-value c =
    let held = c.args.fields.now.items in
    let at = (λ i. place (sym c.as_str.ensures i) (sym c.as_slice.ensures.value i)) ∙ sym c.place_of.ensures ∙ c.in-Some.is in
    ap (λ f. slice_set held c.in-Some.place (f.0, c.args.value)) c.index_mut.ensures.value
    ∙ sym (put_at c.args.name held c.args.value c.in-Some.place c.index_mut.result.now at)

pub returns-in-None-clause-value : goal.returns-in-None-clause-value
returns-in-None-clause-value c =
    let held = c.args.fields.now.items in
    let nowhere = (λ i. place (sym c.as_str.ensures i) (sym c.as_slice.ensures.value i)) ∙ sym c.place_of.ensures ∙ c.in-None.is in
    c.push_reserved.ensures.items ∙ sym (put_last c.args.name held c.args.value nowhere)

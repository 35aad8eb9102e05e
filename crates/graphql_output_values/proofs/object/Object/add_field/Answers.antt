use Rattle.std.proofs.Common.{◌≡◌, Some, None, Result, Ok, Err, OnErr, ap, sym, subst, ◌∙◌}
use Rattle.graphql_output_values.specs.Objects.{HasDistinctKeys}
use Rattle.graphql_output_values.proofs.ObjectLemmas.{place, value_at, value_nowhere, put_at, put_last, distinct_after}
use Rattle.graphql_output_values.proofs.DistinctKeyLaws.{once_put}
use Rattle.graphql_output_values.proofs.object.Object.add_field.Goals as goal

-- the key is nowhere
nowhere : (g : _) (c : goal.In_ok-push-in-None g) → place c.args.key c.args.self.now.fields ≡ None
nowhere g c = ap (λ k. place k c.args.self.now.fields) (sym c.as_str.ensures) ∙ sym c.place_of.ensures ∙ c.in-None.is

pub returns-in-Some-clause-old : goal.returns-in-Some-clause-old
returns-in-Some-clause-old g c =
    let here = ap (λ k. place k c.args.self.now.fields) (sym c.as_str.ensures) ∙ sym c.place_of.ensures ∙ c.in-Some.is in
    let at = value_at c.args.key c.args.self.now.fields c.in-Some.place c.index_mut-field.result.now here in
    cc

pub returns-in-Some-clause-fields : goal.returns-in-Some-clause-fields
returns-in-Some-clause-fields g c =
    let here = ap (λ k. place k c.args.self.now.fields) (sym c.as_str.ensures) ∙ sym c.place_of.ensures ∙ c.in-Some.is in
    let put = put_at c.args.key c.args.self.now.fields c.args.value c.in-Some.place c.index_mut-field.result.now here in
    cc

pub returns-in-Some-clause-distinct : goal.returns-in-Some-clause-distinct
returns-in-Some-clause-distinct g c distinct = subst HasDistinctKeys (sym (returns-in-Some-clause-fields g c)) (distinct_after c.args.key c.args.value c.args.self.now.fields distinct)

pub returns-in_ok-push-in-None-clause-old : goal.returns-in_ok-push-in-None-clause-old
returns-in_ok-push-in-None-clause-old g c = sym (value_nowhere c.args.key c.args.self.now.fields (nowhere g c))

pub returns-in_ok-push-in-None-clause-fields : goal.returns-in_ok-push-in-None-clause-fields
returns-in_ok-push-in-None-clause-fields g c = c.in_ok-push-in-None.ensures.ok ∙ sym (put_last c.args.key c.args.self.now.fields c.args.value (nowhere g c))

pub returns-in_ok-push-in-None-clause-distinct : goal.returns-in_ok-push-in-None-clause-distinct
returns-in_ok-push-in-None-clause-distinct g c distinct = subst HasDistinctKeys (sym (returns-in_ok-push-in-None-clause-fields g c)) (distinct_after c.args.key c.args.value c.args.self.now.fields distinct)

pub returns-in-Some-clause-throughout : goal.returns-in-Some-clause-throughout
returns-in-Some-clause-throughout g c = once_put c.args.self.now.fields c.args.key c.args.value _ (returns-in-Some-clause-fields g c)

pub returns-in_ok-push-in-None-clause-throughout : goal.returns-in_ok-push-in-None-clause-throughout
returns-in_ok-push-in-None-clause-throughout g c = once_put c.args.self.now.fields c.args.key c.args.value _ (returns-in_ok-push-in-None-clause-fields g c)

-- what holds anyhow holds of an error
of_error : {T E P : Type 0} (r : Result T E) → P → OnErr r P
of_error (Ok x) p = tt
of_error (Err e) p = p

pub returns-in_err-push-in-None-clause-absent : goal.returns-in_err-push-in-None-clause-absent
returns-in_err-push-in-None-clause-absent g c =
    of_error c.from_residual.result (value_nowhere c.args.key c.args.self.now.fields (ap (λ k. place k c.args.self.now.fields) (sym c.as_str.ensures) ∙ sym c.place_of.ensures ∙ c.in-None.is))

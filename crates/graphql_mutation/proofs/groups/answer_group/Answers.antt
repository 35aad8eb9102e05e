use Rattle.std.proofs.Common.{◌≡◌, ◌∙◌, ap, slice_get, subst, sym, Some, ◌∷◌, [], ◌⊎◌}
use Rattle.std.specs.Prelude.{IfOk, OnErr}
use Rattle.graphql_collect.specs.Grouped.{all_found}
use Rattle.graphql_collected.specs.Requests.{fragments_in}
use Rattle.graphql_occurrences.specs.DeclaredLent.{literal_of}
use Rattle.graphql_written_out.specs.Written.{Settled}
use Rattle.graphql_semantics.specs.Evaluation.{sets_below}
use Rattle.graphql_execution_walk.specs.Sets.{sets_in}
use Rattle.graphql_mutation.specs.Mutations.{mutation_of}
use Rattle.graphql_mutation.specs.Runs.{HasRun}
use Rattle.graphql_mutation.specs.Serial.{Run}
use Rattle.graphql_mutation.proofs.RunLemmas.{declared-known, none-run, shown-group, undeclared-run}
use Rattle.graphql_mutation.proofs.groups.answer_group.Goals as goal

pub returns-in_default-clause-run : goal.returns-in_default-clause-run
returns-in_default-clause-run g c =
    let s = g.S.ScalarValue in
    let r = c.args.resolver.now in
    let type_of = g.R.GraphQLValue.type_of r in
    let answer = g.R.GraphQLValue.answer r in
    let changes = g.R.GraphQLMutationValue.changes r in
    let rq = c.args.root.now.request.now in
    let ctx = c.args.context.now in
    let object = c.args.root.now.current_type.name.now in
    let m = mutation_of s.of_text s.of_bool s.answer rq type_of answer changes in
    none-run m object (fragments_in rq) ctx c.args.these.now.0 c.args.these.now.1 c.args.errors.now
    (rw c.in_default.is at c.first.ensures)

pub returns-in_default-declared_type-clause-run : goal.returns-in_default-declared_type-clause-run
returns-in_default-declared_type-clause-run g c =
    let s = g.S.ScalarValue in
    let r = c.args.resolver.now in
    let type_of = g.R.GraphQLValue.type_of r in
    let answer = g.R.GraphQLValue.answer r in
    let changes = g.R.GraphQLMutationValue.changes r in
    let rq = c.args.root.now.request.now in
    let ctx = c.args.context.now in
    let object = c.args.root.now.current_type.name.now in
    let x = c.in-Some.first.now in
    let first : Some x ≡ slice_get c.args.these.now.1 0 = rw c.in-Some.is at c.first.ensures in
    let known =
    declared-known s.of_text s.of_bool s.answer type_of answer changes rq c.args.root.now object ctx x _ c.as_str-name.ensures in
    let m = mutation_of s.of_text s.of_bool s.answer rq type_of answer changes in
    undeclared-run m object (fragments_in rq) ctx c.args.these.now.0 c.args.these.now.1 x first c.args.errors.now
    (known ∙ sym (rw c.in_default-declared_type.is at c.declared_type.ensures))

pub show_field-requires : goal.show_field-requires
show_field-requires g c = subst (λ rq. Settled (fragments_in rq)) (sym c.at_field-here.ensures.request) c.requires

pub returns-clause-run : goal.returns-clause-run
returns-clause-run g c =
    let s = g.S.ScalarValue in
    let r = c.args.resolver.now in
    let type_of = g.R.GraphQLValue.type_of r in
    let answer = g.R.GraphQLValue.answer r in
    let changes = g.R.GraphQLMutationValue.changes r in
    let rq = c.args.root.now.request.now in
    let ctx = c.args.context.now in
    let object = c.args.root.now.current_type.name.now in
    let x = c.in-Some.first.now in
    let first : Some x ≡ slice_get c.args.these.now.1 0 = rw c.in-Some.is at c.first.ensures in
    let known =
    declared-known s.of_text s.of_bool s.answer type_of answer changes rq c.args.root.now object ctx x _ c.as_str-name.ensures in
    let type = literal_of c.in-Some-declared_type.declared in
    let declared = known ∙ sym (rw c.in-Some-declared_type.is at c.declared_type.ensures) in
    let here = c.at_field-here.ensures in
    let selects =
    (λ i. sets_in (here.request i) (here.selected i))
    ∙ ap (λ xs. sets_below (all_found (fragments_in rq) xs)) c.as_slice.ensures in
    let same =
    shown-group s.of_text s.of_bool s.answer type_of answer changes rq c.at_field-here.result object ctx c.args.these.now.0
    c.args.these.now.1 x type first declared here.request here.location
    (here.path ∙ ap (λ k. k ∷ []) c.copied.ensures) (ap literal_of here.current_type) selects in
    let errors = c.show_field.new.errors in
    let after = c.show_field.new.context in
    subst (λ run. IfOk c.show_field.result (λ v. HasRun run v c.args.errors.now errors after)) same
    c.show_field.ensures.run

pub returns-clause-begun : goal.returns-clause-begun
returns-clause-begun g c =
    let s = g.S.ScalarValue in
    let r = c.args.resolver.now in
    let type_of = g.R.GraphQLValue.type_of r in
    let answer = g.R.GraphQLValue.answer r in
    let changes = g.R.GraphQLMutationValue.changes r in
    let rq = c.args.root.now.request.now in
    let ctx = c.args.context.now in
    let object = c.args.root.now.current_type.name.now in
    let x = c.in-Some.first.now in
    let first : Some x ≡ slice_get c.args.these.now.1 0 = rw c.in-Some.is at c.first.ensures in
    let known =
    declared-known s.of_text s.of_bool s.answer type_of answer changes rq c.args.root.now object ctx x _ c.as_str-name.ensures in
    let type = literal_of c.in-Some-declared_type.declared in
    let declared = known ∙ sym (rw c.in-Some-declared_type.is at c.declared_type.ensures) in
    let here = c.at_field-here.ensures in
    let selects =
    (λ i. sets_in (here.request i) (here.selected i))
    ∙ ap (λ xs. sets_below (all_found (fragments_in rq) xs)) c.as_slice.ensures in
    let same =
    shown-group s.of_text s.of_bool s.answer type_of answer changes rq c.at_field-here.result object ctx c.args.these.now.0
    c.args.these.now.1 x type first declared here.request here.location
    (here.path ∙ ap (λ k. k ∷ []) c.copied.ensures) (ap literal_of here.current_type) selects in
    let after = c.show_field.new.context in
    subst (λ (run : Run _ _ _). OnErr c.show_field.result ((after ≡ ctx) ⊎ (after ≡ run.after))) same
    c.show_field.ensures.begun

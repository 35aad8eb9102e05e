use Rattle.std.proofs.Common.{◌≡◌, ℕ, false, Ok, sym, subst}
use Rattle.graphql_occurrences.specs.Parts.{AField}
use Rattle.graphql_rules.specs.DisableIntrospection.{introspects}
use Rattle.graphql_rules.specs.Laws.{EachOf}
use Rattle.graphql_schema.specs.Declarations.{declarations_of}
use Rattle.graphql_validation.specs.FirstStage.{introspection_places, parts}
use Rattle.graphql_visitors.specs.Subjects.{Subject, subject_of}
use Rattle.graphql_law_rows.proofs.Told.{nothing_told}
use Rattle.graphql_law_rows.proofs.rules.introspects_nothing.Goals as goal

pub returns : goal.returns
returns g c =
    let context = c.in_ok-context.context in
    let subject : Subject g.row.S.Denot g.row.S-Check.Denot = record { schema = declarations_of c.args.schema.now; document = c.args.document.now } in
    let same : subject_of context ≡ subject = (λ i. record { schema = declarations_of ((c.in_ok-context.ensures.schema i).now); document = (c.in_ok-context.ensures.document i).now }) in
    let Nothing : Subject g.row.S.Denot g.row.S-Check.Denot → Type 0 = λ s. EachOf AField (λ f. introspects f.name ≡ false) (parts s) in
    let told = introspection_places (subject_of context) in
    let law = c.nothing_is_introspected.ensures (subject_of context) (parts (subject_of context)) in
    let exactly = nothing_told {E = ℕ} told (Nothing (subject_of context)) law context c.visit_introspection_rule.new.context (Ok c.in_ok-errors.errors)
    c.in_ok-context.ensures.errors c.visit_introspection_rule.ensures c.in_ok-errors.ensures.ok c.in_ok-errors.ensures.permutation in (
      λ yes. subst Nothing same (exactly.0 (c.is_empty.ensures.0 yes)),
      λ nothing. c.is_empty.ensures.1 (exactly.1 (subst Nothing (sym same) nothing)),
    )

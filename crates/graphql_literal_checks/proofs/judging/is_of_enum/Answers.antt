use Rattle.std.proofs.Common.{◌≡◌, ap, sym, ◌∙◌}
use Rattle.std.proofs.lemmas.Bool.{false≢true}
use Rattle.graphql_literal_checks.specs.InputTypes.{declares}
use Rattle.graphql_literal_checks.proofs.ConformsLemmas.{names_same}
use Rattle.graphql_literal_checks.proofs.judging.is_of_enum.Goals as goal

pub returns-in-Some-clause-of_enum : goal.returns-in-Some-clause-of_enum
returns-in-Some-clause-of_enum g c =
    let same : c.declares.result ≡ declares c.args.meta.now c.in-Some.name.now = c.declares.ensures in (
      λ is. (c.in-Some.name.now, c.in-Some.ensures.name, sym same ∙ is),
      λ w. same ∙ ap (declares c.args.meta.now) (names_same g.S.ScalarValue.answer c.args.source c.args.value.now c.in-Some.name.now w.0 c.in-Some.ensures.name w.1) ∙ w.2,
    )

pub returns-in-None-clause-of_enum : goal.returns-in-None-clause-of_enum
returns-in-None-clause-of_enum g c = (λ is. absurd (false≢true is), λ w. absurd (c.in-None.ensures.name w.0 w.1))

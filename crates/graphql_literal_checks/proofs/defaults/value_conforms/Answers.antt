use Rattle.graphql_schema.proofs.MeantScalars.{scalars_of}
use Rattle.std.proofs.Common.{◌↔◌, IfOk, IsTrue, subst, sym}
use Rattle.std.proofs.lemmas.Option.{MatchOption-at_none, MatchOption-at_some}
use Rattle.graphql_literal_checks.specs.Conforms.{Conforms}
use Rattle.graphql_literal_checks.specs.declared.source.Source.TheVariants.{Literal}
use Rattle.graphql_literal_checks.proofs.Decided.{fails, holds}
use Rattle.graphql_literal_checks.proofs.defaults.value_conforms.Goals as goal
use Rattle.graphql_literal_checks.proofs.defaults.value_conforms.Goals.{in-None, in-Some}

pub returns : goal.returns
returns g c =
    let scalars = scalars_of g.S.ParseScalarValue g.S.ScalarValue g.S.PartialEq g.S.Check.Check in
    let fact = Conforms scalars c.args.schema.now.types Literal c.args.asked.now c.args.value.now in
    elim c.match-branch-2.branch [
      | in-Some w ↦
          subst (λ r. IfOk r (λ told. IsTrue told ↔ fact)) (sym w.result-is)
          (fails (MatchOption-at_some fact (λ _. fact → ⊥) _ w.in-Some.is c.in_ok-validate_literal_value.ensures))
      | in-None w ↦
          subst (λ r. IfOk r (λ told. IsTrue told ↔ fact)) (sym w.result-is)
          (holds (MatchOption-at_none fact (λ _. fact → ⊥) w.in-None.is c.in_ok-validate_literal_value.ensures))
    ]

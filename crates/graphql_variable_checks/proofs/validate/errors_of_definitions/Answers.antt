use Rattle.graphql_schema.proofs.MeantScalars.{scalars_of}
use Rattle.std.proofs.Common.{arith}
use Rattle.std.proofs.lemmas.Option.{MatchOption-at_none, MatchOption-at_some}
use Rattle.std.specs.HashMap.{get_by_text}
use Rattle.graphql_variable_checks.specs.Accepted.{IsAccepted}
use Rattle.graphql_variable_checks.proofs.RefusalLemmas.{error_free, told_accepted, told_refused}
use Rattle.graphql_variable_checks.proofs.validate.errors_of_definitions.Goals.{in-Some+in_ok-report, in_default}
use Rattle.graphql_variable_checks.proofs.validate.errors_of_definitions.Goals as goal

pub definitions-preserved : goal.definitions-preserved
definitions-preserved g c =
    let scalars = scalars_of g.S.ParseScalarValue g.S.ScalarValue g.S.PartialEq g.S.Check.Check in
    let types = c.args.schema.now.types in
    let given = get_by_text c.args.variables.now in
    let vs = c.definitions_of-definitions.result.now in
    let v = c.variable-item.result in
    let accepted = IsAccepted scalars types given v in
    elim c.match-branch-2.branch [
      | in-Some+in_ok-report w ↦
          told_refused scalars types given vs c.definitions.variable-index v c.definitions-test.true c.variable-item.is c.definitions.errors c.match-branch-2.errors c.definitions.invariant
          _ w.errors-is w.in_ok-report.ensures.places (MatchOption-at_some accepted (λ _. accepted → ⊥) w.in-Some.message w.in-Some.is c.in_ok-message.ensures)
      | in_default w ↦
          told_accepted scalars types given vs c.definitions.variable-index v c.definitions-test.true c.variable-item.is c.definitions.errors c.match-branch-2.errors c.definitions.invariant
          w.errors-is (MatchOption-at_none accepted (λ _. accepted → ⊥) w.in_default.is c.in_ok-message.ensures)
    ]

pub returns-clause-none : goal.returns-clause-none
returns-clause-none g c =
    let scalars = scalars_of g.S.ParseScalarValue g.S.ScalarValue g.S.PartialEq g.S.Check.Check in
    error_free scalars c.args.schema.now.types (get_by_text c.args.variables.now) c.definitions_of-definitions.result.now _ c.definitions.variable-index c.definitions.errors (omega arith)
    c.definitions_of-definitions.ensures c.definitions.invariant

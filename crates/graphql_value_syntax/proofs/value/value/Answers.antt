use Rattle.std.proofs.Common.{Ok, ap, ◌∙◌}
use Rattle.graphql_grammar.proofs.Parts.{exits_with}
use Rattle.graphql_value_syntax.specs.declared.nested.Begun.{Begun}
use Rattle.graphql_value_syntax.proofs.ValueSteps.{reads_as}
use Rattle.graphql_value_syntax.proofs.OpenValues.{value_refused, value_whole, value_opens}
use Rattle.graphql_grammar.proofs.Leaves.{behind_then}
use Rattle.graphql_value_syntax.proofs.value.value.Goals as goal

pub returns-in_err-value-clause-reads : goal.returns-in_err-value-clause-reads
returns-in_err-value-clause-reads g c =
    exits_with c.from_residual.result c.begin.new.cursor c.from_residual.ensures.1 c.in_err-value.ensures.reads
    (value_refused {S = g.row.S.Denot} g.S.ParseScalarValue.reads g.S.ScalarValue.of_bool c.args.is_const c.args.cursor.now)

pub returns-in-Whole-clause-reads : goal.returns-in-Whole-clause-reads
returns-in-Whole-clause-reads g c =
    value_whole {S = g.row.S.Denot} g.S.ParseScalarValue.reads g.S.ScalarValue.of_bool c.args.is_const c.args.cursor.now
    (c.in_ok-value.ensures.reads ∙ ap (λ (x : Begun g.row.S.Denot). Ok (x, c.begin.new.cursor)) c.in-Whole.is)

pub returns-in-Opens-clause-reads : goal.returns-in-Opens-clause-reads
returns-in-Opens-clause-reads g c =
    reads_as c.rest.result c.rest.new.cursor
    (value_opens {S = g.row.S.Denot} g.S.ParseScalarValue.reads g.S.ScalarValue.of_bool c.args.is_const c.args.cursor.now
    (c.in_ok-value.ensures.reads ∙ ap (λ (x : Begun g.row.S.Denot). Ok (x, c.begin.new.cursor)) c.in-Opens.is))
    c.rest.ensures.reads

pub returns-in-Opens-clause-behind : goal.returns-in-Opens-clause-behind
returns-in-Opens-clause-behind g c = behind_then c.in_ok-value.ensures.behind c.rest.ensures.behind

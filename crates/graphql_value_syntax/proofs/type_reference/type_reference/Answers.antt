use Rattle.graphql_grammar.proofs.Parts.{exits}
use Rattle.graphql_value_syntax.proofs.TypeSteps.{type_read, type_fails, type_fails_first}
use Rattle.graphql_grammar.proofs.Leaves.{behind_then}
use Rattle.graphql_value_syntax.proofs.type_reference.type_reference.Goals as goal

pub returns-in_err-name-clause-reads : goal.returns-in_err-name-clause-reads
returns-in_err-name-clause-reads c =
    exits c.from_residual.result c.name.new.self c.from_residual.ensures.1
    (λ told. type_fails_first c.args.cursor.now c.brackets-depth.result c.brackets-depth.new.cursor c.brackets-depth.ensures.inside (c.in_err-name.ensures.reads told))

pub returns-in_err-item-clause-reads : goal.returns-in_err-item-clause-reads
returns-in_err-item-clause-reads c =
    exits c.from_residual-in_err-item.result c.wrapped.new.cursor c.from_residual-in_err-item.ensures.1
    (λ told. type_fails c.args.cursor.now c.brackets-depth.result c.brackets-depth.new.cursor c.brackets-depth.ensures.inside c.in_ok-name.ensures.reads (c.in_err-item.ensures.reads told))

pub returns-clause-reads : goal.returns-clause-reads
returns-clause-reads c =
    type_read c.args.cursor.now c.brackets-depth.result c.brackets-depth.new.cursor c.brackets-depth.ensures.inside c.in_ok-name.ensures.reads c.in_ok-item.ensures.reads c.start-start.ensures c.closed.ensures

pub returns-in_err-item-clause-behind : goal.returns-in_err-item-clause-behind
returns-in_err-item-clause-behind c = behind_then c.brackets-depth.ensures.behind (behind_then c.in_ok-name.ensures.behind c.in_err-item.ensures.behind)

pub returns-clause-behind : goal.returns-clause-behind
returns-clause-behind c = behind_then c.brackets-depth.ensures.behind (behind_then c.in_ok-name.ensures.behind c.in_ok-item.ensures.behind)

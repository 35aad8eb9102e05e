use Rattle.std.proofs.Common.{◌≡◌, true, false, sym}
use Rattle.graphql_grammar.specs.Kinds.{names}
use Rattle.graphql_grammar.specs.Steps.{sees, name, located}
use Rattle.graphql_grammar.proofs.Turns.{sees_kind}
use Rattle.graphql_grammar.proofs.Parts.{exits_with, optional_none, optional_read, optional_refused}
use Rattle.graphql_language.proofs.parse.document.operation_name.Goals as goal

pub returns-in_err-name-clause-reads : goal.returns-in_err-name-clause-reads
returns-in_err-name-clause-reads c =
    let seen : sees names c.args.cursor.now ≡ true = sees_kind names c.args.cursor.now c.kind.result true c.kind.ensures (sym c.if-is_name.ensures) in
    exits_with c.from_residual.result c.located_name.new.cursor c.from_residual.ensures.1 c.in_err-name.ensures.reads (λ refused. optional_refused names (located name) seen refused)

pub returns-in_ok-name-clause-reads : goal.returns-in_ok-name-clause-reads
returns-in_ok-name-clause-reads c =
    let seen : sees names c.args.cursor.now ≡ true = sees_kind names c.args.cursor.now c.kind.result true c.kind.ensures (sym c.if-is_name.ensures) in
    optional_read names (located name) seen c.in_ok-name.ensures.reads

pub returns-else-is_name-clause-reads : goal.returns-else-is_name-clause-reads
returns-else-is_name-clause-reads c =
    let seen : sees names c.args.cursor.now ≡ false = sees_kind names c.args.cursor.now c.kind.result false c.kind.ensures (sym c.if-is_name.ensures) in
    optional_none names (located name) c.args.cursor.now seen

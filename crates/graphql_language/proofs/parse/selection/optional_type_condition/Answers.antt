use Rattle.std.proofs.Common.{◌≡◌, true, false, sym}
use Rattle.graphql_grammar.specs.declared.kind.Kind.TheVariants as k
use Rattle.graphql_grammar.specs.Kinds.{only}
use Rattle.graphql_grammar.specs.Steps.{sees}
use Rattle.graphql_grammar.proofs.Turns.{sees_kind}
use Rattle.graphql_grammar.proofs.Parts.{exits_with, optional_none, optional_read, optional_refused}
use Rattle.graphql_language.specs.ReadSelections.{type_condition}
use Rattle.graphql_language.proofs.parse.selection.optional_type_condition.Goals as goal

pub returns-in_err-name-clause-reads : goal.returns-in_err-name-clause-reads
returns-in_err-name-clause-reads c =
    let seen : sees (only k.On) c.args.cursor.now ≡ true = sees_kind (only k.On) c.args.cursor.now c.kind.result true c.kind.ensures (sym c.if-eq.ensures) in
    exits_with c.from_residual.result c.type_condition.new.cursor c.from_residual.ensures.1 c.in_err-name.ensures.reads (λ refused. optional_refused (only k.On) type_condition seen refused)

pub returns-in_ok-name-clause-reads : goal.returns-in_ok-name-clause-reads
returns-in_ok-name-clause-reads c =
    let seen : sees (only k.On) c.args.cursor.now ≡ true = sees_kind (only k.On) c.args.cursor.now c.kind.result true c.kind.ensures (sym c.if-eq.ensures) in
    optional_read (only k.On) type_condition seen c.in_ok-name.ensures.reads

pub returns-else-eq-clause-reads : goal.returns-else-eq-clause-reads
returns-else-eq-clause-reads c =
    let seen : sees (only k.On) c.args.cursor.now ≡ false = sees_kind (only k.On) c.args.cursor.now c.kind.result false c.kind.ensures (sym c.if-eq.ensures) in
    optional_none (only k.On) type_condition c.args.cursor.now seen

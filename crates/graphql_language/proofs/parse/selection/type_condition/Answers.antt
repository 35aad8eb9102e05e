use Rattle.std.proofs.Common.{List, ℕ, sym, subst}
use Rattle.graphql_grammar.specs.Input.{At, Outcome, Reads}
use Rattle.graphql_grammar.proofs.Parts.{exits_with}
use Rattle.graphql_language.proofs.SelectionParts.{condition_refused, condition_read}
use Rattle.graphql_language.proofs.parse.selection.type_condition.Goals as goal

pub returns-in_err-expect-clause-reads : goal.returns-in_err-expect-clause-reads
returns-in_err-expect-clause-reads c = exits_with c.from_residual.result c.expect.new.self c.from_residual.ensures.1 c.in_err-expect.ensures.reads (condition_refused c.args.cursor.now)

pub returns-clause-reads : goal.returns-clause-reads
returns-clause-reads c =
    let P : Outcome (At (List ℕ)) → Type 0 = λ o. Reads o c.located_name.result c.located_name.new.cursor in
    subst P (sym (condition_read c.args.cursor.now c.in_ok-expect.ensures.reads)) c.located_name.ensures.reads

use Rattle.std.proofs.Common.{sym, ◌∙◌}
use Rattle.graphql_grammar.proofs.Parts.{exits_with}
use Rattle.graphql_language.proofs.SelectionParts.{names_refused, names_alone, names_both, names_second_refused}
use Rattle.graphql_language.proofs.parse.selection.field_names.Goals as goal

pub returns-in_err-first-clause-reads : goal.returns-in_err-first-clause-reads
returns-in_err-first-clause-reads c =
    exits_with c.from_residual.result c.located_name.new.cursor c.from_residual.ensures.1 c.in_err-first.ensures.reads (names_refused c.args.cursor.now)

pub returns-in_err-name-clause-reads : goal.returns-in_err-name-clause-reads
returns-in_err-name-clause-reads c =
    exits_with c.from_residual-in_err-name.result c.located_name-then-eat.new.cursor c.from_residual-in_err-name.ensures.1 c.in_err-name.ensures.reads
    (names_second_refused c.args.cursor.now c.in_ok-first.ensures.reads c.eat.ensures.after (sym c.eat.ensures.result ∙ c.if-eat.true))

pub returns-in_ok-name-clause-reads : goal.returns-in_ok-name-clause-reads
returns-in_ok-name-clause-reads c =
    names_both c.args.cursor.now c.in_ok-first.ensures.reads c.eat.ensures.after (sym c.eat.ensures.result ∙ c.if-eat.true) c.in_ok-name.ensures.reads

pub returns-else-eat-clause-reads : goal.returns-else-eat-clause-reads
returns-else-eat-clause-reads c =
    names_alone c.args.cursor.now c.in_ok-first.ensures.reads c.eat.ensures.after (sym c.eat.ensures.result ∙ c.if-eat.false)

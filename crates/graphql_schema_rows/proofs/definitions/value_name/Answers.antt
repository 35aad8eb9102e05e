use Rattle.std.proofs.Common.{Err, List, ℕ, ◌∙◌, sym, ap, subst}
use Rattle.graphql_grammar.specs.Input.{Outcome, Reads}
use Rattle.graphql_grammar.specs.Kinds.{enum_names}
use Rattle.graphql_schema_rows.proofs.Literals.{value_name_refused, value_name_same}
use Rattle.graphql_schema_rows.proofs.definitions.value_name.Goals as goal

pub returns-in-True-clause-reads : goal.returns-in-True-clause-reads
returns-in-True-clause-reads c = λ told.
    value_name_refused c.args.cursor.now (ap enum_names (sym c.kind.ensures ∙ c.in-True.is)) ∙ ap Err (c.refuse.ensures told)

pub returns-in-False-clause-reads : goal.returns-in-False-clause-reads
returns-in-False-clause-reads c = λ told.
    value_name_refused c.args.cursor.now (ap enum_names (sym c.kind.ensures ∙ c.in-False.is)) ∙ ap Err (c.refuse-in-False.ensures told)

pub returns-in-Null-clause-reads : goal.returns-in-Null-clause-reads
returns-in-Null-clause-reads c = λ told.
    value_name_refused c.args.cursor.now (ap enum_names (sym c.kind.ensures ∙ c.in-Null.is)) ∙ ap Err (c.refuse-in-Null.ensures told)

pub returns-in_default-clause-reads : goal.returns-in_default-clause-reads
returns-in_default-clause-reads c =
    let same = value_name_same c.args.cursor.now (λ e. c.in_default.not-True (c.kind.ensures ∙ e)) (λ e. c.in_default.not-False (c.kind.ensures ∙ e)) (λ e. c.in_default.not-Null (c.kind.ensures ∙ e)) in
    let P : Outcome (List ℕ) → Type 0 = λ o. Reads o c.name.result c.name.new.self in
    subst P (sym same) c.name.ensures.reads

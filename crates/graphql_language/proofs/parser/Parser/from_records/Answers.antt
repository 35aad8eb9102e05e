use Rattle.std.proofs.Common.{subst, sym}
use Rattle.graphql_grammar.specs.Input.{Input}
use Rattle.graphql_grammar.specs.Cursor.{IsStart}
use Rattle.graphql_grammar.proofs.Cursors.{starts_recorded}
use Rattle.graphql_language.proofs.parser.Parser.from_records.Goals as goal

pub returns-clause-start : goal.returns-clause-start
returns-clause-start c = λ text recorded.
    let P : Input → Type 0 = IsStart text in
    subst P (sym c.from_records.ensures) (starts_recorded text c.args.records.now recorded)

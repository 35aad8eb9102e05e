use Rattle.std.proofs.Common.{arith}
use Rattle.graphql_lexer.proofs.token_record.TokenRecord.end.Goals as goal

pub overflow_add-index : goal.overflow_add-index
overflow_add-index c = omega (arith, c.requires.0, c.index.ensures)

pub overflow_add-column : goal.overflow_add-column
overflow_add-column c = omega (arith, c.requires.0, c.requires.1, c.column.ensures)

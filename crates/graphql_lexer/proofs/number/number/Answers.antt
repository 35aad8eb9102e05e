use Rattle.std.proofs.Common.{rules}
use Rattle.graphql_text.specs.Reading.{place_of}
use Rattle.graphql_lexer.proofs.Leading.{number_tail}
use Rattle.graphql_lexer.proofs.number.number.Goals as goal

pub between-text-requires : goal.between-text-requires
between-text-requires c =
    number_tail (place_of c.args.cursor) (place_of c.in_ok-whole.whole) (place_of c.in_ok-fraction.field-0) (place_of c.in_ok-end.end) (search rules) c.in_ok-fraction.ensures c.in_ok-end.ensures

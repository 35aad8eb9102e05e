-- The records of a text's tokens, of one's own or lent, as the tokens that are cut by them.
use Rattle.graphql_lexer.specs.Records.{Recorded}
use Rattle.graphql_grammar.specs.declared.kept.Kept.{Kept}
use Rattle.graphql_grammar.specs.declared.kept.Kept.TheVariants.{Own, Lent}

abbrev pub recorded : Kept → Recorded
recorded (Own records) = records
recorded (Lent records) = records.now

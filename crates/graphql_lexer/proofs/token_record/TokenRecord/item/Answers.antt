use Rattle.std.proofs.Common.{subst, sym}
use Rattle.graphql_lexer.specs.Records.{IsQuoted}
use Rattle.graphql_lexer.proofs.RecordLemmas.{quoted_at}
use Rattle.graphql_lexer.proofs.token_record.TokenRecord.item.Goals as goal

pub token_of_kind-requires : goal.token_of_kind-requires
token_of_kind-requires c = λ e. subst IsQuoted (sym c.text.ensures) (quoted_at c.args.source.now c.args.self c.requires e)

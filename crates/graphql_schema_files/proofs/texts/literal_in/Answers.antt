use Rattle.std.proofs.Common.{IfOk, subst}
use Rattle.graphql_schema_files.specs.SpelledTexts.{FindsMeant, HasLiteral, IsLiteral}
use Rattle.graphql_schema_files.proofs.texts.literal_in.Goals as goal

pub returns : goal.returns
returns c = subst (λ text. IfOk c.literal_of_text.result (FindsMeant IsLiteral HasLiteral text)) c.as_str.ensures c.literal_of_text.ensures

use Rattle.std.proofs.Common.{IfOk, subst}
use Rattle.graphql_schema_files.specs.SpelledTexts.{FindsMeant, HasType, IsType}
use Rattle.graphql_schema_files.proofs.texts.type_in.Goals as goal

pub returns : goal.returns
returns c = subst (λ text. IfOk c.type_of_text.result (FindsMeant IsType HasType text)) c.as_str.ensures c.type_of_text.ensures

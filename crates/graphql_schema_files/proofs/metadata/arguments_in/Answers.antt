use Rattle.std.proofs.Common.{IfOk, subst}
use Rattle.std.specs.List.{All, AllZip}
use Rattle.graphql_schema_files.specs.DraftedTypes.{ArgumentMeans, ArgumentIsSound}
use Rattle.graphql_schema_files.specs.SpelledTexts.{FindsMeant}
use Rattle.graphql_schema_files.proofs.metadata.arguments_in.Goals as goal

pub returns : goal.returns
returns c = subst (λ arguments. IfOk c.arguments_of.result (FindsMeant (AllZip ArgumentMeans) (All ArgumentIsSound) arguments)) c.as_slice.ensures c.arguments_of.ensures

use Rattle.std.proofs.Common.{IfOk, subst}
use Rattle.std.specs.List.{All, AllZip}
use Rattle.graphql_schema_files.specs.DraftedTypes.{FieldMeans, FieldIsSound}
use Rattle.graphql_schema_files.specs.SpelledTexts.{FindsMeant}
use Rattle.graphql_schema_files.proofs.metadata.fields_in.Goals as goal

pub returns : goal.returns
returns c = subst (λ fields. IfOk c.fields_of.result (FindsMeant (AllZip FieldMeans) (All FieldIsSound) fields)) c.as_slice.ensures c.fields_of.ensures

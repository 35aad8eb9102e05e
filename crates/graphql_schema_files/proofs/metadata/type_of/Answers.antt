use Rattle.std.proofs.Common.{subst}
use Rattle.std.specs.List.{All, AllZip}
use Rattle.graphql_schema_files.specs.DraftedTypes.{FieldIsSound, FieldMeans}
use Rattle.graphql_schema_files.specs.SpelledTexts.{FindsMeant}
use Rattle.graphql_schema_files.proofs.metadata.type_of.Goals as goal

pub returns-in-None : goal.returns-in-None
returns-in-None g c = λ sound.
    subst (FindsMeant (AllZip FieldMeans) (All FieldIsSound) c.args.draft.now.fields) c.in-None.is c.in_ok-fields.ensures
    (λ k d inside. (sound.0 k d inside, sound.1 k d inside))

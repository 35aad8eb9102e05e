use Rattle.std.proofs.Common.{subst}
use Rattle.std.specs.List.{All, AllZip}
use Rattle.graphql_schema_files.specs.DraftedTypes.{ArgumentIsSound, ArgumentMeans}
use Rattle.graphql_schema_files.specs.SpelledTexts.{FindsMeant}
use Rattle.graphql_schema_files.proofs.metadata.field_of.Goals as goal

pub returns-in-None : goal.returns-in-None
returns-in-None c = λ sound.
    subst (FindsMeant (AllZip ArgumentMeans) (All ArgumentIsSound) c.args.draft.now.arguments) c.in-None.is c.in_ok-arguments.ensures
    (λ k d inside. (sound.0.1 k d inside, sound.1 k d inside))

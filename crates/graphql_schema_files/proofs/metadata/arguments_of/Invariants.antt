use Rattle.std.proofs.Common.{take}
use Rattle.std.specs.List.{AllZip}
use Rattle.graphql_schema_files.specs.DraftedTypes.{ArgumentMeans}
use Rattle.graphql_schema_files.proofs.metadata.arguments_of.Given as goal

-- what those passed so far describe
abbrev pub invariant-drafts : goal.invariant-drafts
invariant-drafts l = AllZip ArgumentMeans (take l.draft-index l.drafts) l.arguments

use Rattle.std.proofs.Common.{take}
use Rattle.std.specs.List.{AllZip}
use Rattle.graphql_schema_files.specs.DraftedTypes.{FieldMeans}
use Rattle.graphql_schema_files.proofs.metadata.fields_of.Given as goal

-- what those passed so far describe
abbrev pub invariant-drafts : goal.invariant-drafts
invariant-drafts l = AllZip FieldMeans (take l.draft-index l.drafts) l.fields

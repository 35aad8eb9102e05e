-- Whether the defaults of a file conform to the types of their arguments (GraphQL October 2021,
-- 5.6.1 Values of Correct Type).
use Rattle.std.specs.Prelude.{List}
use Rattle.graphql_schema.specs.Scalars.{Scalars}
use Rattle.graphql_schema.specs.declared.meta.MetaType.{MetaType}
use Rattle.graphql_schema_files.specs.declared.drafts.TypeDraft.{TypeDraft}
use Rattle.graphql_literal_checks.specs.Defaults.{NamedConforms}

-- by what scalars mean, and the types of a schema: each default in the type that the draft declares
-- conforms
abbrev pub DraftConforms : {S C : Type 0} → Scalars S C → List (MetaType S C) → TypeDraft → Type 0
DraftConforms scalars types draft = NamedConforms scalars types draft.name

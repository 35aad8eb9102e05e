use Rattle.std.proofs.Common.{take}
use Rattle.std.specs.List.{AllZip}
use Rattle.graphql_schema_rows.specs.Rows as spec
use Rattle.graphql_schema_rows.proofs.rows.names_of.Given as goal

-- what those passed so far mean
abbrev pub invariant-texts : goal.invariant-texts
invariant-texts l = AllZip spec.NameMeans (take l.text-index l.texts) l.names

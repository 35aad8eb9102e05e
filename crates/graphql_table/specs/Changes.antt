-- What a table answers for a field of the mutation's root, and the table after (GraphQL October
-- 2021, 6.2.2 Mutation).
use Rattle.std.specs.Prelude.{List, Option, Result, Ok, option_and_then}
use Rattle.std.specs.Option.{option_map, option_map_or}
use Rattle.graphql_names.specs.Names.{Bytes}
use Rattle.graphql_scalars.specs.declared.default_scalar.DefaultScalarValue.{DefaultScalarValue}
use Rattle.graphql_field_results.specs.declared.resolved.Resolved.TheVariants as resolved
use Rattle.graphql_mutation.specs.Mutations.{Changes}
use Rattle.graphql_records.specs.Answers.{known_field}
use Rattle.graphql_records.specs.Asked.{Asked}
use Rattle.graphql_records.specs.Fields.{TableAnswer}
use Rattle.graphql_records.specs.Settings.{Fault, root_answer, table_after}
use Rattle.graphql_records.specs.Tables.{Table}
use Rattle.graphql_records.specs.declared.table_node.TableNode.{TableNode}
use Rattle.graphql_records.specs.declared.table_type.TableType.{TableType}

-- `types`: what the table knows of the schema's types; `mutation`: the name of the mutation's root
module _ (types : List TableType) (mutation : Option Bytes) where
  -- the innermost name of the type of a field of the root
  abbrev pub root_type : Bytes → Option Bytes
  root_type field = option_and_then
      (λ object. option_map (λ f. f.of_type) (known_field types object field)) mutation

  -- null for a field that the root lacks
  abbrev pub changed_answer : Table → Bytes → Asked → Result TableAnswer Fault
  changed_answer table field given =
      option_map_or (λ of_type. root_answer types table of_type given) (root_type field)
      (Ok resolved.Null)

  abbrev pub changed : Table → Bytes → Asked → Table
  changed table field given =
      option_map_or (λ of_type. table_after types table of_type given) (root_type field) table

  abbrev pub changes : Changes DefaultScalarValue TableNode Table
  changes = record { answer = changed_answer; after = changed }

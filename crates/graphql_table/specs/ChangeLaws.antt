-- What a table answers for a field of the mutation's root, and leaves, is the same where argument
-- values are the same in one order; what it tells beside an error has distinct keys.
use Rattle.std.specs.Prelude.{◌≡◌, Bool, List, Option, Some, None, Ok}
use Rattle.std.specs.Option.{option_map_or}
use Rattle.graphql_names.specs.Names.{Bytes}
use Rattle.graphql_scalars.specs.declared.default_scalar.DefaultScalarValue.{DefaultScalarValue}
use Rattle.graphql_arguments.specs.SameArguments.{SameInOrder}
use Rattle.graphql_field_results.specs.Answered.{TellsInDistinctKeys}
use Rattle.graphql_field_results.specs.declared.resolved.Resolved.TheVariants as resolved
use Rattle.graphql_records.specs.Asked.{Asked}
use Rattle.graphql_records.specs.Laws.{IsExact}
use Rattle.graphql_records.specs.Settings.{root_answer}
use Rattle.graphql_records.specs.Tables.{Table}
use Rattle.graphql_records.specs.declared.table_type.TableType.{TableType}
use Rattle.graphql_records.proofs.Refusals.{refusals_tell_distinct_keys}
use Rattle.graphql_records.proofs.Respects.{root_respects, after_respects}
use Rattle.graphql_table.specs.Changes.{root_type, changed_answer, changed}

module _ (eq : DefaultScalarValue → DefaultScalarValue → Bool) (exact : IsExact eq)
    (types : List TableType) (mutation : Option Bytes) where
  pub changes_respect : (table : Table) (field : Bytes) (a b : Asked) → SameInOrder eq a b
      → (changed_answer types mutation table field a ≡ changed_answer types mutation table field b)
      × (changed types mutation table field a ≡ changed types mutation table field b)
  changes_respect table field a b same = (
    λ i. option_map_or (λ of_type. root_respects eq exact types table of_type a b same i)
        (root_type types mutation field) (Ok resolved.Null),
    λ i. option_map_or (λ of_type. after_respects eq exact types table of_type a b same i)
        (root_type types mutation field) table,
  )

module _ (types : List TableType) (mutation : Option Bytes) (table : Table) where
  tells : (given : Asked) (found : Option Bytes)
      → TellsInDistinctKeys (option_map_or (λ of_type. root_answer types table of_type given) found
      (Ok resolved.Null))
  tells given None = record { beside = tt }
  tells given (Some of_type) = refusals_tell_distinct_keys types table of_type given

  pub changes_tell : (field : Bytes) (given : Asked)
      → TellsInDistinctKeys (changed_answer types mutation table field given)
  changes_tell field given = tells given (root_type types mutation field)

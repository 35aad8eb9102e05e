-- Values that arguments set, on their way to a record: what becomes of its fields once they are set
-- in turn.
use Rattle.std.specs.Prelude.{◌≡◌, ℕ, [], Option, Result, Ok, Err, slice_get, option_map}
use Rattle.std.specs.Option.{option_map_or}
use Rattle.graphql_output_values.specs.Objects.{with_fields}
use Rattle.graphql_scalars.specs.declared.default_scalar.DefaultScalarValue.{DefaultScalarValue}
use Rattle.graphql_field_results.specs.declared.field_fault.FieldFault.{FieldFault}
use Rattle.graphql_field_results.specs.declared.field_fault.FieldFault.TheVariants as fault
use Rattle.graphql_records.specs.Settings.{Fault, Fields, fields_replaced}
use Rattle.graphql_records.specs.Tables.{Entries}

-- what is found, or why there is none
abbrev pub FoundOrFault : Type 0 → Type 0
FoundOrFault A = Result A (FieldFault DefaultScalarValue)

-- the fields of the record at a place, and those with values set in turn
abbrev pub fields_there : Entries → ℕ → Fields
fields_there records place = option_map_or (λ r. r.1.fields) (slice_get records place) []

abbrev pub fields_with : Entries → ℕ → Fields → Fields
fields_with records place values = with_fields (fields_there records place) values

abbrev pub values_set : Entries → ℕ → Fields → Entries
values_set records place values = fields_replaced records place (fields_with records place values)

-- fields, once the values that were found for them are set
abbrev pub once_set : Fields → FoundOrFault Fields → FoundOrFault Fields
once_set fields (Ok values) = Ok (with_fields fields values)
once_set fields (Err e) = Err e

-- the same of the record at a place
abbrev pub changed : Entries → ℕ → Option Fields → Option Fields
changed records place values = option_map (fields_with records place) values

abbrev pub once_changed : Entries → ℕ → FoundOrFault (Option Fields) → FoundOrFault (Option Fields)
once_changed records place (Ok values) = Ok (changed records place values)
once_changed records place (Err e) = Err e

-- values are added: to any fields, set in turn behind those before them, they do what is wanted
abbrev pub AddsValues : {A : Type 0} → (Fields → Result Fields Fault) → Fields → FoundOrFault A
    → Fields → Type 0
AddsValues wanted old (Ok done) new =
    (fields : Fields) → wanted (with_fields fields old) ≡ Ok (with_fields fields new)
AddsValues wanted old (Err (fault.Error e)) new = (fields : Fields) → wanted fields ≡ Err e
AddsValues wanted old (Err fault.Memory) new = Unit {0}

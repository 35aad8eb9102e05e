-- A refusal changes nothing, and tells nothing beside its reason.
use Rattle.std.proofs.Common.{◌≡◌, ℕ, Bool, true, false, cond, List, [], ◌∷◌, Option, Some, None, Result, Ok, Err, codes, bytes_eq, slice_get, refl}
use Rattle.std.specs.Option.{option_map_or}
use Rattle.graphql_text.specs.Memory.{◌>>=◌}
use Rattle.graphql_names.specs.Names.{Bytes}
use Rattle.graphql_scalars.specs.declared.default_scalar.DefaultScalarValue.{DefaultScalarValue}
use Rattle.graphql_values.specs.declared.input_value.InputValue.{InputValue}
use Rattle.graphql_field_results.specs.Answered.{TellsInDistinctKeys}
use Rattle.graphql_field_results.specs.Reasons.{reason_alone}
use Rattle.graphql_field_results.specs.declared.resolved.Resolved.TheVariants as resolved
use Rattle.graphql_records.specs.Answers.{is_possible}
use Rattle.graphql_records.specs.Asked.{Asked}
use Rattle.graphql_records.specs.Laws.{RefusalsChangeNothing, RefusalsTellDistinctKeys}
use Rattle.graphql_records.specs.Settings.{Fault, Fields, settable, set_one, set_all, fields_set, fields_set_at, place_asked, after_setting, node_set}
use Rattle.graphql_records.specs.Tables.{Entries, Table}
use Rattle.graphql_records.specs.declared.record.Record.{Record}
use Rattle.graphql_records.specs.declared.table_type.TableType.{TableType}

module _ (types : List TableType) where
  unset : (table : Table) (place : ℕ) (r : Result (Option Fields) Fault) (e : Fault)
      → (r >>= λ fields. Ok (node_set place fields)) ≡ Err e → after_setting types table place r ≡ table
  unset table place (Ok fields) e h = absurd (cc)
  unset table place (Err fault) e h = refl

  unchanged : (table : Table) (fields : ℕ → Result (Option Fields) Fault) (place : Option ℕ) (e : Fault)
      → option_map_or (λ p. fields p >>= λ set. Ok (node_set p set)) place (Ok resolved.Null) ≡ Err e
      → option_map_or (λ p. after_setting types table p (fields p)) place table ≡ table
  unchanged table fields None e h = refl
  unchanged table fields (Some p) e h = unset table p (fields p) e h

  -- what a step tells, and the step behind it
  told_behind : {A B : Type 0} (r : Result A Fault) (f : A → Result B Fault)
      → TellsInDistinctKeys {S = DefaultScalarValue} r → ((x : A) → TellsInDistinctKeys {S = DefaultScalarValue} (f x))
      → TellsInDistinctKeys {S = DefaultScalarValue} (r >>= f)
  told_behind (Ok x) f here behind = behind x
  told_behind (Err e) f here behind = record { beside = here.beside }

  told_or : {A B : Type 0} (o : Option A) (f : A → Result B Fault) (other : Result B Fault)
      → ((x : A) → TellsInDistinctKeys {S = DefaultScalarValue} (f x)) → TellsInDistinctKeys {S = DefaultScalarValue} other
      → TellsInDistinctKeys {S = DefaultScalarValue} (option_map_or f o other)
  told_or None f other found none = none
  told_or (Some x) f other found none = found x

  told_if : {A : Type 0} (b : Bool) (r s : Result A Fault)
      → TellsInDistinctKeys {S = DefaultScalarValue} r → TellsInDistinctKeys {S = DefaultScalarValue} s
      → TellsInDistinctKeys {S = DefaultScalarValue} (cond b r s)
  told_if true r s here there = here
  told_if false r s here there = there

  nothing_told : {A : Type 0} (x : A) → TellsInDistinctKeys {S = DefaultScalarValue} (Ok x)
  nothing_told x = record { beside = tt }

  tells_one : (object name : Bytes) (v : InputValue DefaultScalarValue) (fields : Fields) → TellsInDistinctKeys (set_one types object name v fields)
  tells_one object name v fields =
      told_if (bytes_eq name (codes "id")) _ _ (nothing_told _) (told_or (settable types object name v) _ _ (λ x. nothing_told _) (reason_alone _))

  tells_all : (object : Bytes) (given : Asked) (fields : Fields) → TellsInDistinctKeys (set_all types object given fields)
  tells_all object [] fields = nothing_told fields
  tells_all object (a ∷ given) fields = told_behind (set_one types object a.0 a.1.item fields) _ (tells_one object a.0 a.1.item fields) (tells_all object given)

  tells_set : (of_type id : Bytes) (r : Record) (given : Asked) → TellsInDistinctKeys (fields_set types of_type id r given)
  tells_set of_type id r given = told_if (is_possible types of_type r.type_name) _ _ (tells_all r.type_name given r.fields) (reason_alone _)

  tells_at : (records : Entries) (of_type : Bytes) (given : Asked) (place : ℕ) → TellsInDistinctKeys (fields_set_at types records of_type given place)
  tells_at records of_type given place =
      told_or (slice_get records place) _ _ (λ r. told_behind (fields_set types of_type r.0 r.1 given) _ (tells_set of_type r.0 r.1 given) (λ x. nothing_told _)) (nothing_told _)

pub refusals_change_nothing : RefusalsChangeNothing
refusals_change_nothing types table of_type given refusal h =
    unchanged types table (fields_set_at types table.entries of_type given) (place_asked table.entries given) refusal h

pub refusals_tell_distinct_keys : RefusalsTellDistinctKeys
refusals_tell_distinct_keys types table of_type given =
    told_or types (place_asked table.entries given) _ _
    (λ place. told_behind types (fields_set_at types table.entries of_type given place) _ (tells_at types table.entries of_type given place) (λ x. nothing_told types _))
    (nothing_told types _)

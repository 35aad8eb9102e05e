-- Arguments that set fields, one after the other.
use Rattle.std.proofs.Common.{◌≡◌, ℕ, ◌+◌, ◌<◌, List, [], ◌∷◌, drop, length, slice_get, Option, Some, None, Result, Ok, Err, option_map, ap, sym, refl, ◌∙◌, arith}
use Rattle.std.specs.Option.{option_map_or}
use Rattle.std.proofs.lemmas.List.{at_drop_more}
use Rattle.std.proofs.lemmas.Option.{slice_get-get_or}
use Rattle.graphql_text.specs.Memory.{◌>>=◌}
use Rattle.graphql_names.specs.Names.{Bytes}
use Rattle.graphql_scalars.specs.declared.default_scalar.DefaultScalarValue.{DefaultScalarValue}
use Rattle.graphql_values.specs.declared.input_value.InputValue.{InputValue}
use Rattle.graphql_arguments.specs.ArgumentValues.{NamedValue}
use Rattle.graphql_arguments.specs.GivenValues.{named_value}
use Rattle.graphql_field_results.specs.Answered.{Answered}
use Rattle.graphql_field_results.specs.declared.field_fault.FieldFault.{FieldFault}
use Rattle.graphql_field_results.specs.declared.field_fault.FieldFault.TheVariants as fault
use Rattle.graphql_records.specs.Asked.{Asked}
use Rattle.graphql_records.specs.ValuesSet.{AddsValues}
use Rattle.graphql_records.specs.Settings.{Fault, Fields, set_all, set_at, set_one}
use Rattle.graphql_records.specs.declared.table_type.TableType.{TableType}

-- an error of a step is the error of the whole
pub answered_err : (wanted step : Result Fields Fault) (f : FieldFault DefaultScalarValue) → ((e : Fault) → step ≡ Err e → wanted ≡ Err e) → Answered {A = Fields} step (Err f) → Answered {A = Fields} wanted (Err f)
answered_err wanted step (fault.Error e) carries h = carries e h
answered_err wanted step fault.Memory carries h = tt

-- the same of a step that adds values behind others
pub adds_err : (wanted : Fields → Result Fields Fault) (old new : Fields) (f : FieldFault DefaultScalarValue) → AddsValues {A = Unit {0}} wanted old (Err f) new
    → (fields : Fields) → Answered {A = Fields} (wanted fields) (Err f)
adds_err wanted old new (fault.Error e) h fields = h fields
adds_err wanted old new fault.Memory h fields = tt

module _ (types : List TableType) (object : Bytes) where
  -- what one argument sets, by its name and value
  abbrev by_pair : Fields → Option (Bytes × InputValue DefaultScalarValue) → Result Fields Fault
  by_pair fields o = option_map_or (λ p. set_one types object p.0 p.1 fields) o (Ok fields)

  by_named : (fields : Fields) (o : Option (NamedValue DefaultScalarValue)) → option_map_or (λ a. set_one types object a.0 a.1.item fields) o (Ok fields) ≡ by_pair fields (option_map named_value o)
  by_named fields None = refl
  by_named fields (Some a) = refl

  -- the argument at a place, by the pair that is lent
  pub at_pair : (given : Asked) (i : ℕ) (fields : Fields) (o : Option (Bytes × InputValue DefaultScalarValue)) → o ≡ option_map named_value (slice_get given i) → set_at types object given i fields ≡ by_pair fields o
  at_pair given i fields o is = by_named fields (slice_get given i) ∙ ap (by_pair fields) (sym is)

  -- one argument more
  pub set_more : (given : Asked) (i : ℕ) (fields : Fields) → i < length given → set_all types object (drop i given) fields ≡ set_at types object given i fields >>= set_all types object (drop (i + 1) given)
  set_more [] i fields within = absurd (omega arith)
  set_more (a ∷ given) i fields within =
      at_drop_more (λ left. set_all types object left fields) (a ∷ given) i a within
      ∙ ap (λ o. option_map_or (λ (x : NamedValue DefaultScalarValue). set_one types object x.0 x.1.item fields) o (Ok fields) >>= set_all types object (drop (i + 1) (a ∷ given))) (sym (slice_get-get_or (a ∷ given) i a within))

  -- so all is set once the argument has set its own
  pub set_turn : (whole : Result Fields Fault) (given : Asked) (i : ℕ) (fields new : Fields) → i < length given → set_at types object given i fields ≡ Ok new
      → whole ≡ set_all types object (drop i given) fields → whole ≡ set_all types object (drop (i + 1) given) new
  set_turn whole given i fields new within sets so_far = so_far ∙ set_more given i fields within ∙ ap (λ r. r >>= set_all types object (drop (i + 1) given)) sets

  pub set_fails : (whole : Result Fields Fault) (given : Asked) (i : ℕ) (fields : Fields) (e : Fault) → i < length given → whole ≡ set_all types object (drop i given) fields → set_at types object given i fields ≡ Err e → whole ≡ Err e
  set_fails whole given i fields e within so_far fails = so_far ∙ set_more given i fields within ∙ ap (λ r. r >>= set_all types object (drop (i + 1) given)) fails

-- Where faults of files stand, case by case.
use Rattle.std.proofs.Common.{◌≡◌, List, Option, Some, None, Result, Ok, Err, IfOk, IfSome, refl, sym, ap, subst, ◌∙◌}
use Rattle.std.specs.declared.alloc.AllocError.{AllocError}
use Rattle.graphql_names.specs.Names.{Bytes}
use Rattle.graphql_schema.specs.Promises.{IsFirstBroken}
use Rattle.graphql_schema.specs.declared.schema.promises.BrokenPromise.{BrokenPromise}
use Rattle.graphql_schema_files.specs.Outlines.{Outline, OutlineType, OutlinesBytes}
use Rattle.graphql_schema_files.specs.declared.schema_file_error.SchemaFileError.{SchemaFileError}
use Rattle.graphql_schema_files.specs.declared.schema_file_error.SchemaFileError.TheVariants as schema_fault
use Rattle.graphql_data_files.specs.declared.data_file_error.DataFileError.{DataFileError}
use Rattle.graphql_data_files.specs.declared.data_file_error.DataFileError.TheVariants as data_fault
use Rattle.graphql_file_service.specs.FaultPlaces.{IsByOutline, IsDataPlace, IsDeclarationPlace, IsPlaceOf, IsRecordPlace, IsSchemaPlace, promise_at}
use Rattle.graphql_file_service.specs.declared.fault_place.FaultPlace.{FaultPlace}
use Rattle.graphql_file_service.specs.declared.fault_place.PromisePlace.{PromisePlace}
use Rattle.graphql_file_service.specs.declared.run_fault.RunFault.{RunFault}

-- faults of a file that is JSON
pub schema_rest : (file : Bytes) (e : SchemaFileError) (found : Option FaultPlace) → (e ≡ schema_fault.NotJson → ⊥) → (e ≡ schema_fault.BadShape → ⊥) → IsDeclarationPlace file e found → IsSchemaPlace file e found
schema_rest file schema_fault.NotJson found other shaped is = absurd (other refl)
schema_rest file schema_fault.BadShape found other shaped is = absurd (shaped refl)
schema_rest file schema_fault.BadName found other shaped is = is
schema_rest file schema_fault.BadTypeText found other shaped is = is
schema_rest file schema_fault.BadDefault found other shaped is = is
schema_rest file (schema_fault.Schema e) found other shaped is = is
schema_rest file (schema_fault.UnfitDefault place) found other shaped is = is
schema_rest file schema_fault.Memory found other shaped is = is

pub data_rest : (schema file : Bytes) (e : DataFileError) (found : Option FaultPlace) → (e ≡ data_fault.NotJson → ⊥) → IsByOutline schema (IsRecordPlace file e) found → IsDataPlace schema file e found
data_rest schema file data_fault.NotJson found other is = absurd (other refl)
data_rest schema file data_fault.BadShape found other is = is
data_rest schema file data_fault.BadNumber found other is = is
data_rest schema file data_fault.DuplicateId found other is = is
data_rest schema file data_fault.UnknownType found other is = is
data_rest schema file data_fault.UnknownField found other is = is
data_rest schema file data_fault.BadLink found other is = is
data_rest schema file data_fault.BadRoot found other is = is
data_rest schema file data_fault.Memory found other is = is

module _ (file : Bytes) (At : Outline → Option FaultPlace → Type 0) where
  pub in_outline : (outline : Outline) (result : Result (Option FaultPlace) AllocError) → OutlinesBytes file (Ok outline) → IfOk result (At outline) → IfOk result (IsByOutline file At)
  in_outline outline (Ok found) outlined is = (Ok outline, outlined, is)
  in_outline outline (Err e) outlined is = is

  pub no_outline : (e : SchemaFileError) → (e ≡ schema_fault.Memory → ⊥) → OutlinesBytes file (Err e) → IsByOutline file At None
  no_outline e other outlined = (Err e, outlined, (refl, other))

abbrev promise_of : Bytes → Bytes → Option Bytes → BrokenPromise
promise_of type_name interface field = record { type_name = type_name; interface = interface; field = field }

-- what is lent is told
pub promise_told : (types : List OutlineType) (broken : BrokenPromise) (at : PromisePlace) → at.type_name ≡ broken.type_name → at.interface ≡ broken.interface → at.field ≡ broken.field
    → IsFirstBroken types broken → IsFirstBroken types (promise_at at)
promise_told types broken at names lists lacks first =
    let same : broken ≡ promise_at at =
    ap (λ n. promise_of n broken.interface broken.field) (sym names) ∙ ap (λ i. promise_of at.type_name i broken.field) (sym lists) ∙ ap (promise_of at.type_name at.interface) (sym lacks) in
    subst (IsFirstBroken types) same first

-- a place that is found is that of the fault
pub found_placed : (schema records : Bytes) (e : RunFault) (o : Option FaultPlace) → IsPlaceOf schema records e o → IfSome o (λ at. IsPlaceOf schema records e (Some at))
found_placed schema records e None is = tt
found_placed schema records e (Some at) is = is

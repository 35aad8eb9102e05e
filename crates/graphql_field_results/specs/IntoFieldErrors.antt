-- The errors of fields that other errors become.
use Rattle.std.specs.Prelude.{◌≡◌, ◌++◌, ℕ, List, Option, Some, codes}
use Rattle.std.specs.Fmt.{decimal}
use Rattle.graphql_scalars.specs.declared.check_error.CheckError.{CheckError}
use Rattle.graphql_scalars.specs.declared.check_error.CheckError.TheVariants as check
use Rattle.graphql_output_values.specs.declared.value.Value.TheVariants as value
use Rattle.graphql_values.specs.declared.conversions.arrays.FromInputValueArrayError.{FromInputValueArrayError}
use Rattle.graphql_values.specs.declared.conversions.arrays.FromInputValueArrayError.TheVariants as
    array_error
use Rattle.graphql_values.specs.declared.conversions.lists.FromInputValueVecError.{FromInputValueVecError}
use Rattle.graphql_values.specs.declared.conversions.lists.FromInputValueVecError.TheVariants as
    vec_error
use Rattle.graphql_field_results.specs.declared.field_error.FieldError.{FieldError}
use Rattle.graphql_field_results.specs.declared.field_fault.FieldFault.{FieldFault}
use Rattle.graphql_field_results.specs.declared.field_fault.FieldFault.TheVariants as fault

-- this reason, with nothing told beside it
abbrev pub only_reason : {S : Type 0} → List ℕ → FieldError S
only_reason message = record { message = message; extensions = value.Null }

-- the fault is this error; want of memory tells nothing
abbrev pub IsFaultOf : {S : Type 0} → FieldError S → FieldFault S → Type 0
IsFaultOf wanted (fault.Error error) = error ≡ wanted
IsFaultOf wanted fault.Memory = Unit {0}

-- the error's reason is this text
abbrev pub IsReason : {S : Type 0} → FieldError S → Option (List ℕ) → Type 0
IsReason error text = text ≡ Some error.message

-- another number of items than the wanted one
abbrev pub wrong_count : ℕ → ℕ → List ℕ
wrong_count actual expected =
    codes "Failed to convert into exact-size array: wrong elements count: " ++ decimal actual
    ++ codes " instead of " ++ decimal expected

-- what is wrong with a value is the reason; want of memory stays so
abbrev pub check_fault : {S : Type 0} → CheckError → FieldFault S
check_fault (check.Message text) = fault.Error (only_reason text)
check_fault check.Memory = fault.Memory

module _ {F S T E : Type 0} (becomes : E → FieldError F) where
  -- an item's error is the list's, as it stands
  abbrev pub of_list_error : FromInputValueVecError T S E → FieldError F
  of_list_error vec_error.Null = only_reason
      (codes "Failed to convert into `Vec`: Value cannot be `null`")
  of_list_error (vec_error.Item e) = becomes e
  of_list_error vec_error.Memory = only_reason (codes "Out of memory")

  -- the same of a list of one length
  abbrev pub of_array_error : FromInputValueArrayError T S E → FieldError F
  of_array_error array_error.Null =
      only_reason (codes "Failed to convert into exact-size array: Value cannot be `null`")
  of_array_error (array_error.WrongCount actual expected) = only_reason
      (wrong_count actual expected)
  of_array_error (array_error.Item e) = becomes e
  of_array_error array_error.Memory = only_reason (codes "Out of memory")

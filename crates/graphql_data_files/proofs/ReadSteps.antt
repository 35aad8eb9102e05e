-- Steps of reading a file, of which each may find a fault.
use Rattle.std.proofs.Common.{◌≡◌, false, Option, Some, None, is_some, Result, Ok, Err, ok_or, refl, sym, ap, subst, ◌∙◌, true≢false}
use Rattle.serde_json.specs.Data.{Data}
use Rattle.graphql_text.specs.Memory.{Meets}
use Rattle.graphql_lines.specs.declared.refusal.LineRefusal.{LineRefusal}
use Rattle.graphql_lines.specs.declared.refusal.LineRefusal.TheVariants as refusal
use Rattle.graphql_data_files.specs.Refusals.{fault_of}
use Rattle.graphql_data_files.specs.declared.data_file_error.DataFileError.{DataFileError}
use Rattle.graphql_data_files.specs.declared.data_file_error.DataFileError.TheVariants as fault

-- what meets one thing meets what is the same
pub meets_along : {A : Type 0} (result wanted other : Result A DataFileError) → other ≡ wanted → Meets (λ e. e ≡ fault.Memory) result wanted → Meets (λ e. e ≡ fault.Memory) result other
meets_along result wanted other same met = subst (Meets (λ e. e ≡ fault.Memory) result) (sym same) met

pub meets_same : {A : Type 0} (result wanted : Result A DataFileError) → wanted ≡ result → Meets (λ e. e ≡ fault.Memory) result wanted
meets_same (Ok x) wanted same = same
meets_same (Err e) wanted same = λ u. same

none_of : {A : Type 0} (o : Option A) → is_some o ≡ false → o ≡ None
none_of None h = refl
none_of (Some x) h = absurd (true≢false h)

-- what is no JSON
pub no_json : (r : LineRefusal) (json : Option Data) → ((r ≡ refusal.Memory → ⊥) → (r ≡ refusal.NotARequest) × (is_some json ≡ false)) → (fault_of r ≡ fault.Memory → ⊥) → ok_or json fault.NotJson ≡ Err (fault_of r)
no_json r json told other =
    let due = told (λ is. other (ap fault_of is)) in
    ap (λ o. ok_or o fault.NotJson) (none_of json due.1) ∙ ap Err (sym (ap fault_of due.0))

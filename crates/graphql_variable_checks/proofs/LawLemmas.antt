-- Final values, where each definition accepts what is given.
use Rattle.std.proofs.Common.{◌≡◌, ◌||◌, not, Bool, true, false, List, [], ◌∷◌, zero, suc, map, Option, Some, None, refl, ap, subst, ◌∙◌, arith}
use Rattle.std.specs.List.{Contains, IsDistinct}
use Rattle.std.specs.Option.{is_some, option_and_then, option_map, option_or}
use Rattle.std.specs.Str.{bytes_eq}
use Rattle.std.proofs.lemmas.Bool.{false≢true}
use Rattle.std.proofs.lemmas.List.{get_or-map, length-map}
use Rattle.std.proofs.lemmas.List.Elements.{All-contains, All-from_recursion}
use Rattle.std.proofs.lemmas.Map.Keys.{IsDistinct-head, IsDistinct-tail}
use Rattle.graphql_schema.specs.Scalars.{Scalars}
use Rattle.graphql_schema.specs.Types.{refuses_null}
use Rattle.graphql_names.specs.Names.{Bytes, named}
use Rattle.graphql_names.proofs.NameLemmas.{eq_itself, same_bytes}
use Rattle.graphql_names.proofs.NameMaps.{found_is_in}
use Rattle.graphql_values.specs.InputValues.{Placed}
use Rattle.graphql_values.specs.declared.input_value.InputValue.{InputValue}
use Rattle.graphql_written_out.specs.FinalValues.{default_named, default_of, variable_name}
use Rattle.graphql_variable_checks.specs.Accepted.{FitsVariable, may_be_absent, variable_type}
use Rattle.graphql_variable_checks.specs.Laws.{DistinctNamesAreFound, GivenValuesConform, NonNullHaveValues, ValuesAreGivenOrDefaults}
use Rattle.graphql_variable_checks.proofs.RefusalLemmas.{told_none}

mapped_there : {S : Type 0} (d : Option (Placed (InputValue S))) → is_some d ≡ true → is_some (option_map (λ x. x.item) d) ≡ true
mapped_there None there = absurd (false≢true there)
mapped_there (Some x) there = refl

default_needed : (refuses has_default : Bool) → refuses ≡ true → (not refuses || has_default) ≡ true → has_default ≡ true
default_needed true has_default there either = either
default_needed false has_default there either = absurd (false≢true there)

module _ {A : Type 0} (name_of : A → Bytes) where
  has_name : (items : List A) (x : A) → Contains items x → Contains (map name_of items) (name_of x)
  has_name items x (k, within, is) = (k, rw (length-map items name_of) within, get_or-map name_of items k x (name_of x) within ∙ ap name_of is)

  -- an item of distinct names is the one that its name finds
  distinct_is_found : (items : List A) (x : A) → IsDistinct bytes_eq (map name_of items) → Contains items x → named name_of items (name_of x) ≡ Some x
  distinct_is_found [] x distinct (k, within, is) = absurd (omega arith)
  distinct_is_found (y ∷ items) x distinct (zero, within, is) = rw is (rw (eq_itself (name_of x)))
  distinct_is_found (y ∷ items) x distinct (suc k, within, is) =
      let later : Contains items x = (k, omega arith, is) in
      let apart = All-from_recursion (λ n. bytes_eq (name_of y) n ≡ false) (map name_of items) (IsDistinct-head bytes_eq (name_of y) (map name_of items) distinct) in
      let differs = All-contains (λ n. bytes_eq (name_of y) n ≡ false) (map name_of items) (name_of x) apart (has_name items x later) in
      rw differs (distinct_is_found items x (IsDistinct-tail bytes_eq (name_of y) (map name_of items) distinct) later)

module _ {S : Type 0} where
  pub given_or_default : ValuesAreGivenOrDefaults S
  given_or_default given definitions name =
      let final : Option (InputValue S) → Option (InputValue S) = λ o. option_or o (default_named definitions name) in (
        λ value is. ap final is,
        λ v absent is. ap final absent ∙ ap (option_and_then default_of) is,
        λ absent none. ap final absent ∙ ap (option_and_then default_of) none,
      )

  pub distinct_found : DistinctNamesAreFound S
  distinct_found definitions distinct v there = distinct_is_found variable_name definitions v distinct there

module _ {S C : Type 0} (scalars : Scalars S C) where
  pub given_conform : GivenValuesConform scalars
  given_conform types given definitions none v there known x is = (
    ap (λ o. option_or o (default_named definitions (variable_name v))) is,
    subst (FitsVariable scalars types v) is ((told_none scalars types given definitions).0 none v there known),
  )

  pub non_null_valued : NonNullHaveValues scalars
  non_null_valued types given definitions none name v is known refuses =
      let at = found_is_in variable_name definitions name v is in
      let same : variable_name v ≡ name = same_bytes (variable_name v) name at.0 in
      let accepted = (told_none scalars types given definitions).0 none v at.1 known in
      either (given name) (subst (λ n. FitsVariable scalars types v (given n)) same accepted)
    where
      default_there : may_be_absent v ≡ true → is_some (default_named definitions name) ≡ true
      default_there absent =
          ap is_some (ap (option_and_then default_of) is) ∙ mapped_there v.1.default_value (default_needed (refuses_null (variable_type v)) (is_some v.1.default_value) refuses absent)

      either : (o : Option (InputValue S)) → FitsVariable scalars types v o → is_some (option_or o (default_named definitions name)) ≡ true
      either (Some x) fits = refl
      either None absent = default_there absent

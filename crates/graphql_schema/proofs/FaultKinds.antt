-- Faults by their kinds, in the order in which they are told.
use Rattle.std.specs.Prelude.{codes}
use Rattle.std.specs.Option.{is_some}
use Rattle.std.proofs.Common.{◌≡◌, ℕ, ◌+◌, ◌<◌, ◌||◌, ◌&&◌, Bool, true, not, List, [], ◌∷◌, map, length, take, get_or, All, Option, Some, None, Result, IfOk, Bor, refl, ap, sym, subst, ◌∙◌, arith}
use Rattle.std.specs.List.{list_any}
use Rattle.std.proofs.lemmas.List.Elements.{All-more}
use Rattle.std.proofs.lemmas.Option.{slice_get_read}
use Rattle.graphql_schema.specs.declared.meta.MetaType.{MetaType}
use Rattle.graphql_names.specs.declared.name_map.NameMapError.{NameMapError}
use Rattle.graphql_names.specs.declared.name_map.NameMapError.TheVariants as repeat
use Rattle.graphql_names.specs.NameMaps.{IsRepeat}
use Rattle.graphql_names.specs.Names.{Bytes, Finds, IsByName, passes, stands_twice, is_one_of}
use Rattle.graphql_names.proofs.NameLemmas.{none_found, some_found, finds_as, ok_finds_as}
use Rattle.graphql_names.proofs.NameMaps.{any_named, stands_once}
use Rattle.graphql_schema.specs.declared.error.SchemaError.{SchemaError}
use Rattle.graphql_schema.specs.declared.faults.kind.FaultKind.{FaultKind}
use Rattle.graphql_schema.specs.declared.faults.kind.FaultKind.TheVariants as fault
use Rattle.graphql_schema.specs.declared.faults.demand.Demand.{Demand}
use Rattle.graphql_schema.specs.declared.faults.demand.Demand.TheVariants as demand
use Rattle.graphql_schema.specs.Lookups.{own_name, type_named, is_object, is_scalar, is_interface, is_input_object}
use Rattle.graphql_schema.specs.Faults.{Roots, root_names, order, error_of, refusal_of, has_fault, has_type, refers, is_bad_one_of, is_composite, scopes_of, IsAbsent, IsFirstFault}
use Rattle.graphql_schema.specs.Demands.{is_unmet, references_asked, misses, is_referred}

-- what holds of the kinds in the order holds of each kind
pub of_each_kind : (P : FaultKind → Type 0) → All P order → (kind : FaultKind) → P kind
of_each_kind P all fault.DuplicateName = all 0 fault.DuplicateName (omega arith)
of_each_kind P all fault.MissingBuiltin = all 1 fault.DuplicateName (omega arith)
of_each_kind P all fault.UnknownType = all 2 fault.DuplicateName (omega arith)
of_each_kind P all fault.NotOutputType = all 3 fault.DuplicateName (omega arith)
of_each_kind P all fault.NotInputType = all 4 fault.DuplicateName (omega arith)
of_each_kind P all fault.BadRoot = all 5 fault.DuplicateName (omega arith)
of_each_kind P all fault.BadMember = all 6 fault.DuplicateName (omega arith)
of_each_kind P all fault.BadOneOf = all 7 fault.DuplicateName (omega arith)

module _ {S C : Type 0} (types : List (MetaType S C)) (roots : Roots) where
  -- a fault that was found, of the kind at a place of the order, where none stands before that place
  pub first_fault : (place : ℕ) (kind : FaultKind) (e : SchemaError) (own : Bytes) → e ≡ error_of kind own → (found : Option (Bor Bytes)) (name : Bor Bytes) → own ≡ name.now
      → Finds (has_fault types roots kind) found → found ≡ Some name → place < length order → kind ≡ get_or order place kind → All (IsAbsent types roots) (take place order) → IsFirstFault types roots e
  first_fault place kind e own told found name is finds found_is within at before = λ no_memory. record {
    kind = kind;
    name = own;
    told = told;
    stands = ap (has_fault types roots kind) is ∙ some_found (has_fault types roots kind) found name finds found_is;
    place = place;
    at = slice_get_read order (length order) place kind refl within at;
    before = before;
  }

  -- one more kind of which no fault was found
  pub one_more : (place : ℕ) (kind : FaultKind) (found : Option (Bor Bytes)) → Finds (has_fault types roots kind) found → found ≡ None → place < length order → kind ≡ get_or order place kind
      → All (IsAbsent types roots) (take place order) → All (IsAbsent types roots) (take (place + 1) order)
  one_more place kind found finds found_is within at before =
      let absent = none_found (has_fault types roots kind) found finds found_is in
      All-more (IsAbsent types roots) order place kind within before (subst (IsAbsent types roots) at absent)

  -- the refusal of types of which two have one name tells the first fault
  pub repeat_first : (e : NameMapError) → IsRepeat (map own_name types) e → IsFirstFault types roots (refusal_of e)
  repeat_first (repeat.Repeated name) twice = λ no_memory. record {
    kind = fault.DuplicateName;
    name = name;
    told = refl;
    stands = ap (λ b. b || list_any (λ m. list_any (λ names. stands_twice names name) (scopes_of m)) types) twice;
    place = 0;
    at = refl;
    before = λ k d within. absurd (omega arith);
  }
  repeat_first repeat.Memory twice = λ no_memory. absurd (no_memory refl)

  -- types in the order of their names
  module _ (ordered : IsByName own_name types) where
    -- whether one of the types has a name and passes a test
    has : (test : MetaType S C → Bool) (name : Bytes) → has_type test types name ≡ passes test (type_named types name)
    has test name = any_named own_name test types name ordered

    -- what is asked of a name, in the words of the faults
    abbrev asks : Demand → Bytes → Bool
    asks demand.Known name = not (has_type (λ m. true) types name)
    asks demand.Output name = has_type is_input_object types name
    asks demand.Input name = has_type is_composite types name
    asks demand.Object name = not (has_type is_object types name)
    asks demand.Interface name = not (has_type is_interface types name)
    asks demand.Scalar name = not (has_type is_scalar types name)

    given : (found : Option (MetaType S C)) → is_some found ≡ passes (λ m. true) found
    given None = refl
    given (Some m) = refl

    asks-unmet : (wanted : Demand) (name : Bytes) → asks wanted name ≡ is_unmet wanted (type_named types name)
    asks-unmet demand.Known name = ap not (has (λ m. true) name ∙ sym (given (type_named types name)))
    asks-unmet demand.Output name = has is_input_object name
    asks-unmet demand.Input name = has is_composite name
    asks-unmet demand.Object name = ap not (has is_object name)
    asks-unmet demand.Interface name = ap not (has is_interface name)
    asks-unmet demand.Scalar name = ap not (has is_scalar name)

    reference : (wanted : Demand) (name : Bytes) → (refers (references_asked wanted) types name && asks wanted name) ≡ is_referred wanted types name
    reference wanted name = ap (λ b. refers (references_asked wanted) types name && b) (asks-unmet wanted name)

    missing : (wanted : Demand) (names : List Bytes) (name : Bytes) → (is_one_of names name && asks wanted name) ≡ misses wanted types names name
    missing wanted names name = ap (λ b. is_one_of names name && b) (asks-unmet wanted name)

    either : {a b c d : Bool} → a ≡ b → c ≡ d → (a || c) ≡ (b || d)
    either e f = rw (e, f) refl

    -- what is looked for at each kind
    abbrev sought : FaultKind → Bytes → Bool
    sought fault.DuplicateName name = list_any (λ m. list_any (λ names. stands_twice names name) (scopes_of m)) types
    sought fault.MissingBuiltin name = misses demand.Object types (codes "__Schema" ∷ codes "__Type" ∷ []) name || misses demand.Scalar types (codes "String" ∷ codes "Boolean" ∷ []) name
    sought fault.UnknownType name = is_referred demand.Known types name
    sought fault.NotOutputType name = is_referred demand.Output types name
    sought fault.NotInputType name = is_referred demand.Input types name
    sought fault.BadRoot name = misses demand.Object types (root_names roots) name
    sought fault.BadMember name = is_referred demand.Object types name || is_referred demand.Interface types name
    sought fault.BadOneOf name = has_type is_bad_one_of types name

    fault-sought : (kind : FaultKind) (name : Bytes) → has_fault types roots kind name ≡ sought kind name
    fault-sought fault.DuplicateName name = ap (λ b. b || sought fault.DuplicateName name) (stands_once own_name types ordered name)
    fault-sought fault.MissingBuiltin name = either (missing demand.Object (codes "__Schema" ∷ codes "__Type" ∷ []) name) (missing demand.Scalar (codes "String" ∷ codes "Boolean" ∷ []) name)
    fault-sought fault.UnknownType name = reference demand.Known name
    fault-sought fault.NotOutputType name = reference demand.Output name
    fault-sought fault.NotInputType name = reference demand.Input name
    fault-sought fault.BadRoot name = missing demand.Object (root_names roots) name
    fault-sought fault.BadMember name = either (reference demand.Object name) (reference demand.Interface name)
    fault-sought fault.BadOneOf name = refl

    -- a name that was looked for is one at which a fault stands
    pub found : (kind at : FaultKind) (name : Option (Bor Bytes)) → kind ≡ at → Finds (sought at) name → Finds (has_fault types roots kind) name
    found kind at name is finds = subst (λ k. Finds (has_fault types roots k) name) (sym is) (finds_as (sought at) (has_fault types roots at) name (λ n. sym (fault-sought at n)) finds)

    pub ok_found : {E : Type 0} (kind at : FaultKind) (result : Result (Option (Bor Bytes)) E) → kind ≡ at → IfOk result (Finds (sought at)) → IfOk result (Finds (has_fault types roots kind))
    ok_found kind at result is finds =
        subst (λ k. IfOk result (Finds (has_fault types roots k))) (sym is) (ok_finds_as (sought at) (has_fault types roots at) result (λ n. sym (fault-sought at n)) finds)

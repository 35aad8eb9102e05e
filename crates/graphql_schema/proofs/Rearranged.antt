-- Types in another order have the same faults.
use Rattle.std.proofs.Common.{◌≡◌, ◌∙◌, ◌&&◌, not, Bool, true, List, map, take, get_or, IsPermutation, refl, sym, subst}
use Rattle.std.specs.List.{list_any}
use Rattle.std.proofs.lemmas.List.Sorted.{list_any-IsPermutation, IsPermutation-map}
use Rattle.graphql_schema.specs.declared.meta.MetaType.{MetaType}
use Rattle.graphql_schema.specs.declared.error.SchemaError.{SchemaError}
use Rattle.graphql_schema.specs.declared.faults.kind.FaultKind.{FaultKind}
use Rattle.graphql_schema.specs.declared.faults.kind.FaultKind.TheVariants as fault
use Rattle.graphql_names.specs.Names.{Bytes, stands_twice, is_one_of, is_named}
use Rattle.graphql_schema.specs.Lookups.{own_name, is_object, is_scalar, is_interface, is_input_object, interfaces_of, union_members, output_names, input_names, references_of}
use Rattle.graphql_schema.specs.Completed.{completed}
use Rattle.graphql_schema.specs.Faults.{Roots, scopes_of, is_bad_one_of, is_composite, has_type, refers, order, has_fault, IsAbsent, IsFirstFault, IsFaultless}
use Rattle.graphql_names.proofs.NameLemmas.{stands_twice-IsPermutation}

module _ {S C : Type 0} (xs ys : List (MetaType S C)) (moved : IsPermutation xs ys) where
  has_type-moved : (test : MetaType S C → Bool) (name : Bytes) → has_type test xs name ≡ has_type test ys name
  has_type-moved test name = list_any-IsPermutation (λ m. is_named own_name name m && test m) xs ys moved

  refers-moved : (names : MetaType S C → List Bytes) (name : Bytes) → refers names xs name ≡ refers names ys name
  refers-moved names name = list_any-IsPermutation (λ m. is_one_of (names m) name) xs ys moved

  both : {a b c d : Bool} → a ≡ b → c ≡ d → (a && not c) ≡ (b && not d)
  both e f = rw (e, f) refl

  has_fault-moved : (roots : Roots) (kind : FaultKind) (name : Bytes) → has_fault xs roots kind name ≡ has_fault ys roots kind name
  has_fault-moved roots fault.DuplicateName name =
      rw (sym (stands_twice-IsPermutation (map own_name xs) (map own_name ys) name (IsPermutation-map own_name xs ys moved)), list_any-IsPermutation (λ m. list_any (λ names. stands_twice names name) (scopes_of m)) xs ys moved) refl
  has_fault-moved roots fault.MissingBuiltin name = rw (has_type-moved is_object name, has_type-moved is_scalar name) refl
  has_fault-moved roots fault.UnknownType name = both (refers-moved references_of name) (has_type-moved (λ m. true) name)
  has_fault-moved roots fault.NotOutputType name = rw (refers-moved output_names name, has_type-moved is_input_object name) refl
  has_fault-moved roots fault.NotInputType name = rw (refers-moved input_names name, has_type-moved is_composite name) refl
  has_fault-moved roots fault.BadRoot name = rw (has_type-moved is_object name) refl
  has_fault-moved roots fault.BadMember name =
      rw (refers-moved union_members name, has_type-moved is_object name, refers-moved interfaces_of name, has_type-moved is_interface name) refl
  has_fault-moved roots fault.BadOneOf name = has_type-moved is_bad_one_of name

  absent-moved : (roots : Roots) (kind : FaultKind) → IsAbsent ys roots kind → IsAbsent xs roots kind
  absent-moved roots kind absent name = has_fault-moved roots kind name ∙ absent name

  pub faultless-moved : (roots : Roots) → IsFaultless ys roots → IsFaultless xs roots
  faultless-moved roots faultless kind = absent-moved roots kind (faultless kind)

  pub first_fault-moved : (roots : Roots) (e : SchemaError) → IsFirstFault ys roots e → IsFirstFault xs roots e
  first_fault-moved roots e first no_memory =
      let tells = first no_memory in
      record {
        kind = tells.kind;
        name = tells.name;
        told = tells.told;
        stands = has_fault-moved roots tells.kind tells.name ∙ tells.stands;
        place = tells.place;
        at = tells.at;
        before = λ k d within. absent-moved roots (get_or (take tells.place order) k d) (tells.before k d within);
      }

-- The schema that is made of metadata, and why none is.
module _ {S C : Type 0} (metadata : List (MetaType S C)) (named : Roots) (types : List (MetaType S C)) (moved : IsPermutation (completed metadata named.query) types)
    (roots : Roots) (same : roots ≡ named) where
  pub refused : (e : SchemaError) → IsFirstFault types roots e → IsFirstFault (completed metadata named.query) named e
  refused e first = subst (λ r. IsFirstFault (completed metadata named.query) r e) same (first_fault-moved (completed metadata named.query) types moved roots e first)

  pub made : IsFaultless types roots → IsFaultless (completed metadata named.query) named
  made faultless = subst (IsFaultless (completed metadata named.query)) same (faultless-moved (completed metadata named.query) types moved roots faultless)

-- What the search for a promise that is not kept finds is the first one.
use Rattle.std.proofs.Common.{◌≡◌, ◌++◌, Bool, true, false, true≢false, cond, ◌&&◌, not, List, [], ◌∷◌, Option, Some, None, sym, refl, ap, ◌∙◌, subst, IsNone, IfSome}
use Rattle.std.specs.Bool.{Decides}
use Rattle.std.specs.List.{find, list_any, list_all}
use Rattle.std.specs.Option.{option_map, option_and_then, is_some, unwrap_or}
use Rattle.std.proofs.lemmas.Bool.{not-false, and_from}
use Rattle.std.proofs.lemmas.Bool.Decides.{Decides-and}
use Rattle.graphql_schema.specs.declared.meta.field.Field.{Field}
use Rattle.graphql_schema.specs.declared.meta.MetaType.{MetaType}
use Rattle.graphql_schema.specs.Types.{fields_of}
use Rattle.graphql_names.specs.Names.{Bytes}
use Rattle.graphql_schema.specs.Lookups.{own_name, type_named, interfaces_of}
use Rattle.graphql_schema.specs.Faults.{Roots, IsFaultless}
use Rattle.graphql_schema.specs.declared.schema.promises.BrokenPromise.{BrokenPromise}
use Rattle.graphql_schema.specs.Executable.{is_promised_field, keeps_named, keeps_interfaces, is_executable}
use Rattle.graphql_schema.specs.Implementations.{IsExecutable}
use Rattle.graphql_schema.specs.Promises.{IsFirstWithout, KeepsNamed, KeepsListed, ListsAll, HasPromised, IsLacking, IsFirstBroken, breaking_type, unkept_name, lacked_field, lists_all, lacking, broken_by, first_broken}
use Rattle.graphql_schema.proofs.ExecutableSchemas.{every, some, listed_decides, field_decides, named_decides, executable_decides, executable_by_interfaces}

module _ {A : Type 0} (p : A → Bool) where
  -- something is found exactly where not all pass
  finds : (items : List A) → is_some (find (λ x. not (p x)) items) ≡ not (list_all p items)
  finds [] = refl
  finds (x ∷ items) = either (p x) (finds items)
    where
      either : (b : Bool) → is_some (find (λ y. not (p y)) items) ≡ not (list_all p items) → is_some (cond (not b) (Some x) (find (λ y. not (p y)) items)) ≡ not (b && list_all p items)
      either true later = later
      either false later = refl

  -- those before what is found pass
  found_at : (items : List A) (item : A) → find (λ x. not (p x)) items ≡ Some item
      → (before : List A) × (behind : List A) × (items ≡ before ++ item ∷ behind) × (list_all p before ≡ true) × (p item ≡ false)
  found_at [] item found = absurd (cc)
  found_at (x ∷ items) item found = either (p x) refl found (found_at items item)
    where
      either : (b : Bool) → p x ≡ b → cond (not b) (Some x) (find (λ y. not (p y)) items) ≡ Some item
          → (find (λ y. not (p y)) items ≡ Some item → (before : List A) × (behind : List A) × (items ≡ before ++ item ∷ behind) × (list_all p before ≡ true) × (p item ≡ false))
          → (before : List A) × (behind : List A) × (x ∷ items ≡ before ++ item ∷ behind) × (list_all p before ≡ true) × (p item ≡ false)
      either true is found later = let (before, behind, stands, all, without) = later found in (x ∷ before, behind, ap (λ xs. x ∷ xs) stands, and_from _ _ is all, without)
      either false is found later = let same : x ≡ item = ap (λ o. unwrap_or o x) found in ([], items, ap (λ y. y ∷ items) same, refl, ap p (sym same) ∙ is)

  -- what is found is the first that does not pass
  first_found : (Holds : A → Type 0) → ((x : A) → Decides (p x) (Holds x)) → (items : List A) (item : A) → find (λ x. not (p x)) items ≡ Some item → IsFirstWithout Holds items item
  first_found Holds each items item found =
      let (before, behind, stands, all, without) = found_at items item found in
      record { before = before; behind = behind; stands = stands; others = (every p Holds each before).0 all; without = λ holds. true≢false (sym ((each item).1 holds) ∙ without) }

mapped : {A B : Type 0} → (f : A → B) (item : Option A) → is_some (option_map f item) ≡ is_some item
mapped f (Some x) = refl
mapped f None = refl

module _ {S C : Type 0} where
  has_decides : (types : List (MetaType S C)) (m : MetaType S C) (promised : Field S) → Decides (list_any (is_promised_field types promised) (fields_of m)) (HasPromised types m promised)
  has_decides types m promised = some _ _ (field_decides types promised) (fields_of m)

  keeps_decides : (types : List (MetaType S C)) (m : MetaType S C) (name : Bytes) → Decides (keeps_named types m (type_named types name)) (KeepsNamed types m name)
  keeps_decides types m name = named_decides types m (type_named types name)

  all_decides : (types : List (MetaType S C)) (m : MetaType S C) → Decides (keeps_interfaces types m) (KeepsListed types m)
  all_decides types m = every _ _ (keeps_decides types m) (interfaces_of m)

  lists_decides : (m i : MetaType S C) → Decides (lists_all m i) (ListsAll m i)
  lists_decides m i = Decides-and _ _ (λ h. h, λ h. h) (every _ _ (listed_decides (interfaces_of m)) (interfaces_of i))

  -- ---- whether there is one

  broken_where : (types : List (MetaType S C)) (m : MetaType S C) → is_some (broken_by types m) ≡ not (keeps_interfaces types m)
  broken_where types m = mapped _ (unkept_name types m) ∙ finds (λ name. keeps_named types m (type_named types name)) (interfaces_of m)

  first_where : (types : List (MetaType S C)) → is_some (first_broken types) ≡ not (list_all (keeps_interfaces types) types)
  first_where types = either (breaking_type types) refl ∙ finds (keeps_interfaces types) types
    where
      either : (found : Option (MetaType S C)) → breaking_type types ≡ found → is_some (option_and_then (broken_by types) found) ≡ is_some found
      either None is = refl
      either (Some m) is = let (_, _, _, _, without) = found_at (keeps_interfaces types) types m is in broken_where types m ∙ ap not without

  -- none is told exactly where the schema can be executed
  pub none_where_executable : (types : List (MetaType S C)) (roots : Roots) (result : Option BrokenPromise) → IsFaultless types roots → result ≡ first_broken types
      → (IsNone result → IsExecutable types roots) × (IsExecutable types roots → IsNone result)
  none_where_executable types roots result faultless is =
      let same : is_some result ≡ not (is_executable types roots) = ap is_some is ∙ first_where types ∙ ap not (executable_by_interfaces types roots faultless) in
      (λ none. (executable_decides types roots).0 (not-false _ (sym same ∙ none)), λ executable. same ∙ ap not ((executable_decides types roots).1 executable))

  -- ---- which one it is

  lacking_told : (types : List (MetaType S C)) (m : MetaType S C) (name : Bytes) → keeps_named types m (type_named types name) ≡ false → IsLacking types m name (lacking types m (type_named types name))
  lacking_told types m name broken = of_named (type_named types name) refl
    where
      of_field : (i : MetaType S C) → type_named types name ≡ Some i → lists_all m i ≡ true → (lacked : Option (Field S)) → lacked_field types (fields_of m) (fields_of i) ≡ lacked
          → IsLacking types m name (option_map (λ (f : Field S). f.name) lacked)
      of_field i is lists (Some promised) found =
          (i, is, (lists_decides m i).0 lists, promised, first_found (λ field. list_any (is_promised_field types field) (fields_of m)) (HasPromised types m) (has_decides types m) (fields_of i) promised found, refl)
      of_field i is lists None found =
          let has = not-false _ (sym (finds (λ field. list_any (is_promised_field types field) (fields_of m)) (fields_of i)) ∙ ap is_some found) in
          absurd (true≢false (sym (ap (keeps_named types m) is ∙ and_from _ _ lists has) ∙ broken))

      of_interface : (i : MetaType S C) → type_named types name ≡ Some i → (lists : Bool) → lists_all m i ≡ lists
          → IsLacking types m name (cond lists (option_map (λ (f : Field S). f.name) (lacked_field types (fields_of m) (fields_of i))) None)
      of_interface i is true lists = of_field i is lists (lacked_field types (fields_of m) (fields_of i)) refl
      of_interface i is false lists = λ (j, named, all). let same : j ≡ i = ap (λ o. unwrap_or o i) (sym named ∙ is) in true≢false (sym ((lists_decides m i).1 (subst (ListsAll m) same all)) ∙ lists)

      of_named : (found : Option (MetaType S C)) → type_named types name ≡ found → IsLacking types m name (lacking types m found)
      of_named None is = λ (j, named, all). true≢false (ap is_some (sym named ∙ is))
      of_named (Some i) is = of_interface i is (lists_all m i) refl

  first_told : (types : List (MetaType S C)) (told : BrokenPromise) → first_broken types ≡ Some told → IsFirstBroken types told
  first_told types told is = of_type (breaking_type types) refl is
    where
      of_name : (m : MetaType S C) → breaking_type types ≡ Some m → (name : Option Bytes) → unkept_name types m ≡ name
          → option_map (λ name. record { type_name = own_name m; interface = name; field = lacking types m (type_named types name) }) name ≡ Some told → IsFirstBroken types told
      of_name m breaking None unkept is = absurd (cc)
      of_name m breaking (Some name) unkept is =
          let (_, _, _, _, broken) = found_at (λ name. keeps_named types m (type_named types name)) (interfaces_of m) name unkept in
          subst (IsFirstBroken types) (ap (λ o. unwrap_or o told) is) (record {
            breaking = m;
            first = first_found (keeps_interfaces types) (KeepsListed types) (all_decides types) types m breaking;
            type_name = refl;
            interface = first_found (λ name. keeps_named types m (type_named types name)) (KeepsNamed types m) (keeps_decides types m) (interfaces_of m) name unkept;
            field = lacking_told types m name broken;
          })

      of_type : (found : Option (MetaType S C)) → breaking_type types ≡ found → option_and_then (broken_by types) found ≡ Some told → IsFirstBroken types told
      of_type None breaking is = absurd (cc)
      of_type (Some m) breaking is = of_name m breaking (unkept_name types m) refl is

  -- what is told is the first
  pub told_is_first : (types : List (MetaType S C)) (result : Option BrokenPromise) → result ≡ first_broken types → IfSome result (IsFirstBroken types)
  told_is_first types (Some told) is = first_told types told (sym is)
  told_is_first types None is = tt

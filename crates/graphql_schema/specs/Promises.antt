-- Promises that types make and do not keep (GraphQL October 2021, 3.6 Objects: Type Validation,
-- IsValidImplementation), and the first of them.
use Rattle.std.specs.Prelude.{◌≡◌, ◌++◌, ◌&&◌, ◌∷◌, if◌then◌else◌, not, List, Bool, Option, Some}
use Rattle.std.specs.Prelude.{None, IsTrue}
use Rattle.std.specs.List.{Contains, find, list_any, list_all}
use Rattle.std.specs.Option.{option_map, option_and_then}
use Rattle.graphql_schema.specs.declared.meta.field.Field.{Field}
use Rattle.graphql_schema.specs.declared.meta.MetaType.{MetaType}
use Rattle.graphql_schema.specs.Types.{fields_of}
use Rattle.graphql_names.specs.Names.{Bytes, is_one_of}
use Rattle.graphql_schema.specs.Lookups.{is_interface, own_name, type_named, interfaces_of}
use Rattle.graphql_schema.specs.declared.schema.promises.BrokenPromise.{BrokenPromise}
use Rattle.graphql_schema.specs.Executable.{is_promised_field, keeps_named, keeps_interfaces}
use Rattle.graphql_schema.specs.Implementations.{KeepsField, KeepsInterface}

-- the first of the items of which a statement does not hold
pub record IsFirstWithout {A : Type 0} (Holds : A → Type 0) (items : List A)
    (item : A) : Type 0 where
  pub before : List A
  pub behind : List A
  pub stands : items ≡ before ++ item ∷ behind
  pub others : (x : A) → Contains before x → Holds x
  pub without : ¬ (Holds item)

module _ {S C : Type 0} where
  -- an interface has the name, and a type keeps what it promises
  abbrev pub KeepsNamed : List (MetaType S C) → MetaType S C → Bytes → Type 0
  KeepsNamed types m name =
      (i : MetaType S C) × (type_named types name ≡ Some i) × KeepsInterface types m i

  -- a type keeps what each interface that it lists promises
  abbrev pub KeepsListed : List (MetaType S C) → MetaType S C → Type 0
  KeepsListed types m = (name : Bytes) → Contains (interfaces_of m) name → KeepsNamed types m name

  -- it is an interface, and a type lists each interface that it lists
  abbrev pub ListsAll : MetaType S C → MetaType S C → Type 0
  ListsAll m i = IsTrue (is_interface i)
      × ((name : Bytes) → Contains (interfaces_of i) name → Contains (interfaces_of m) name)

  -- a type has a field in the promised form
  abbrev pub HasPromised : List (MetaType S C) → MetaType S C → Field S → Type 0
  HasPromised types m promised =
      (field : Field S) × Contains (fields_of m) field × KeepsField types promised field

  -- the name of the first promised field that a type lacks; or no field is to blame, as no
  -- interface has the name or the type does not list what that one lists
  abbrev pub IsLacking : List (MetaType S C) → MetaType S C → Bytes → Option Bytes → Type 0
  IsLacking types m name (Some lacked) =
      (i : MetaType S C) × (type_named types name ≡ Some i) × ListsAll m i
      × (promised : Field S)
      × IsFirstWithout (HasPromised types m) (fields_of i) promised
      × (lacked ≡ promised.name)
  IsLacking types m name None =
      ¬ ((i : MetaType S C) × (type_named types name ≡ Some i) × ListsAll m i)

  -- of the first type that does not keep what it promises: its name, the first name that it lists
  -- and does not keep, and what it lacks
  pub record IsFirstBroken (types : List (MetaType S C)) (promise : BrokenPromise) : Type 0 where
    pub breaking : MetaType S C
    pub first : IsFirstWithout (KeepsListed types) types breaking
    pub type_name : promise.type_name ≡ own_name breaking
    pub interface : IsFirstWithout (KeepsNamed types breaking) (interfaces_of breaking)
        promise.interface
    pub field : IsLacking types breaking promise.interface promise.field

  -- ---- how the first one is found

  abbrev pub breaking_type : List (MetaType S C) → Option (MetaType S C)
  breaking_type types = find (λ m. not (keeps_interfaces types m)) types

  abbrev pub unkept_name : List (MetaType S C) → MetaType S C → Option Bytes
  unkept_name types m =
      find (λ name. not (keeps_named types m (type_named types name))) (interfaces_of m)

  -- of promised fields the first that a type lacks
  abbrev pub lacked_field : List (MetaType S C) → List (Field S) → List (Field S) → Option (Field S)
  lacked_field types own promised =
      find (λ field. not (list_any (is_promised_field types field) own)) promised

  abbrev pub lists_all : MetaType S C → MetaType S C → Bool
  lists_all m i = is_interface i && list_all (is_one_of (interfaces_of m)) (interfaces_of i)

  abbrev pub lacking : List (MetaType S C) → MetaType S C → Option (MetaType S C) → Option Bytes
  lacking types m (Some i) = if lists_all m i
      then option_map (λ (f : Field S). f.name) (lacked_field types (fields_of m) (fields_of i))
      else None
  lacking types m None = None

  abbrev pub broken_by : List (MetaType S C) → MetaType S C → Option BrokenPromise
  broken_by types m = option_map (λ name. record {
    type_name = own_name m;
    interface = name;
    field = lacking types m (type_named types name);
  }) (unkept_name types m)

  abbrev pub first_broken : List (MetaType S C) → Option BrokenPromise
  first_broken types = option_and_then (broken_by types) (breaking_type types)

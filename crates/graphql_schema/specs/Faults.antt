-- What is wrong with the types of a schema, in the order in which it is told (GraphQL October 2021,
-- 3.3 Schema, 3.4.2 Input and Output Types, 3.6 to 3.10).
use Rattle.std.specs.Prelude.{◌≡◌, ◌++◌, ◌&&◌, ◌||◌, not, ℕ, List, [], ◌∷◌, map, take, slice_get}
use Rattle.std.specs.Prelude.{All, Bool, true, false, Option, Some, codes}
use Rattle.std.specs.List.{list_all, list_any}
use Rattle.std.specs.Option.{is_some, option_to_list}
use Rattle.graphql_text.specs.Memory.{UnlessMemory}
use Rattle.graphql_names.specs.TypeReference.{is_non_null, outermost}
use Rattle.graphql_schema.specs.declared.meta.argument.Argument.{Argument}
use Rattle.graphql_schema.specs.declared.meta.MetaType.{MetaType}
use Rattle.graphql_schema.specs.declared.meta.MetaType.TheVariants as meta
use Rattle.graphql_schema.specs.Types.{fields_of, input_fields_of, arguments_of, values_of}
use Rattle.graphql_schema.specs.declared.error.SchemaError.{SchemaError}
use Rattle.graphql_schema.specs.declared.error.SchemaError.TheVariants as error
use Rattle.graphql_schema.specs.declared.faults.kind.FaultKind.{FaultKind}
use Rattle.graphql_schema.specs.declared.faults.kind.FaultKind.TheVariants as fault
use Rattle.graphql_names.specs.declared.name_map.NameMapError.{NameMapError}
use Rattle.graphql_names.specs.declared.name_map.NameMapError.TheVariants as repeat
use Rattle.graphql_names.specs.Names.{Bytes, stands_twice, is_one_of, is_named}
use Rattle.graphql_schema.specs.Lookups.{own_name, is_object, is_scalar, is_interface}
use Rattle.graphql_schema.specs.Lookups.{is_input_object, interfaces_of, union_members}
use Rattle.graphql_schema.specs.Lookups.{output_names}
use Rattle.graphql_schema.specs.Lookups.{input_names, references_of}

-- the refusal of types of which two have one name
abbrev pub refusal_of : NameMapError → SchemaError
refusal_of (repeat.Repeated name) = error.DuplicateName name
refusal_of repeat.Memory = error.Memory

-- the root operation types of a schema (3.3.1)
pub record Roots : Type 0 where
  pub query : Bytes
  pub mutation : Option Bytes
  pub subscription : Option Bytes

-- the names of the root types
abbrev pub root_names : Roots → List Bytes
root_names roots = roots.query ∷ option_to_list roots.mutation ++ option_to_list roots.subscription

-- the kinds of faults, in the order in which they are told
abbrev pub order : List FaultKind
order =
    fault.DuplicateName ∷ fault.MissingBuiltin ∷ fault.UnknownType ∷ fault.NotOutputType
    ∷ fault.NotInputType ∷ fault.BadRoot ∷ fault.BadMember ∷ fault.BadOneOf ∷ []

-- what tells a fault of a kind at a name
abbrev pub error_of : FaultKind → Bytes → SchemaError
error_of fault.DuplicateName name = error.DuplicateName name
error_of fault.MissingBuiltin name = error.MissingBuiltin name
error_of fault.UnknownType name = error.UnknownType name
error_of fault.NotOutputType name = error.NotOutputType name
error_of fault.NotInputType name = error.NotInputType name
error_of fault.BadRoot name = error.BadRoot name
error_of fault.BadMember name = error.BadMember name
error_of fault.BadOneOf name = error.BadOneOf name

-- what a field has to be of an input object of which exactly one field is given (September 2025,
-- 3.10.1 OneOf Input Objects): null is among its values, and it has no default
abbrev pub is_nullable_without_default : {S : Type 0} → Argument S → Bool
is_nullable_without_default field =
    not (is_non_null (outermost field.arg_type.modifiers)) && not (is_some field.default_value)

module _ {S C : Type 0} where
  -- the lists of names of one type in which no name may stand twice: its fields, its values, its
  -- input fields, and the arguments of each field
  abbrev pub scopes_of : MetaType S C → List (List Bytes)
  scopes_of m =
      map (λ field. field.name) (fields_of m) ∷ map (λ value. value.name) (values_of m)
      ∷ map (λ field. field.name) (input_fields_of m)
      ∷ map (λ field. map (λ argument. argument.name) (arguments_of field)) (fields_of m)

  -- an object, an interface or a union
  abbrev pub is_composite : MetaType S C → Bool
  is_composite (meta.Object m) = true
  is_composite (meta.Interface m) = true
  is_composite (meta.Union m) = true
  is_composite _ = false

  -- an input object of which exactly one field is given has a field that is non-null or has a
  -- default
  abbrev pub is_bad_one_of : MetaType S C → Bool
  is_bad_one_of (meta.InputObject m) =
      m.exactly_one && not (list_all is_nullable_without_default m.input_fields)
  is_bad_one_of _ = false

  -- one of the types has this name and passes the test
  abbrev pub has_type : (MetaType S C → Bool) → List (MetaType S C) → Bytes → Bool
  has_type test types name = list_any (λ m. is_named own_name name m && test m) types

  -- one of the types names it, by these references
  abbrev pub refers : (MetaType S C → List Bytes) → List (MetaType S C) → Bytes → Bool
  refers names types name = list_any (λ m. is_one_of (names m) name) types

  -- a fault of the kind stands at the name
  abbrev pub has_fault : List (MetaType S C) → Roots → FaultKind → Bytes → Bool
  has_fault types roots fault.DuplicateName name = stands_twice (map own_name types) name
      || list_any (λ m. list_any (λ names. stands_twice names name) (scopes_of m)) types
  has_fault types roots fault.MissingBuiltin name =
      is_one_of (codes "__Schema" ∷ codes "__Type" ∷ []) name && not (has_type is_object types name)
      || is_one_of (codes "String" ∷ codes "Boolean" ∷ []) name
      && not (has_type is_scalar types name)
  has_fault types roots fault.UnknownType name =
      refers references_of types name && not (has_type (λ m. true) types name)
  has_fault types roots fault.NotOutputType name =
      refers output_names types name && has_type is_input_object types name
  has_fault types roots fault.NotInputType name =
      refers input_names types name && has_type is_composite types name
  has_fault types roots fault.BadRoot name =
      is_one_of (root_names roots) name && not (has_type is_object types name)
  has_fault types roots fault.BadMember name =
      refers union_members types name && not (has_type is_object types name)
      || refers interfaces_of types name && not (has_type is_interface types name)
  has_fault types roots fault.BadOneOf name = has_type is_bad_one_of types name

  -- no fault of the kind stands
  abbrev pub IsAbsent : List (MetaType S C) → Roots → FaultKind → Type 0
  IsAbsent types roots kind = (name : Bytes) → has_fault types roots kind name ≡ false

  -- no kind of fault is there
  abbrev pub IsFaultless : List (MetaType S C) → Roots → Type 0
  IsFaultless types roots = (kind : FaultKind) → IsAbsent types roots kind

  -- the error tells a fault that stands, of the kind at a place of the order, and none of the kinds
  -- before that place stands
  pub record TellsFirst (types : List (MetaType S C)) (roots : Roots)
      (e : SchemaError) : Type 0 where
    pub kind : FaultKind
    pub name : Bytes
    pub told : e ≡ error_of kind name
    pub stands : has_fault types roots kind name ≡ true
    pub place : ℕ
    pub at : slice_get order place ≡ Some kind
    pub before : All (IsAbsent types roots) (take place order)

  -- the first fault; want of memory tells nothing
  abbrev pub IsFirstFault : List (MetaType S C) → Roots → SchemaError → Type 0
  IsFirstFault types roots e = UnlessMemory (λ e. e ≡ error.Memory) e (TellsFirst types roots e)

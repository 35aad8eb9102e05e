-- A small schema with two interfaces, two objects and a union: it can be executed; its subtypes and its possible types.
use Rattle.std.proofs.Common.{◌≡◌, refl, sym, lit<, ℕ, true, false, List, [], ◌∷◌, Option, Some, None}
use Rattle.std.specs.Prelude.{codes}
use Rattle.std.specs.List.Sorted.{IsStrictlySortedBy}
use Rattle.graphql_names.specs.declared.type_modifier.TypeModifier.{TypeModifier}
use Rattle.graphql_names.specs.declared.type_modifier.TypeModifier.TheVariants as modifier
use Rattle.graphql_schema.specs.declared.meta.argument.Argument.{Argument}
use Rattle.graphql_schema.specs.declared.meta.deprecation.DeprecationStatus.TheVariants as status
use Rattle.graphql_schema.specs.declared.meta.field.Field.{Field}
use Rattle.graphql_schema.specs.declared.meta.scalar.ScalarMeta.{ScalarMeta}
use Rattle.graphql_schema.specs.declared.meta.MetaType.{MetaType}
use Rattle.graphql_schema.specs.declared.meta.MetaType.TheVariants as meta
use Rattle.graphql_schema.specs.Types.{TypeOf}
use Rattle.graphql_names.specs.Names.{Bytes, IsByName}
use Rattle.graphql_schema.specs.Faults.{Roots}
use Rattle.graphql_schema.specs.Lookups.{own_name}
use Rattle.graphql_schema.specs.Declarations.{Declarations}
use Rattle.graphql_schema.specs.Executable.{is_executable}
use Rattle.graphql_schema.specs.Subtypes.{IsSubtypeOf, names, both_lists, non_null, is_named_subtype}
use Rattle.graphql_schema.proofs.SubtypesLaws.{subtype_transitive}
use Rattle.graphql_schema.proofs.SubtypesPossible.{possible_from_below}

abbrev pub type_of : Bytes → List TypeModifier → TypeOf
type_of name modifiers = record { name = name; modifiers = modifiers }

-- lists of a type, of any length
abbrev pub list_of : Bytes → TypeOf
list_of name = type_of name (modifier.List None ∷ [])

abbrev pub field : Bytes → Option (List (Argument ℕ)) → Bytes → Field ℕ
field name arguments of_type =
    record {
      name = name;
      description = None;
      arguments = arguments;
      field_type = type_of of_type [];
      deprecation_status = status.Current;
    }

-- `name(form: String): String`
abbrev pub form : Argument ℕ
form = record { name = codes "form"; description = None; arg_type = type_of (codes "String") []; default_value = None }

abbrev pub name_field : Field ℕ
name_field = field (codes "name") (Some (form ∷ [])) (codes "String")

-- `friend: Being` of an interface, and of an object that narrows it
abbrev pub friend_of : Bytes → Field ℕ
friend_of = field (codes "friend") None

-- `interface Being implements Named`
abbrev pub being : MetaType ℕ ℕ
being = meta.Interface (record {
  name = codes "Being";
  description = None;
  fields = name_field ∷ friend_of (codes "Being") ∷ [];
  interface_names = codes "Named" ∷ [];
})

-- `type Dog implements Being & Named`, with a `nick` of its own
abbrev pub dog : MetaType ℕ ℕ
dog = meta.Object (record {
  name = codes "Dog";
  description = None;
  fields = name_field ∷ friend_of (codes "Being") ∷ field (codes "nick") None (codes "String") ∷ [];
  interface_names = codes "Being" ∷ codes "Named" ∷ [];
})

-- `union Either = Dog | Human`
abbrev pub either : MetaType ℕ ℕ
either = meta.Union (record {
  name = codes "Either";
  description = None;
  of_type_names = codes "Dog" ∷ codes "Human" ∷ [];
})

-- `type Human implements Being & Named`, whose friends are humans
abbrev pub human : MetaType ℕ ℕ
human = meta.Object (record {
  name = codes "Human";
  description = None;
  fields = name_field ∷ friend_of (codes "Human") ∷ [];
  interface_names = codes "Being" ∷ codes "Named" ∷ [];
})

-- `interface Named`
abbrev pub named_type : MetaType ℕ ℕ
named_type = meta.Interface (record {
  name = codes "Named";
  description = None;
  fields = name_field ∷ [];
  interface_names = [];
})

-- `type Query { being: Being, either: Either }`
abbrev pub query_type : MetaType ℕ ℕ
query_type = meta.Object (record {
  name = codes "Query";
  description = None;
  fields = field (codes "being") None (codes "Being") ∷ field (codes "either") None (codes "Either") ∷ [];
  interface_names = [];
})

abbrev pub string_scalar : ScalarMeta ℕ
string_scalar = record { name = codes "String"; description = None; specified_by_url = None; check = 0 }

abbrev pub string : MetaType ℕ ℕ
string = meta.Scalar string_scalar

abbrev pub beings : List (MetaType ℕ ℕ)
beings = being ∷ dog ∷ either ∷ human ∷ named_type ∷ query_type ∷ string ∷ []

abbrev pub roots : Roots
roots = record { query = codes "Query"; mutation = None; subscription = None }

abbrev pub beings_schema : Declarations ℕ ℕ
beings_schema = record { types = beings; roots = roots; directives = [] }

-- it can be executed: both objects keep what `Being` and `Named` promise, and the members of `Either` are objects
pub beings_are_executable : is_executable beings roots ≡ true
beings_are_executable = refl

-- ---- subtypes

-- `[Human!]`, `[Being]` and `[Named]`
abbrev pub humans : TypeOf
humans = type_of (codes "Human") (modifier.NonNull ∷ modifier.List None ∷ [])

abbrev pub some_beings : TypeOf
some_beings = list_of (codes "Being")

abbrev pub some_named : TypeOf
some_named = list_of (codes "Named")

-- each is below the next
pub humans_are_beings : IsSubtypeOf beings humans some_beings
humans_are_beings = (refl, both_lists (non_null names))

pub beings_are_named : IsSubtypeOf beings some_beings some_named
beings_are_named = (refl, both_lists names)

-- so `[Human!]` is below `[Named]`, by way of the interface between them
pub humans_are_named : IsSubtypeOf beings humans some_named
humans_are_named =
    subtype_transitive beings roots beings_are_executable humans some_beings some_named
    humans_are_beings beings_are_named

-- ---- possible types

pub beings_by_name : IsByName own_name beings
unfolding IsStrictlySortedBy
beings_by_name = search

-- a human is possible at the interface and at the union, so its name is below theirs
pub human_is_below_being : is_named_subtype beings (codes "Human") (codes "Being") ≡ true
human_is_below_being =
    sym (possible_from_below beings beings_by_name being human (0, lit< tt, refl) (3, lit< tt, refl) refl)

pub human_is_below_either : is_named_subtype beings (codes "Human") (codes "Either") ≡ true
human_is_below_either =
    sym (possible_from_below beings beings_by_name either human (2, lit< tt, refl) (3, lit< tt, refl) refl)

-- a dog is not possible at the other object, and so not below it
pub dog_is_no_human : is_named_subtype beings (codes "Dog") (codes "Human") ≡ false
dog_is_no_human =
    sym (possible_from_below beings beings_by_name human dog (3, lit< tt, refl) (1, lit< tt, refl) refl)

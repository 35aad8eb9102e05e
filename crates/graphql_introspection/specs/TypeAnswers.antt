-- What types answer (GraphQL October 2021, 4.2.2 The __Type Type).
use Rattle.std.specs.Prelude.{Bool, List, [], ◌∷◌, Option, Some, None, codes, if◌then◌else◌}
use Rattle.std.specs.Option.{option_map_or}
use Rattle.std.specs.Str.{bytes_eq}
use Rattle.graphql_names.specs.Names.{Bytes}
use Rattle.graphql_scalars.specs.ScalarAnswers.{ScalarAnswer}
use Rattle.graphql_names.specs.declared.type_modifier.TypeModifier.{TypeModifier}
use Rattle.graphql_names.specs.declared.type_modifier.TypeModifier.TheVariants as modifier
use Rattle.graphql_schema.specs.declared.meta.MetaType.{MetaType}
use Rattle.graphql_schema.specs.declared.meta.MetaType.TheVariants as meta
use Rattle.graphql_schema.specs.declared.meta.type_kind.TypeKind.{TypeKind}
use Rattle.graphql_schema.specs.declared.meta.type_kind.TypeKind.TheVariants as kind
use Rattle.graphql_schema.specs.Kinds.{kind_of}
use Rattle.graphql_schema.specs.Types.{description_of, name_of, url_of}
use Rattle.graphql_schema.specs.Possible.{possible_types}
use Rattle.graphql_arguments.specs.ArgumentValues.{Given}
use Rattle.graphql_field_results.specs.declared.resolved.Resolved.TheVariants as resolved
use Rattle.graphql_introspection.specs.Given.{includes_deprecated}
use Rattle.graphql_introspection.specs.Leaves.{kind_or_null, text_or_null, truth}
use Rattle.graphql_introspection.specs.Nodes.{PartAnswer, argument_nodes, bare_types}
use Rattle.graphql_introspection.specs.Nodes.{enum_values, field_nodes, named_types, wrapped}
use Rattle.graphql_introspection.specs.Told.{told_fields, told_values}

module _ {S C : Type 0} where
  -- of an object or an interface
  abbrev pub fields_answer : Bool → MetaType S C → PartAnswer S C
  fields_answer include (meta.Object m) = field_nodes (told_fields include m.fields)
  fields_answer include (meta.Interface m) = field_nodes (told_fields include m.fields)
  fields_answer include _ = resolved.Null

  -- of an input object
  abbrev pub input_fields_of : MetaType S C → PartAnswer S C
  input_fields_of (meta.InputObject m) = argument_nodes m.input_fields
  input_fields_of _ = resolved.Null

  -- of an input object: whether exactly one field is given
  abbrev pub is_one_of_or_null : (Bool → S) → MetaType S C → PartAnswer S C
  is_one_of_or_null of_bool (meta.InputObject m) = truth of_bool m.exactly_one
  is_one_of_or_null of_bool _ = resolved.Null

  -- of an enum
  abbrev pub values_answer : Bool → MetaType S C → PartAnswer S C
  values_answer include (meta.Enum m) = enum_values (told_values include m.values)
  values_answer include _ = resolved.Null

-- `types`: those of the schema
module _ {S C : Type 0} (types : List (MetaType S C)) where
  -- of an object or an interface: those that it lists
  abbrev pub interfaces_of : MetaType S C → PartAnswer S C
  interfaces_of (meta.Object m) = named_types types m.interface_names
  interfaces_of (meta.Interface m) = named_types types m.interface_names
  interfaces_of _ = resolved.Null

  -- of an interface the objects that list it, by name; of a union its members
  abbrev pub possible_types_of : MetaType S C → PartAnswer S C
  possible_types_of (meta.Interface m) = bare_types (possible_types types (meta.Interface m))
  possible_types_of (meta.Union m) = bare_types (possible_types types (meta.Union m))
  possible_types_of _ = resolved.Null

-- a named type
module _ {S C : Type 0} (of_text : Bytes → S) (of_bool : Bool → S) (answer : S → ScalarAnswer)
    (types : List (MetaType S C)) where
  abbrev pub of_named : MetaType S C → Bytes → Given S → PartAnswer S C
  of_named m field given =
      if bytes_eq field (codes "kind") then kind_or_null of_text (kind_of m) else
      if bytes_eq field (codes "name") then text_or_null of_text (name_of m) else
      if bytes_eq field (codes "description") then text_or_null of_text (description_of m) else
      if bytes_eq field (codes "specifiedByUrl") then text_or_null of_text (url_of m) else
      if bytes_eq field (codes "fields")
      then fields_answer (includes_deprecated answer given) m else
      if bytes_eq field (codes "interfaces") then interfaces_of types m else
      if bytes_eq field (codes "possibleTypes") then possible_types_of types m else
      if bytes_eq field (codes "enumValues")
      then values_answer (includes_deprecated answer given) m else
      if bytes_eq field (codes "inputFields") then input_fields_of m else
      if bytes_eq field (codes "isOneOf") then is_one_of_or_null of_bool m else resolved.Null

-- the outermost wrap, and those within it
abbrev pub Unwrapped : Type 0
Unwrapped = TypeModifier × List TypeModifier

-- of wraps, the innermost first
abbrev pub outermost_off : List TypeModifier → Option Unwrapped
outermost_off [] = None
outermost_off (w ∷ ws) = Some (option_map_or (λ p. (p.0, w ∷ p.1)) (outermost_off ws) (w, []))

-- the kind of a type that a wrap makes
abbrev pub kind_of_wrap : TypeModifier → TypeKind
kind_of_wrap modifier.NonNull = kind.NonNull
kind_of_wrap (modifier.List size) = kind.List

-- a type within wraps: its kind, and what is wrapped
abbrev pub of_wrapped : {S C : Type 0} → (Bytes → S) → MetaType S C → Unwrapped → Bytes
    → PartAnswer S C
of_wrapped of_text m wraps field =
    if bytes_eq field (codes "kind") then kind_or_null of_text (Some (kind_of_wrap wraps.0)) else
    if bytes_eq field (codes "ofType") then wrapped wraps.1 m else resolved.Null

module _ {S C : Type 0} (of_text : Bytes → S) (of_bool : Bool → S) (answer : S → ScalarAnswer)
    (types : List (MetaType S C)) where
  abbrev pub of_apart : MetaType S C → Option Unwrapped → Bytes → Given S → PartAnswer S C
  of_apart m None field given = of_named of_text of_bool answer types m field given
  of_apart m (Some wraps) field given = of_wrapped of_text m wraps field

  -- a type within its wraps, the innermost first
  abbrev pub of_type : MetaType S C → List TypeModifier → Bytes → Given S → PartAnswer S C
  of_type m wraps field given = of_apart m (outermost_off wraps) field given

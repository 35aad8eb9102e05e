-- Documents over a small schema, and what the rules tell of them.
use Rattle.std.proofs.Common.{◌≡◌, ℕ, ◌+◌, List, [], ◌∷◌, Some, None, refl}
use Rattle.std.specs.Prelude.{codes}
use Rattle.std.specs.List.{flat_map}
use Rattle.graphql_schema.specs.declared.meta.field.Field.{Field}
use Rattle.graphql_schema.specs.declared.meta.MetaType.{MetaType}
use Rattle.graphql_schema.specs.declared.meta.MetaType.TheVariants as meta
use Rattle.graphql_names.specs.Names.{Bytes}
use Rattle.graphql_rule_errors.specs.Places.{Places}
use Rattle.graphql_schema.specs.Declarations.{Declarations}
use Rattle.graphql_schema.specs.StandardDirectives.{condition, required_argument}
use Rattle.graphql_tree.specs.Arguments.{Argument}
use Rattle.graphql_tree.specs.declared.directive.Directive.{Directive}
use Rattle.graphql_tree.specs.declared.document.Definition.{Definition}
use Rattle.graphql_tree.specs.declared.document.Definition.TheVariants as definition
use Rattle.graphql_tree.specs.declared.document.OperationType.TheVariants as kind
use Rattle.graphql_tree.specs.declared.selection.Selection.{Selection}
use Rattle.graphql_tree.specs.declared.selection.Selection.TheVariants as selection
use Rattle.graphql_values.specs.declared.input_value.InputValue.{InputValue}
use Rattle.graphql_values.specs.declared.input_value.InputValue.TheVariants as value
use Rattle.graphql_values.specs.InputValues.{Placed}
use Rattle.graphql_occurrences.proofs.OccurrenceEquations.{parts_field, parts_list, parts_null, parts_object, parts_scalar}
use Rattle.graphql_occurrences.proofs.Rows.{at, by, by_type, field, hero, human, put, query, select, type_of}
use Rattle.graphql_occurrences.specs.Occurrences.{occurrences}
use Rattle.graphql_visitors.specs.Rules.{Rule}
use Rattle.graphql_rules.specs.KnownArgumentNames.{known_argument_names_faults}
use Rattle.graphql_rules.specs.KnownDirectives.{known_directives_faults}
use Rattle.graphql_rules.specs.ProvidedNonNullArguments.{provided_non_null_arguments_faults}
use Rattle.graphql_rules.specs.UniqueArgumentNames.{unique_argument_names_faults}
use Rattle.graphql_rules.specs.UniqueInputFieldNames.{unique_input_field_names_faults}

-- `find(id: String!, by: [By!]): Human`
abbrev pub find : Field ℕ
find = field (codes "find") (Some (required_argument (codes "id") (codes "String") ∷ by ∷ [])) (type_of (codes "Human") [])

abbrev pub query_type : MetaType ℕ ℕ
query_type = meta.Object (record { name = codes "Query"; description = None; fields = hero ∷ find ∷ []; interface_names = [] })

-- `Query` with `hero` and `find`, `Human` with `id`, the input object `By` with `name`, and the directive `skip`
abbrev pub heroes : Declarations ℕ ℕ
heroes =
    record {
      types = query_type ∷ human ∷ by_type ∷ [];
      roots = record { query = codes "Query"; mutation = None; subscription = None };
      directives = condition (codes "skip") ∷ [];
    }

abbrev pub told : Rule ℕ ℕ → List (Definition ℕ) → Places
told rule document = flat_map (rule (record { schema = heroes; document = document })) (occurrences heroes document)

-- `name: 1`
abbrev pub given : ℕ → Bytes → Argument ℕ
given n name = (put n name, put (n + 4) (value.Scalar 1))

abbrev pub field_with : ℕ → Bytes → List (Argument ℕ) → List (Placed (Directive ℕ)) → Selection ℕ
field_with n name arguments directives =
    selection.Field (put n (record { alias = None; name = put n name; arguments = Some (put n (record { items = arguments })); directives = Some directives; selection_set = None }))

abbrev pub directive : ℕ → Bytes → List (Argument ℕ) → Placed (Directive ℕ)
directive n name arguments = put n (record { name = put (n + 1) name; arguments = Some (put n (record { items = arguments })) })

-- `{ hero { __typename(a: 1) } }`: `__typename` has no arguments
abbrev pub argument_of_typename : List (Definition ℕ)
argument_of_typename = query (select 2 (codes "hero") (Some (field_with 9 (codes "__typename") (given 20 (codes "a") ∷ []) [] ∷ [])) ∷ [])

pub typename_has_no_argument : told known_argument_names_faults argument_of_typename ≡ (at 20 ∷ []) ∷ []
unfolding occurrences
typename_has_no_argument = simp (parts_field heroes, parts_scalar heroes) refl

-- `{ nobody(a: 1) }`: nothing is said of what an unknown field is given
pub nobody_has_any_argument : told known_argument_names_faults (query (field_with 2 (codes "nobody") (given 9 (codes "a") ∷ []) [] ∷ [])) ≡ []
unfolding occurrences
nobody_has_any_argument = simp (parts_field heroes, parts_scalar heroes) refl

-- `{ hero @skip(unless: 1) }`
pub skip_has_no_unless : told known_argument_names_faults (query (field_with 2 (codes "hero") [] (directive 7 (codes "skip") (given 13 (codes "unless") ∷ []) ∷ []) ∷ [])) ≡ (at 13 ∷ []) ∷ []
unfolding occurrences
skip_has_no_unless = simp (parts_field heroes, parts_scalar heroes) refl

-- `{ find(id: 1, by: 1, id: 1, id: 1) }`: the second and the third `id`, each with the first
abbrev pub three_ids : List (Definition ℕ)
three_ids = query (field_with 2 (codes "find") (given 7 (codes "id") ∷ given 14 (codes "by") ∷ given 21 (codes "id") ∷ given 28 (codes "id") ∷ []) [] ∷ [])

pub ids_repeat : told unique_argument_names_faults three_ids ≡ (at 7 ∷ at 21 ∷ []) ∷ (at 7 ∷ at 28 ∷ []) ∷ []
unfolding occurrences
ids_repeat = simp (parts_field heroes, parts_scalar heroes) refl

pub ids_are_known : told known_argument_names_faults three_ids ≡ []
unfolding occurrences
ids_are_known = simp (parts_field heroes, parts_scalar heroes) refl

-- `{ find(by: 1) }`: `id` has to be given, and `by` need not be
pub id_is_missing : told provided_non_null_arguments_faults (query (field_with 2 (codes "find") (given 7 (codes "by") ∷ []) [] ∷ [])) ≡ (at 2 ∷ []) ∷ []
unfolding occurrences
id_is_missing = simp (parts_field heroes, parts_scalar heroes) refl

-- `{ find(id: null) }`: a `null` is given
pub null_is_given : told provided_non_null_arguments_faults (query (field_with 2 (codes "find") ((put 7 (codes "id"), put 11 value.Null) ∷ []) [] ∷ [])) ≡ []
unfolding occurrences
null_is_given = simp (parts_field heroes, parts_null heroes) refl

-- `{ hero @skip }`: `if` has to be given
pub if_is_missing : told provided_non_null_arguments_faults (query (field_with 2 (codes "hero") [] (directive 7 (codes "skip") [] ∷ []) ∷ [])) ≡ (at 7 ∷ []) ∷ []
unfolding occurrences
if_is_missing = simp (parts_field heroes) refl

-- `{ hero @skip @nope }`: there is no `nope`
pub nope_is_unknown : told known_directives_faults (query (field_with 2 (codes "hero") [] (directive 7 (codes "skip") [] ∷ directive 13 (codes "nope") [] ∷ []) ∷ [])) ≡ (at 13 ∷ []) ∷ []
unfolding occurrences
nope_is_unknown = simp (parts_field heroes) refl

-- `query @skip { hero }`: no place for `skip`
abbrev pub skipped_query : List (Definition ℕ)
skipped_query = definition.Operation (put 0 (record { operation_type = kind.Query; name = None; variable_definitions = None; directives = Some (directive 6 (codes "skip") [] ∷ []); selection_set = select 14 (codes "hero") None ∷ [] })) ∷ []

pub query_has_no_skip : told known_directives_faults skipped_query ≡ (at 6 ∷ []) ∷ []
unfolding occurrences
query_has_no_skip = simp (parts_field heroes) refl

-- `{name: 1, name: 1}`
abbrev pub two_names : InputValue ℕ
two_names = value.Object (given 13 (codes "name") ∷ given 22 (codes "name") ∷ [])

-- `{ find(by: [{name: 1, name: 1}]) }`
pub names_repeat : told unique_input_field_names_faults (query (field_with 2 (codes "find") ((put 7 (codes "by"), put 11 (value.List (put 12 two_names ∷ []))) ∷ []) [] ∷ [])) ≡ (at 13 ∷ at 22 ∷ []) ∷ []
unfolding occurrences
names_repeat = simp (parts_field heroes, parts_list heroes, parts_object heroes, parts_scalar heroes) refl

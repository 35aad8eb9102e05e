-- Documents over a small schema, and what the rules say of them.
use Rattle.std.proofs.Common.{◌≡◌, ℕ, ◌+◌, List, [], ◌∷◌, Option, Some, None, refl}
use Rattle.std.specs.Prelude.{codes}
use Rattle.std.specs.List.{flat_map}
use Rattle.graphql_schema.specs.declared.meta.MetaType.{MetaType}
use Rattle.graphql_schema.specs.declared.meta.MetaType.TheVariants as meta
use Rattle.graphql_schema.specs.Types.{TypeOf}
use Rattle.graphql_names.specs.Names.{Bytes}
use Rattle.graphql_occurrences.proofs.OccurrenceEquations.{parts_field, parts_inline, parts_spread}
use Rattle.graphql_occurrences.proofs.Rows.{at, put, type_of, humans, query, select}
use Rattle.graphql_occurrences.specs.Occurrences.{occurrences}
use Rattle.graphql_rule_errors.specs.Places.{Places}
use Rattle.graphql_tree.specs.declared.document.Definition.{Definition}
use Rattle.graphql_tree.specs.declared.document.Definition.TheVariants as definition
use Rattle.graphql_tree.specs.declared.document.OperationType.TheVariants as kind
use Rattle.graphql_tree.specs.declared.selection.Selection.{Selection}
use Rattle.graphql_tree.specs.declared.selection.Selection.TheVariants as selection
use Rattle.graphql_names.specs.declared.type_modifier.TypeModifier.TheVariants as modifier
use Rattle.graphql_values.specs.declared.input_value.InputValue.{InputValue}
use Rattle.graphql_values.specs.InputValues.{Placed}
use Rattle.graphql_visitors.specs.Rules.{Rule}
use Rattle.graphql_visitors.specs.Subjects.{Subject}
use Rattle.graphql_rules.specs.DisableIntrospection.{disable_introspection_faults}
use Rattle.graphql_rules.specs.FieldsOnCorrectType.{fields_on_correct_type_faults}
use Rattle.graphql_rules.specs.FragmentsOnCompositeTypes.{fragments_on_composite_types_faults}
use Rattle.graphql_rules.specs.KnownFragmentNames.{known_fragment_names_faults}
use Rattle.graphql_rules.specs.KnownTypeNames.{known_type_names_faults}
use Rattle.graphql_rules.specs.PossibleFragmentSpreads.{possible_fragment_spreads_faults}
use Rattle.graphql_rules.specs.ScalarLeafs.{scalar_leafs_faults}
use Rattle.graphql_rules.specs.VariablesAreInputTypes.{variables_are_input_types_faults}

abbrev string : MetaType ℕ ℕ
string = meta.Scalar (record { name = codes "String"; description = None; specified_by_url = None; check = 0 })

-- a document over `Query { hero: Human, find(by: [By!]): Human }`, `Human { id: String }`, `By { name: String }` and `String`
abbrev over : List (Definition ℕ) → Subject ℕ ℕ
over document = record { schema = record humans { types = string ∷ humans.types }; document = document }

-- what a rule says of it
abbrev told : Rule ℕ ℕ → List (Definition ℕ) → Places
told rule document = flat_map (rule (over document)) (occurrences (over document).schema document)

abbrev inline : ℕ → Bytes → List (Selection ℕ) → Selection ℕ
inline n condition set = selection.InlineFragment (put n (record { type_condition = Some (put (n + 7) condition); directives = None; selection_set = set }))

abbrev spread : ℕ → Bytes → Selection ℕ
spread n name = selection.FragmentSpread (put n (record { name = put (n + 3) name; directives = None }))

abbrev fragment : ℕ → Bytes → Bytes → List (Selection ℕ) → Definition ℕ
fragment n name condition set = definition.Fragment (put n (record { name = put (n + 9) name; type_condition = put (n + 14) condition; directives = None; selection_set = set }))

abbrev hero : List (Selection ℕ) → Selection ℕ
hero set = select 2 (codes "hero") (Some set)

abbrev id : ℕ → Selection ℕ
id n = select n (codes "id") None

abbrev variable : ℕ → TypeOf → Option (Placed (InputValue ℕ)) → List (Definition ℕ)
variable n t default =
    definition.Operation (put 0 (record { operation_type = kind.Query; name = None; variable_definitions = Some (put 6 (record { items = (put 7 (codes "x"), record { var_type = put n t; default_value = default; directives = None }) ∷ [] })); directives = None; selection_set = [] })) ∷ []

-- `{ hero { age } }`
pub age_is_unknown : told fields_on_correct_type_faults (query (hero (select 9 (codes "age") None ∷ []) ∷ [])) ≡ (at 9 ∷ []) ∷ []
unfolding occurrences
age_is_unknown = simp (parts_field (over []).schema) refl

-- `{ hero }`, and `{ hero { id { x } } }`
pub hero_needs_a_set : told scalar_leafs_faults (query (select 2 (codes "hero") None ∷ [])) ≡ (at 2 ∷ []) ∷ []
unfolding occurrences
hero_needs_a_set = simp (parts_field (over []).schema) refl

pub id_has_a_set : told scalar_leafs_faults (query (hero (select 9 (codes "id") (Some (select 14 (codes "x") None ∷ [])) ∷ []) ∷ [])) ≡ (at 9 ∷ []) ∷ []
unfolding occurrences
id_has_a_set = simp (parts_field (over []).schema) refl

-- `{ hero { __schema } __typename }`
pub schema_is_asked : told disable_introspection_faults (query (hero (select 9 (codes "__schema") None ∷ []) ∷ select 20 (codes "__typename") None ∷ [])) ≡ (at 9 ∷ []) ∷ []
unfolding occurrences
schema_is_asked = simp (parts_field (over []).schema) refl

-- `{ ... on String { id } ... on Nope { id } }`
abbrev two_conditions : List (Definition ℕ)
two_conditions = query (inline 2 (codes "String") (id 19 ∷ []) ∷ inline 24 (codes "Nope") (id 39 ∷ []) ∷ [])

pub string_is_no_composite : told fragments_on_composite_types_faults two_conditions ≡ (at 9 ∷ []) ∷ []
unfolding occurrences
string_is_no_composite = simp (parts_inline (over []).schema, parts_field (over []).schema) refl

pub nope_is_unknown : told known_type_names_faults two_conditions ≡ (at 31 ∷ []) ∷ []
unfolding occurrences
nope_is_unknown = simp (parts_inline (over []).schema, parts_field (over []).schema) refl

-- `query ($x: [Nope!]) ..`, and `query ($x: [Human!]) ..`
abbrev in_list : Bytes → TypeOf
in_list name = type_of name (modifier.NonNull ∷ modifier.List None ∷ [])

pub nope_is_unknown_in_a_list : told known_type_names_faults (variable 11 (in_list (codes "Nope")) None) ≡ (at 11 ∷ []) ∷ []
unfolding occurrences
nope_is_unknown_in_a_list = refl

pub human_is_no_input : told variables_are_input_types_faults (variable 11 (in_list (codes "Human")) None) ≡ (at 11 ∷ []) ∷ []
unfolding occurrences
human_is_no_input = refl

-- `fragment A on Query { .. } { hero { ...A ...B } }`
abbrev two_spreads : List (Definition ℕ)
two_spreads = fragment 0 (codes "A") (codes "Query") [] ∷ query (hero (spread 40 (codes "A") ∷ spread 50 (codes "B") ∷ []) ∷ [])

pub b_is_no_fragment : told known_fragment_names_faults two_spreads ≡ (at 53 ∷ []) ∷ []
unfolding occurrences
b_is_no_fragment = simp (parts_spread (over []).schema, parts_field (over []).schema) refl

pub no_human_is_a_query : told possible_fragment_spreads_faults two_spreads ≡ (at 40 ∷ []) ∷ []
unfolding occurrences
no_human_is_a_query = simp (parts_spread (over []).schema, parts_field (over []).schema) refl

-- `{ hero { ... on Human { id } ... on Query { .. } } }`
pub no_human_is_a_query_inline : told possible_fragment_spreads_faults (query (hero (inline 9 (codes "Human") (id 25 ∷ []) ∷ inline 30 (codes "Query") [] ∷ []) ∷ [])) ≡ (at 30 ∷ []) ∷ []
unfolding occurrences
no_human_is_a_query_inline = simp (parts_inline (over []).schema, parts_field (over []).schema) refl

-- Documents over a small schema: their occurrences, and the types around what a walk enters and leaves.
use Rattle.std.proofs.Common.{◌≡◌, ℕ, List, [], ◌∷◌, Option, Some, None, map, refl, true, false}
use Rattle.std.specs.Prelude.{codes}
use Rattle.graphql_schema.specs.declared.meta.argument.Argument as declared
use Rattle.graphql_schema.specs.declared.meta.deprecation.DeprecationStatus.TheVariants as status
use Rattle.graphql_schema.specs.declared.meta.field.Field.{Field}
use Rattle.graphql_schema.specs.declared.meta.MetaType.{MetaType}
use Rattle.graphql_schema.specs.declared.meta.MetaType.TheVariants as meta
use Rattle.graphql_schema.specs.Types.{TypeOf}
use Rattle.graphql_names.specs.Names.{Bytes}
use Rattle.graphql_occurrences.specs.DeclaredLookups.{Declarations}
use Rattle.graphql_text.specs.declared.position.SourcePosition.{SourcePosition}
use Rattle.graphql_tree.specs.Arguments.{Argument}
use Rattle.graphql_tree.specs.declared.document.Definition.{Definition}
use Rattle.graphql_tree.specs.declared.document.Definition.TheVariants as definition
use Rattle.graphql_tree.specs.declared.document.OperationType.{OperationType}
use Rattle.graphql_tree.specs.declared.document.OperationType.TheVariants as kind
use Rattle.graphql_tree.specs.declared.selection.Selection.{Selection}
use Rattle.graphql_tree.specs.declared.selection.Selection.TheVariants as selection
use Rattle.graphql_names.specs.declared.type_modifier.TypeModifier.{TypeModifier}
use Rattle.graphql_names.specs.declared.type_modifier.TypeModifier.TheVariants as modifier
use Rattle.graphql_values.specs.declared.input_value.InputValue.{InputValue}
use Rattle.graphql_values.specs.declared.input_value.InputValue.TheVariants as value
use Rattle.graphql_values.specs.InputValues.{Placed}
use Rattle.graphql_occurrences.proofs.SelectionEvents.{selection_field}
use Rattle.graphql_occurrences.specs.Events.{events}
use Rattle.graphql_occurrences.specs.Nodes.{Around}
use Rattle.graphql_occurrences.proofs.OccurrenceEquations.{parts_field, parts_inline, parts_list, parts_object, parts_variable}
use Rattle.graphql_occurrences.specs.Lookups.{typename_field}
use Rattle.graphql_occurrences.specs.Occurrences.{occurrences}
use Rattle.graphql_occurrences.specs.Parts.{Part, AField, AnInline, Given, ObjectOf, VariableUsed}

abbrev pub at : ℕ → SourcePosition
at n = record { index = n; line = 0; column = n }

abbrev pub put : {A : Type 0} → ℕ → A → Placed A
put n x = record { item = x; span = record { start = at n; end = at n } }

abbrev pub type_of : Bytes → List TypeModifier → TypeOf
type_of name wraps = record { name = name; modifiers = wraps }

abbrev pub field : Bytes → Option (List (declared.Argument ℕ)) → TypeOf → Field ℕ
field name arguments t = record { name = name; description = None; arguments = arguments; field_type = t; deprecation_status = status.Current }

abbrev pub argument : Bytes → TypeOf → Option (InputValue ℕ) → declared.Argument ℕ
argument name t default = record { name = name; description = None; arg_type = t; default_value = default }

-- `by: [By!]`
abbrev pub by : declared.Argument ℕ
by = argument (codes "by") (type_of (codes "By") (modifier.NonNull ∷ modifier.List None ∷ [])) None

-- `name: String = 0`
abbrev pub by_name : declared.Argument ℕ
by_name = argument (codes "name") (type_of (codes "String") []) (Some (value.Scalar 0))

-- `hero: Human`, `find(by: [By!]): Human`
abbrev pub hero : Field ℕ
hero = field (codes "hero") None (type_of (codes "Human") [])

abbrev pub find : Field ℕ
find = field (codes "find") (Some (by ∷ [])) (type_of (codes "Human") [])

abbrev pub query_type : MetaType ℕ ℕ
query_type = meta.Object (record { name = codes "Query"; description = None; fields = hero ∷ find ∷ []; interface_names = [] })

abbrev pub human : MetaType ℕ ℕ
human = meta.Object (record { name = codes "Human"; description = None; fields = field (codes "id") None (type_of (codes "String") []) ∷ []; interface_names = [] })

abbrev pub by_type : MetaType ℕ ℕ
by_type = meta.InputObject (record { name = codes "By"; description = None; input_fields = by_name ∷ []; check = 0; exactly_one = false })

-- two objects, `Query` with `hero` and `find` and `Human` with `id`, and the input object `By` with `name`
abbrev pub humans : Declarations ℕ ℕ
humans = record { types = query_type ∷ human ∷ by_type ∷ []; roots = record { query = codes "Query"; mutation = None; subscription = None }; directives = [] }

abbrev pub select : ℕ → Bytes → Option (List (Selection ℕ)) → Selection ℕ
select n name set = selection.Field (put n (record { alias = None; name = put n name; arguments = None; directives = None; selection_set = set }))

abbrev pub document : OperationType → List (Selection ℕ) → List (Definition ℕ)
document type_of_operation set = definition.Operation (put 0 (record { operation_type = type_of_operation; name = None; variable_definitions = None; directives = None; selection_set = set })) ∷ []

abbrev pub query : List (Selection ℕ) → List (Definition ℕ)
query = document kind.Query

-- what a field without arguments tells
abbrev pub at_field : ℕ → Bytes → MetaType ℕ ℕ → Option (Field ℕ) → Option (List (declared.Argument ℕ)) → List (Part ℕ ℕ) → List (Part ℕ ℕ)
at_field n name parent known arguments rest =
    AField (record { name = name; place = at n; parent = parent; declared = known; has_set = false }) ∷ Given (record { place = at n; given = []; declared = arguments }) ∷ rest

abbrev pub at_set_field : ℕ → Bytes → MetaType ℕ ℕ → Option (Field ℕ) → Option (List (declared.Argument ℕ)) → List (Part ℕ ℕ) → List (Part ℕ ℕ)
at_set_field n name parent known arguments rest =
    AField (record { name = name; place = at n; parent = parent; declared = known; has_set = true }) ∷ Given (record { place = at n; given = []; declared = arguments }) ∷ rest

-- `{ hero { age } }`: `age` is no field of `Human`
pub age_is_unknown :
    occurrences humans (query (select 2 (codes "hero") (Some (select 9 (codes "age") None ∷ [])) ∷ []))
    ≡ at_set_field 2 (codes "hero") query_type (Some hero) (Some []) (at_field 9 (codes "age") human None None [])
unfolding occurrences
age_is_unknown = simp (parts_field humans) refl

-- `{ nobody { id } }`: `id` stands below an unknown type
pub below_nobody :
    occurrences humans (query (select 2 (codes "nobody") (Some (select 11 (codes "id") None ∷ [])) ∷ []))
    ≡ at_set_field 2 (codes "nobody") query_type None None []
unfolding occurrences
below_nobody = simp (parts_field humans) refl

-- `{ __typename }`: a field of each object, `String!`
pub typename_is_known :
    occurrences humans (query (select 2 (codes "__typename") None ∷ [])) ≡ at_field 2 (codes "__typename") query_type (Some typename_field) (Some []) []
unfolding occurrences
typename_is_known = simp (parts_field humans) refl

-- `{ ... { hero } }`: without a condition the type stays
pub without_condition :
    occurrences humans (query (selection.InlineFragment (put 2 (record { type_condition = None; directives = None; selection_set = select 8 (codes "hero") None ∷ [] })) ∷ []))
    ≡ AnInline (record { condition = None; place = at 2; parent = query_type }) ∷ at_field 8 (codes "hero") query_type (Some hero) (Some []) []
unfolding occurrences
without_condition = simp (parts_field humans, parts_inline humans) refl

-- `mutation { hero }`: there is no root
pub no_mutation : occurrences humans (document kind.Mutation (select 11 (codes "hero") None ∷ [])) ≡ []
unfolding occurrences
no_mutation = refl

-- `[{name: $x}]`
abbrev pub names : List (Placed (InputValue ℕ))
names = put 12 (value.Object ((put 13 (codes "name"), put 19 (value.Variable (codes "x"))) ∷ [])) ∷ []

abbrev pub given_by : List (Argument ℕ)
given_by = (put 7 (codes "by"), put 11 (value.List names)) ∷ []

-- `{ find(by: [{name: $x}]) }`: the item is a `By!`, and its field a `String` with a default
pub place_of_x :
    occurrences humans (query (selection.Field (put 2 (record { alias = None; name = put 2 (codes "find"); arguments = Some (put 6 (record { items = given_by })); directives = None; selection_set = None })) ∷ []))
    ≡ AField (record { name = codes "find"; place = at 2; parent = query_type; declared = Some find; has_set = false })
    ∷ Given (record { place = at 2; given = given_by; declared = Some (by ∷ []) })
    ∷ ObjectOf (put 13 (codes "name") ∷ [])
    ∷ VariableUsed (record { name = codes "x"; place = at 19; at = Some (record { asked = type_of (codes "String") []; has_default = true; is_only_field = false }) }) ∷ []
unfolding occurrences
place_of_x = simp (parts_field humans, parts_list humans, parts_object humans, parts_variable humans) refl

abbrev pub around : Option TypeOf → Option (MetaType ℕ ℕ) → Around ℕ ℕ
around current parent = record { current = current; parent = parent; input = None }

-- the type of what an operation selects
abbrev pub root : Option TypeOf
root = Some (type_of (codes "Query") (modifier.NonNull ∷ []))

-- `{ hero }`: around the document, the operation, the set and the field, and back
pub around_hero :
    map (λ s. s.around) (events humans (query (select 2 (codes "hero") None ∷ [])))
    ≡ around None None ∷ around root None ∷ around root (Some query_type) ∷ around (Some (type_of (codes "Human") [])) (Some query_type)
    ∷ around (Some (type_of (codes "Human") [])) (Some query_type) ∷ around root (Some query_type) ∷ around root None ∷ around None None ∷ []
unfolding events
around_hero = simp (selection_field humans) refl

-- `{ nobody { id } }`: nothing is entered below the field
pub around_nobody :
    map (λ s. s.around) (events humans (query (select 2 (codes "nobody") (Some (select 11 (codes "id") None ∷ [])) ∷ [])))
    ≡ around None None ∷ around root None ∷ around root (Some query_type) ∷ around None (Some query_type)
    ∷ around None (Some query_type) ∷ around root (Some query_type) ∷ around root None ∷ around None None ∷ []
unfolding events
around_nobody = simp (selection_field humans) refl

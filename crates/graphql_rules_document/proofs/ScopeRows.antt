-- Documents over a small schema: what their operations and fragments hold, and which fragments they reach.
use Rattle.std.proofs.Common.{◌≡◌, ℕ, List, [], ◌∷◌, Option, Some, None, refl, true, false}
use Rattle.std.specs.Prelude.{codes}
use Rattle.graphql_names.specs.Names.{Bytes}
use Rattle.graphql_text.specs.declared.position.SourcePosition.{SourcePosition}
use Rattle.graphql_values.specs.InputValues.{Placed}
use Rattle.graphql_values.specs.declared.input_value.InputValue.TheVariants as value
use Rattle.graphql_schema.specs.declared.meta.deprecation.DeprecationStatus.TheVariants as status
use Rattle.graphql_schema.specs.declared.meta.field.Field.{Field}
use Rattle.graphql_schema.specs.declared.meta.MetaType.{MetaType}
use Rattle.graphql_schema.specs.declared.meta.MetaType.TheVariants as meta
use Rattle.graphql_tree.specs.declared.document.Definition.{Definition}
use Rattle.graphql_tree.specs.declared.document.Definition.TheVariants as definition
use Rattle.graphql_tree.specs.declared.document.OperationType.TheVariants as kind
use Rattle.graphql_tree.specs.declared.selection.Selection.{Selection}
use Rattle.graphql_tree.specs.declared.selection.Selection.TheVariants as selection
use Rattle.graphql_schema.specs.Declarations.{Declarations}
use Rattle.graphql_occurrences.proofs.OccurrenceEquations.{parts_field, parts_spread, parts_variable}
use Rattle.graphql_rules_document.specs.Reached.{reached, reached_marks}
use Rattle.graphql_rules_document.specs.Scopes.{FragmentScope, Spread, fragment_scopes, operation_scopes}

abbrev pub at : ℕ → SourcePosition
at n = record { index = n; line = 0; column = n }

abbrev pub put : {A : Type 0} → ℕ → A → Placed A
put n x = record { item = x; span = record { start = at n; end = at n } }

abbrev pub field : Bytes → Bytes → Field ℕ
field name of_type = record { name = name; description = None; arguments = None; field_type = record { name = of_type; modifiers = [] }; deprecation_status = status.Current }

abbrev pub object : Bytes → List (Field ℕ) → MetaType ℕ ℕ
object name fields = meta.Object (record { name = name; description = None; fields = fields; interface_names = [] })

-- `Query { hero: Human }`, `Human { id: String }`
abbrev pub humans : Declarations ℕ ℕ
humans = record {
  types = object (codes "Query") (field (codes "hero") (codes "Human") ∷ []) ∷ object (codes "Human") (field (codes "id") (codes "String") ∷ []) ∷ [];
  roots = record { query = codes "Query"; mutation = None; subscription = None };
  directives = [];
}

abbrev pub select : ℕ → Bytes → Option (List (Selection ℕ)) → Selection ℕ
select n name set = selection.Field (put n (record { alias = None; name = put n name; arguments = None; directives = None; selection_set = set }))

-- `name(a: $x)`, the variable at `m`
abbrev pub select_by : ℕ → Bytes → ℕ → Selection ℕ
select_by n name m =
    selection.Field (put n (record { alias = None; name = put n name; arguments = Some (put n (record { items = (put n (codes "a"), put m (value.Variable (codes "x"))) ∷ [] })); directives = None; selection_set = None }))

abbrev pub spread : ℕ → Bytes → Selection ℕ
spread n name = selection.FragmentSpread (put n (record { name = put n name; directives = None }))

abbrev pub query : List (Selection ℕ) → Definition ℕ
query set = definition.Operation (put 0 (record { operation_type = kind.Query; name = None; variable_definitions = None; directives = None; selection_set = set }))

abbrev pub fragment : ℕ → Bytes → List (Selection ℕ) → Definition ℕ
fragment n name set = definition.Fragment (put n (record { name = put n name; type_condition = put n (codes "Human"); directives = None; selection_set = set }))

-- `{ hero { id(a: $x) ...A } }`: an argument that is unknown has no place
pub hero_holds :
    operation_scopes humans (query (select 2 (codes "hero") (Some (select_by 9 (codes "id") 15 ∷ spread 19 (codes "A") ∷ [])) ∷ []) ∷ [])
    ≡ record {
      name = None;
      place = at 0;
      defined = [];
      uses = record { name = codes "x"; place = at 15; at = None } ∷ [];
      spreads = record { name = codes "A"; place = at 19 } ∷ [];
    } ∷ []
hero_holds = simp (parts_field humans, parts_spread humans, parts_variable humans) refl

-- `{ nobody { ...A } }`: below an unknown type there is no spread
pub nobody_holds : operation_scopes humans (query (select 2 (codes "nobody") (Some (spread 11 (codes "A") ∷ [])) ∷ []) ∷ []) ≡ record { name = None; place = at 0; defined = []; uses = []; spreads = [] } ∷ []
nobody_holds = simp (parts_field humans) refl

-- `fragment A on Human { ...B }`
pub fragment_holds :
    fragment_scopes humans (fragment 30 (codes "A") (spread 50 (codes "B") ∷ []) ∷ [])
    ≡ record { name = codes "A"; place = at 30; uses = []; spreads = record { name = codes "B"; place = at 50 } ∷ [] } ∷ []
fragment_holds = simp (parts_spread humans) refl

abbrev pub x_at : Bytes → ℕ → Spread
x_at name n = record { name = name; place = at n }

abbrev pub scope : Bytes → List Spread → FragmentScope
scope name spreads = record { name = name; place = at 0; uses = []; spreads = spreads }

-- A spreads B, B spreads C and A, one C spreads nothing, the other D, and E spreads A
abbrev pub some_fragments : List FragmentScope
some_fragments =
    scope (codes "A") (x_at (codes "B") 10 ∷ []) ∷ scope (codes "B") (x_at (codes "C") 20 ∷ x_at (codes "A") 30 ∷ []) ∷ scope (codes "C") []
    ∷ scope (codes "C") (x_at (codes "D") 40 ∷ []) ∷ scope (codes "E") (x_at (codes "A") 50 ∷ []) ∷ []

pub reached_from_b : reached some_fragments (x_at (codes "B") 0 ∷ []) ≡ codes "B" ∷ codes "C" ∷ codes "A" ∷ codes "D" ∷ []
unfolding reached
reached_from_b = refl

-- both fragments of one name are reached
pub marks_from_b : reached_marks some_fragments (x_at (codes "B") 0 ∷ []) ≡ true ∷ true ∷ true ∷ true ∷ false ∷ []
unfolding reached
marks_from_b = refl

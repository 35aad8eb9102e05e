-- A selection set of a small document, in two parts, over a schema with interfaces, objects and a
-- union; and scalars for which its parts do not give its join.
use Rattle.std.proofs.Common.{◌≡◌, refl, sym, ◌∙◌, ap, lit<, ℕ, Bool, true, false, true≢false, cond, List, [], ◌∷◌}
use Rattle.std.proofs.Common.{◌++◌, Option, Some, None}
use Rattle.std.specs.Option.{option_map, option_map_or}
use Rattle.std.specs.Prelude.{codes, nat_eq}
use Rattle.std.specs.Str.{bytes_eq}
use Rattle.graphql_names.specs.Names.{Bytes}
use Rattle.graphql_scalars.specs.ScalarAnswers.{ScalarAnswer, as_text, text}
use Rattle.graphql_values.specs.InputValues.{Placed, unplaced}
use Rattle.graphql_values.specs.SameValue.{same_scalar}
use Rattle.graphql_values.specs.declared.input_value.InputValue.TheVariants as value
use Rattle.graphql_arguments.specs.ArgumentValues.{Given, NamedValue}
use Rattle.graphql_arguments.specs.SameArguments.{SameArguments, SameGiven}
use Rattle.graphql_introspection.specs.Given.{name_asked, text_layer}
use Rattle.graphql_tree.specs.declared.document.Definition.{Definition}
use Rattle.graphql_tree.specs.declared.document.Definition.TheVariants as definition
use Rattle.graphql_tree.specs.declared.document.Operation.{Operation}
use Rattle.graphql_tree.specs.declared.document.OperationType.TheVariants as operation
use Rattle.graphql_tree.specs.declared.selection.Field.{Field}
use Rattle.graphql_tree.specs.declared.selection.Selection.{Selection}
use Rattle.graphql_tree.specs.declared.selection.Selection.TheVariants as selection
use Rattle.graphql_schema.proofs.Rows.{being, beings, beings_schema, query_type}
use Rattle.graphql_rules_document.proofs.ScopeRows.{put, select}
use Rattle.graphql_execution_walk.specs.FieldDeclarations.{is_possible_named}
use Rattle.graphql_joins.specs.RequestLaws.{IsSetOf, of_operation, of_field}

-- `name` and `friend { name }`
abbrev first : List (Selection ℕ)
first = select 8 (codes "name") None ∷ []

abbrev second : List (Selection ℕ)
second = select 13 (codes "friend") (Some (select 22 (codes "name") None ∷ [])) ∷ []

-- `{ being { name friend { name } } }`
abbrev asked : Placed (Field ℕ)
asked = put 2 (record {
  alias = None;
  name = put 2 (codes "being");
  arguments = None;
  directives = None;
  selection_set = Some (first ++ second);
})

abbrev query : Placed (Operation ℕ)
query = put 0 (record {
  operation_type = operation.Query;
  name = None;
  variable_definitions = None;
  directives = None;
  selection_set = selection.Field asked ∷ [];
})

abbrev document : List (Definition ℕ)
document = definition.Operation query ∷ []

-- both stand in one set of the document, which selects from the interface
pub they_stand : IsSetOf beings_schema document (Some being) (first ++ second)
they_stand =
    of_field query_type (selection.Field asked ∷ []) (first ++ second) asked (of_operation query (0, lit< tt, refl))
    (0, lit< tt, refl) refl

-- at which a dog can stand
pub dogs_can_stand_there : is_possible_named beings (codes "Being") (codes "Dog") ≡ true
dogs_can_stand_there = refl

-- ---- scalars that are all the same, though they answer `Query` and `Nope`

abbrev all_same : ℕ → ℕ → Bool
all_same a b = true

abbrev told : ℕ → ScalarAnswer
told n = text (cond (nat_eq n 0) (codes "Query") (codes "Nope"))

-- `(name: ..)`
abbrev name_value : ℕ → NamedValue ℕ
name_value n = (codes "name", unplaced (value.Scalar n))

abbrev by_name : ℕ → Given ℕ
by_name n = name_value n ∷ []

-- so `a: __type(name: ..) { name }` and `a: __type(name: ..) { kind }` merge with the one and the other
pub names_are_the_same : SameArguments all_same (by_name 0) (by_name 1)
names_are_the_same name = cases (bytes_eq (codes "name") name)
  where
    cases : (q : Bool)
        → SameGiven all_same (option_map (λ v. v.1.item) (cond q (Some (name_value 0)) None))
        (option_map (λ v. v.1.item) (cond q (Some (name_value 1)) None))
    cases true = same_scalar 0 1 refl
    cases false = tt

-- and yet they ask for two types, of which the schema has one: together they give an object, the
-- second alone gives null
asks-for : (n : ℕ) → name_asked told (by_name n) ≡ as_text (told n)
asks-for n = ap (text_layer told) (value.outs-Scalar n)

pub two_types_are_asked_for : name_asked told (by_name 0) ≡ name_asked told (by_name 1) → ⊥
two_types_are_asked_for same =
    true≢false (ap (λ (o : Option Bytes). option_map_or (bytes_eq (codes "Query")) o false)
    (sym (asks-for 0) ∙ same ∙ asks-for 1))

-- A document with fragments over a schema with interfaces, objects and a union: its set is full once they are written out.
use Rattle.std.proofs.Common.{◌≡◌, refl, sym, subst, lit<, ℕ, Bool, true, List, [], ◌∷◌, length, Some, None}
use Rattle.std.specs.Prelude.{codes}
use Rattle.std.specs.List.{list_all}
use Rattle.std.specs.Option.{IsSome, is_some}
use Rattle.std.proofs.lemmas.List.Elements.{All-contains, All-from_recursion}
use Rattle.std.proofs.lemmas.List.Sums.{AllPass-from_list_all}
use Rattle.graphql_names.specs.Names.{Bytes}
use Rattle.graphql_values.specs.InputValues.{Placed}
use Rattle.graphql_schema.proofs.Rows.{beings_schema}
use Rattle.graphql_tree.specs.declared.document.Definition.{Definition}
use Rattle.graphql_tree.specs.declared.document.Definition.TheVariants as definition
use Rattle.graphql_tree.specs.declared.document.Fragment.{Fragment}
use Rattle.graphql_tree.specs.declared.document.Operation.{Operation}
use Rattle.graphql_tree.specs.declared.document.OperationType.TheVariants as operation
use Rattle.graphql_occurrences.specs.Occurrences.{occurrences}
use Rattle.graphql_occurrences.specs.Parts.{Part, ASpread}
use Rattle.graphql_occurrences.proofs.OccurrenceEquations.{parts_field, parts_spread}
use Rattle.graphql_rules_document.specs.Scopes.{FragmentScope}
use Rattle.graphql_rules_document.proofs.ScopeRows.{put, select, spread}
use Rattle.graphql_rules_document.specs.Ends.{EndsWithin}
use Rattle.graphql_written_out.specs.Written.{fragment_meant, written}
use Rattle.graphql_rules_document.specs.Counted.{IsSpread}
use Rattle.graphql_rules_document.proofs.SettledRows.{field_types_are_known, they_are_known, its_scopes, each_ends}
use Rattle.graphql_plain_validity.specs.WholeSets.{IsWholeSet, whole_field, whole_spread, no_set, whole_set, one_selection, more_selections, definition_set}
use Rattle.graphql_plain_validity.specs.Laws.{AreWhole, IsFull}
use Rattle.graphql_plain_validity.proofs.WrittenSets.{written-sets-are-filled}

-- `fragment A on Human { name ...B }` and `fragment B on Being { friend { name } }`
abbrev of_human : Fragment ℕ
of_human = record {
  name = put 20 (codes "A");
  type_condition = put 20 (codes "Human");
  directives = None;
  selection_set = select 40 (codes "name") None ∷ spread 50 (codes "B") ∷ [];
}

abbrev of_being : Fragment ℕ
of_being = record {
  name = put 60 (codes "B");
  type_condition = put 60 (codes "Being");
  directives = None;
  selection_set = select 80 (codes "friend") (Some (select 90 (codes "name") None ∷ [])) ∷ [];
}

-- `{ either { ...A } }` with both
abbrev query : Placed (Operation ℕ)
query = put 0 (record {
  operation_type = operation.Query;
  name = None;
  variable_definitions = None;
  directives = None;
  selection_set = select 2 (codes "either") (Some (spread 11 (codes "A") ∷ [])) ∷ [];
})

abbrev document : List (Definition ℕ)
document = definition.Operation query ∷ definition.Fragment (put 20 of_human) ∷ definition.Fragment (put 60 of_being) ∷ []

-- its sets are whole
leaf_is_whole : (n : ℕ) (name : Bytes) → IsWholeSet (select n name None ∷ [])
leaf_is_whole n name = one_selection (select n name None) (whole_field _ no_set)

pub they_are_whole : AreWhole document
they_are_whole =
    All-from_recursion (λ (x : Definition ℕ). IsWholeSet (definition_set x)) document (
      one_selection _ (whole_field _ (whole_set _ (one_selection _ (whole_spread _)))),
      (
        more_selections _ _ (whole_field _ no_set) (one_selection _ (whole_spread _)),
        (one_selection _ (whole_field _ (whole_set _ (leaf_is_whole 90 (codes "name")))), tt),
      ),
    )

-- each spread means a fragment
abbrev is_meant : Part ℕ ℕ → Bool
is_meant (ASpread s) = is_some (fragment_meant (of_human ∷ of_being ∷ []) s.name.item)
is_meant _ = true

all_meant : list_all is_meant (occurrences beings_schema document) ≡ true
unfolding occurrences
all_meant = simp (parts_field beings_schema, parts_spread beings_schema) refl

pub they_are_meant : (name : Bytes) → IsSpread (occurrences beings_schema document) name → IsSome (fragment_meant (of_human ∷ of_being ∷ []) name)
they_are_meant name s =
    subst (λ (n : Bytes). IsSome (fragment_meant (of_human ∷ of_being ∷ []) n)) s.2
    (All-contains (λ (p : Part ℕ ℕ). is_meant p ≡ true) (occurrences beings_schema document) (ASpread s.0)
    (AllPass-from_list_all is_meant (occurrences beings_schema document) all_meant) s.1)

-- so the set of the query is full once they are written out
pub query_is_full : IsFull (written (of_human ∷ of_being ∷ []) query.item.selection_set)
query_is_full =
    written-sets-are-filled beings_schema field_types_are_known document query they_are_whole (0, lit< tt, refl) refl they_are_known they_are_meant
    (subst (λ (fs : List FragmentScope). (name : Bytes) → EndsWithin fs (length fs) name) (sym its_scopes) each_ends)

-- A document with fragments over a schema with interfaces, objects and a union: its fragments are written out whole.
use Rattle.std.proofs.Common.{◌≡◌, refl, sym, subst, lit<, ℕ, ◌&&◌, Bool, true, false, List, [], ◌∷◌, length, Some, None, cond}
use Rattle.std.specs.Prelude.{codes}
use Rattle.std.specs.List.{All, Contains, list_all}
use Rattle.std.specs.Option.{IsSome, is_some}
use Rattle.std.specs.Str.{bytes_eq}
use Rattle.std.proofs.lemmas.Bool.{false≢true}
use Rattle.std.proofs.lemmas.List.Elements.{All-contains, All-from_recursion, All-nil}
use Rattle.std.proofs.lemmas.List.Sums.{AllPass-from_list_all}
use Rattle.std.proofs.lemmas.Slice.Eq.{bytes_eq-Decides}
use Rattle.graphql_names.specs.Names.{Bytes, named}
use Rattle.graphql_names.proofs.NameMaps.{found_is_in}
use Rattle.graphql_schema.specs.declared.meta.field.Field.{Field}
use Rattle.graphql_schema.specs.declared.meta.MetaType.{MetaType}
use Rattle.graphql_schema.specs.Types.{fields_of}
use Rattle.graphql_schema.specs.Faults.{is_composite}
use Rattle.graphql_occurrences.specs.DeclaredLookups.{known, typename_field}
use Rattle.graphql_schema.proofs.Rows.{being, beings, beings_schema, friend_of}
use Rattle.graphql_tree.specs.declared.document.Definition.{Definition}
use Rattle.graphql_tree.specs.declared.document.Definition.TheVariants as definition
use Rattle.graphql_tree.specs.declared.document.Fragment.{Fragment}
use Rattle.graphql_tree.specs.declared.selection.Selection.{Selection}
use Rattle.graphql_written_out.specs.Written.{Settled, write, written}
use Rattle.graphql_occurrences.specs.Occurrences.{occurrences}
use Rattle.graphql_occurrences.specs.Parts.{Part, AField, Condition}
use Rattle.graphql_occurrences.proofs.OccurrenceEquations.{parts_field, parts_spread}
use Rattle.graphql_rules_document.specs.AllRules.{FragmentScope, Spread, fragment_scopes}
use Rattle.graphql_rules_document.proofs.DocumentRows.{at, put, query, select, spread}
use Rattle.graphql_rules_document.specs.Ends.{EndsWithin}
use Rattle.graphql_rules_document.specs.Counted.{AreKnown, FieldTypesAreKnown}
use Rattle.graphql_rules_document.proofs.SettledFragments.{ending-fragments-are-settled}

-- what a list passes as a whole, each of its items passes
passes_at : {A : Type 0} (p : A → Bool) (xs : List A) (x : A) → list_all p xs ≡ true → Contains xs x → p x ≡ true
passes_at p xs x all inside = All-contains (λ y. p y ≡ true) xs x (AllPass-from_list_all p xs all) inside

-- ---- the types of fields

abbrev has_known_type : Field ℕ → Bool
has_known_type f = is_some (known beings_schema f.field_type.name)

abbrev has_known_types : MetaType ℕ ℕ → Bool
has_known_types m = list_all has_known_type (fields_of m)

-- the types of all fields of the schema are types of it
pub field_types_are_known : FieldTypesAreKnown beings_schema
field_types_are_known m name f inside e = cases (bytes_eq name (codes "__typename") && is_composite m) e
  where
    cases : (q : Bool)
        → cond q (Some typename_field) (named (λ (g : Field ℕ). g.name) (fields_of m) name) ≡ Some f
        → IsSome (known beings_schema f.field_type.name)
    cases true is =
        let same : typename_field ≡ f = cc in
        subst (λ (g : Field ℕ). IsSome (known beings_schema g.field_type.name)) same refl
    cases false is =
        let there = (found_is_in (λ (g : Field ℕ). g.name) (fields_of m) name f is).1 in
        passes_at has_known_type (fields_of m) f (passes_at has_known_types beings m refl inside) there

-- that of the friend of a being among them
pub type_of_friend : IsSome (known beings_schema (codes "Being"))
type_of_friend = field_types_are_known being (codes "friend") (friend_of (codes "Being")) (0, lit< tt, refl) refl

-- ---- a document

abbrev fragment_on : ℕ → Bytes → Bytes → List (Selection ℕ) → Fragment ℕ
fragment_on n name on set =
    record { name = put n name; type_condition = put n on; directives = None; selection_set = set }

-- `fragment A on Human { name ...B }` and `fragment B on Being { friend { name } }`
abbrev of_human : Fragment ℕ
of_human = fragment_on 20 (codes "A") (codes "Human") (select 40 (codes "name") None ∷ spread 50 (codes "B") ∷ [])

abbrev of_being : Fragment ℕ
of_being =
    fragment_on 60 (codes "B") (codes "Being")
    (select 80 (codes "friend") (Some (select 90 (codes "name") None ∷ [])) ∷ [])

-- `{ either { ...A } }` with both
abbrev document : List (Definition ℕ)
document =
    query (select 2 (codes "either") (Some (spread 11 (codes "A") ∷ [])) ∷ [])
    ∷ definition.Fragment (put 20 of_human) ∷ definition.Fragment (put 60 of_being) ∷ []

-- its fields are declared, and its conditions name types
abbrev is_known : Part ℕ ℕ → Bool
is_known (AField f) = is_some f.declared
is_known (Condition n) = is_some (known beings_schema n.item)
is_known _ = true

all_known : list_all is_known (occurrences beings_schema document) ≡ true
unfolding occurrences
all_known = simp (parts_field beings_schema, parts_spread beings_schema) refl

pub they_are_known : AreKnown beings_schema (occurrences beings_schema document)
they_are_known = record {
  fields = λ f inside. passes_at is_known (occurrences beings_schema document) (AField f) all_known inside;
  conditions = λ n inside. passes_at is_known (occurrences beings_schema document) (Condition n) all_known inside;
}

abbrev of_b : Spread
of_b = record { name = codes "B"; place = at 50 }

-- A spreads B, and B nothing
abbrev scopes : List FragmentScope
scopes =
    record {
      name = codes "A";
      place = at 20;
      uses = [];
      spreads = of_b ∷ [];
    }
    ∷ record { name = codes "B"; place = at 60; uses = []; spreads = [] } ∷ []

pub its_scopes : fragment_scopes beings_schema document ≡ scopes
its_scopes = simp (parts_field beings_schema, parts_spread beings_schema) refl

-- so what is spread ends within as many levels as there are fragments
b_ends : EndsWithin scopes 1 (codes "B")
b_ends =
    All-from_recursion (λ (f : FragmentScope). f.name ≡ codes "B" → All (λ s. EndsWithin scopes 0 s.name) f.spreads)
    scopes
    ((λ e. absurd (false≢true ((bytes_eq-Decides (codes "A") (codes "B")).1 e))), ((λ e. All-nil _), tt))

pub each_ends : (name : Bytes) → EndsWithin scopes 2 name
each_ends name =
    All-from_recursion (λ (f : FragmentScope). f.name ≡ name → All (λ s. EndsWithin scopes 1 s.name) f.spreads) scopes (
      (λ e. All-from_recursion (λ (s : Spread). EndsWithin scopes 1 s.name) (of_b ∷ []) (b_ends, tt)),
      ((λ e. All-nil _), tt),
    )

-- so its fragments are written out by two levels
pub fragments_are_settled : Settled (of_human ∷ of_being ∷ [])
fragments_are_settled =
    ending-fragments-are-settled beings_schema field_types_are_known document they_are_known
    (subst (λ (fs : List FragmentScope). (name : Bytes) → EndsWithin fs (length fs) name) (sym its_scopes) each_ends)

-- that of humans among them
pub of_human_is_settled :
    write 2 (of_human ∷ of_being ∷ []) of_human.selection_set
    ≡ written (of_human ∷ of_being ∷ []) of_human.selection_set
of_human_is_settled = fragments_are_settled of_human (codes "A") refl

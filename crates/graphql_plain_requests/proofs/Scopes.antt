-- What the operations and fragments of a document without its places hold is what those of the
-- document
-- hold, without places.
use Rattle.std.proofs.Common.{◌≡◌, refl, sym, ◌∙◌, ap, true, false, cond, fold, length, zero, suc, ℕ, List, [], ◌∷◌, ◌++◌, map, Option, Some, None}
use Rattle.std.specs.List.{filter, flat_map}
use Rattle.std.specs.Option.{option_map}
use Rattle.std.proofs.lemmas.List.{length-map, map-append}
use Rattle.std.proofs.lemmas.Simd.{map-map}
use Rattle.graphql_names.specs.Names.{Bytes, is_one_of}
use Rattle.graphql_values.specs.InputValues.{Placed}
use Rattle.graphql_tree.specs.Definitions.{operations_of}
use Rattle.graphql_tree.specs.Documents.{variables_in}
use Rattle.graphql_tree.specs.Unlocated.{without_place, unlocated_document, unlocated_fragment, unlocated_name, unlocated_operation, unlocated_variable, unlocated_variables}
use Rattle.graphql_tree.specs.Variables.{Variable}
use Rattle.graphql_tree.specs.declared.document.Definition.{Definition}
use Rattle.graphql_tree.specs.declared.document.Definition.TheVariants as definition
use Rattle.graphql_tree.specs.declared.document.Fragment.{Fragment}
use Rattle.graphql_tree.specs.declared.document.Operation.{Operation}
use Rattle.graphql_tree.specs.declared.variable.VariableDefinitions.{VariableDefinitions}
use Rattle.graphql_schema.specs.Declarations.{Declarations}
use Rattle.graphql_occurrences.specs.Occurrences.{fragment_parts, operation_parts, variable_part}
use Rattle.graphql_occurrences.specs.Parts.{ASpread, Part, Use, VariableUsed}
use Rattle.graphql_occurrences.specs.Unlocated.{unlocated_part, unlocated_variable_part}
use Rattle.graphql_occurrences.proofs.UnlocatedParts.{fragment_unlocated, operation_unlocated}
use Rattle.graphql_rules_document.specs.Reached.{grown_by, names_of, reached, reached_from, rounds, uses_from, with_name}
use Rattle.graphql_rules_document.specs.Scopes.{FragmentScope, OperationScope, Spread, fragment_scope, fragment_scopes, operation_scope, operation_scopes, spread_at, use_at}
use Rattle.graphql_moved.proofs.Unlocated.{nowhere}
use Rattle.graphql_plain_requests.proofs.Erased.{flat-mapped}
use Rattle.graphql_plain_requests.proofs.LocalRules.{fragments-unlocated}

abbrev pub unlocated_use : Use → Use
unlocated_use u = record u { place = nowhere u.place }

abbrev pub unlocated_spread : Spread → Spread
unlocated_spread s = record { name = s.name; place = nowhere s.place }

abbrev pub unlocated_fragment_scope : FragmentScope → FragmentScope
unlocated_fragment_scope f = record {
  name = f.name;
  place = nowhere f.place;
  uses = map unlocated_use f.uses;
  spreads = map unlocated_spread f.spreads;
}

name-unlocated : (o : Option (Placed Bytes)) → option_map (λ (n : Placed Bytes). n.item)
    (option_map unlocated_name o) ≡ option_map (λ n. n.item) o
name-unlocated None = refl
name-unlocated (Some n) = refl

module _ {S : Type 0} where
  abbrev pub unlocated_operation_scope : OperationScope S → OperationScope S
  unlocated_operation_scope o = record {
    name = o.name;
    place = nowhere o.place;
    defined = map unlocated_variable_part o.defined;
    uses = map unlocated_use o.uses;
    spreads = map unlocated_spread o.spreads;
  }

  variables-unlocated : (o : Option (Placed (VariableDefinitions S)))
      → variables_in (option_map (without_place unlocated_variables) o)
      ≡ map (λ (v : Variable S). (unlocated_name v.0, unlocated_variable v.1)) (variables_in o)
  variables-unlocated None = refl
  variables-unlocated (Some v) = refl

  operations-unlocated : (d : List (Definition S)) → operations_of (unlocated_document d)
      ≡ map (without_place unlocated_operation) (operations_of d)
  operations-unlocated [] = refl
  operations-unlocated (definition.Operation o ∷ d) = ap (λ os. without_place unlocated_operation o ∷ os)
      (operations-unlocated d)
  operations-unlocated (definition.Fragment f ∷ d) = operations-unlocated d

module _ {S C : Type 0} where
  use-unlocated : (x : Part S C) → use_at (unlocated_part x) ≡ map unlocated_use (use_at x)
  use-unlocated (VariableUsed u) = refl
  use-unlocated _ = refl

  spread-unlocated : (x : Part S C) → spread_at (unlocated_part x) ≡ map unlocated_spread (spread_at x)
  spread-unlocated (ASpread s) = refl
  spread-unlocated _ = refl

module _ {S C : Type 0} (schema : Declarations S C) where
  operation-scope : (o : Placed (Operation S))
      → operation_scope schema (without_place unlocated_operation o)
      ≡ unlocated_operation_scope (operation_scope schema o)
  operation-scope o =
      let uses = ap (flat_map use_at) (operation_unlocated schema o.item)
      ∙ flat-mapped unlocated_part unlocated_use use_at use_at use-unlocated
      (operation_parts schema o.item) in
      let spreads = ap (flat_map spread_at) (operation_unlocated schema o.item)
      ∙ flat-mapped unlocated_part unlocated_spread spread_at spread_at spread-unlocated
      (operation_parts schema o.item) in
      let unlocated_defined : Variable S → Variable S = λ v.
      (unlocated_name v.0, unlocated_variable v.1) in
      let defined = ap (map variable_part) (variables-unlocated o.item.variable_definitions)
      ∙ map-map variable_part unlocated_defined (variables_in o.item.variable_definitions)
      ∙ sym (map-map unlocated_variable_part variable_part
      (variables_in o.item.variable_definitions)) in
      λ i. record {
        name = name-unlocated o.item.name i;
        place = nowhere o.span.start;
        defined = defined
            i;
        uses = uses i;
        spreads = spreads i;
      }

  fragment-scope : (f : Placed (Fragment S)) → fragment_scope schema
      (without_place unlocated_fragment f) ≡ unlocated_fragment_scope (fragment_scope schema f)
  fragment-scope f =
      let uses = ap (flat_map use_at) (fragment_unlocated schema f.item)
      ∙ flat-mapped unlocated_part unlocated_use use_at use_at use-unlocated
      (fragment_parts schema f.item) in
      let spreads = ap (flat_map spread_at) (fragment_unlocated schema f.item)
      ∙ flat-mapped unlocated_part unlocated_spread spread_at spread_at spread-unlocated
      (fragment_parts schema f.item) in
      λ i. record {
        name = f.item.name.item;
        place = nowhere f.span.start;
        uses = uses i;
        spreads = spreads i;
      }

  scopes-of-operations : (os : List (Placed (Operation S)))
      → map (operation_scope schema) (map (without_place unlocated_operation) os)
      ≡ map unlocated_operation_scope (map (operation_scope schema) os)
  scopes-of-operations [] = refl
  scopes-of-operations (o ∷ os) = λ i. operation-scope o i ∷ scopes-of-operations os i

  scopes-of-fragments : (fs : List (Placed (Fragment S)))
      → map (fragment_scope schema) (map (without_place unlocated_fragment) fs)
      ≡ map unlocated_fragment_scope (map (fragment_scope schema) fs)
  scopes-of-fragments [] = refl
  scopes-of-fragments (f ∷ fs) = λ i. fragment-scope f i ∷ scopes-of-fragments fs i

  pub operation-scopes : (d : List (Definition S)) → operation_scopes schema (unlocated_document d)
      ≡ map unlocated_operation_scope (operation_scopes schema d)
  operation-scopes d = ap (map (operation_scope schema)) (operations-unlocated d)
      ∙ scopes-of-operations (operations_of d)

  pub fragment-scopes : (d : List (Definition S)) → fragment_scopes schema (unlocated_document d)
      ≡ map unlocated_fragment_scope (fragment_scopes schema d)
  fragment-scopes d = ap (map (fragment_scope schema)) (fragments-unlocated d) ∙ scopes-of-fragments _

-- ---- what spreads reach

spread-names : (ss : List Spread) → names_of (map unlocated_spread ss) ≡ names_of ss
spread-names ss = map-map (λ (s : Spread). s.name) unlocated_spread ss

grown-unlocated : (names : List Bytes) (f : FragmentScope) → grown_by names (unlocated_fragment_scope f)
    ≡ grown_by names f
grown-unlocated names f = ap (λ ns. cond (is_one_of names f.name) (fold with_name names ns) names)
    (spread-names f.spreads)

all-grown : (fs : List FragmentScope) (names : List Bytes)
    → fold grown_by names (map unlocated_fragment_scope fs) ≡ fold grown_by names fs
all-grown [] names = refl
all-grown (f ∷ fs) names = ap (λ ns. fold grown_by ns (map unlocated_fragment_scope fs))
    (grown-unlocated names f) ∙ all-grown fs (grown_by names f)

rounds-unlocated : (n : ℕ) (fs : List FragmentScope) (names : List Bytes)
    → rounds n (map unlocated_fragment_scope fs) names ≡ rounds n fs names
rounds-unlocated zero fs names = refl
rounds-unlocated (suc n) fs names =
    all-grown fs (rounds n (map unlocated_fragment_scope fs) names)
    ∙ ap (λ ns. fold grown_by ns fs) (rounds-unlocated n fs names)

pub reached-unlocated : (fs : List FragmentScope) (from : List Spread)
    → reached (map unlocated_fragment_scope fs) (map unlocated_spread from) ≡ reached fs from
unfolding reached
reached-unlocated fs from =
    (λ i. rounds (length-map fs unlocated_fragment_scope i) (map unlocated_fragment_scope fs)
    (fold with_name [] (spread-names from i)))
    ∙ rounds-unlocated (length fs) fs (fold with_name [] (names_of from))

filtered : (names : List Bytes) (fs : List FragmentScope)
    → filter (λ (f : FragmentScope). is_one_of names f.name) (map unlocated_fragment_scope fs)
    ≡ map unlocated_fragment_scope (filter (λ (f : FragmentScope). is_one_of names f.name) fs)
filtered names [] = refl
filtered names (f ∷ fs) =
    elim (is_one_of names f.name) as
    (λ b. cond b (unlocated_fragment_scope f ∷ filter (λ (f : FragmentScope). is_one_of names f.name)
    (map unlocated_fragment_scope fs)) (filter (λ (f : FragmentScope). is_one_of names f.name)
    (map unlocated_fragment_scope fs))
    ≡ map unlocated_fragment_scope (cond b (f ∷ filter (λ (f : FragmentScope). is_one_of names f.name)
    fs) (filter (λ (f : FragmentScope). is_one_of names f.name) fs)))
    [ true ↦ ap (λ xs. unlocated_fragment_scope f ∷ xs) (filtered names fs) | false ↦ filtered names fs ]

module _ {S : Type 0} where
  -- the uses that an operation reaches
  pub uses-unlocated : (fs : List FragmentScope) (o : OperationScope S)
      → uses_from (map unlocated_fragment_scope fs) (unlocated_operation_scope o)
      ≡ map unlocated_use (uses_from fs o)
  uses-unlocated fs o =
      ap (λ names. map unlocated_use o.uses ++ flat_map (λ (f : FragmentScope). f.uses)
      (filter (λ (f : FragmentScope). is_one_of names f.name) (map unlocated_fragment_scope fs)))
      (reached-unlocated fs o.spreads)
      ∙ ap (λ xs. map unlocated_use o.uses ++ flat_map (λ (f : FragmentScope). f.uses) xs)
      (filtered (reached fs o.spreads) fs)
      ∙ ap (λ us. map unlocated_use o.uses ++ us) (flat-mapped unlocated_fragment_scope unlocated_use
      (λ (f : FragmentScope). f.uses) (λ (f : FragmentScope). f.uses) (λ f. refl)
      (reached_from fs o))
      ∙ sym (map-append unlocated_use o.uses (flat_map (λ (f : FragmentScope). f.uses)
      (reached_from fs o)))

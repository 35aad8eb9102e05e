-- The fragments that spreads reach (GraphQL October 2021, 5.5.1.4 Fragments Must Be Used, 5.5.2.2
-- Fragment Spreads Must Not Form Cycles, 5.8.3 All Variable Uses Defined).
use Rattle.std.specs.Prelude.{ℕ, zero, suc, Bool, List, [], ◌∷◌, ◌++◌, map, fold, length}
use Rattle.std.specs.Prelude.{if◌then◌else◌}
use Rattle.std.specs.List.{Contains, filter, flat_map}
use Rattle.graphql_names.specs.Names.{Bytes, is_one_of}
use Rattle.graphql_occurrences.specs.Parts.{Use}
use Rattle.graphql_rules_document.specs.Scopes.{FragmentScope, OperationScope, Spread}

abbrev pub names_of : List Spread → List Bytes
names_of = map (λ s. s.name)

-- a name that is spread, or that a fragment of such a name spreads, of which there may be several:
-- the least set of names that has these
pub data IsReached (fragments : List FragmentScope) (from : List Spread) : Bytes → Type 0 where
  at_once : (name : Bytes) → Contains (names_of from) name → IsReached fragments from name
  through : (f : FragmentScope) (name : Bytes) → Contains fragments f
      → IsReached fragments from f.name → Contains (names_of f.spreads) name
      → IsReached fragments from name

-- a name is added once
abbrev pub with_name : List Bytes → Bytes → List Bytes
with_name names name = if is_one_of names name then names else names ++ name ∷ []

-- what a fragment among them spreads is added
abbrev pub grown_by : List Bytes → FragmentScope → List Bytes
grown_by names f =
    if is_one_of names f.name then fold with_name names (names_of f.spreads) else names

abbrev pub rounds : ℕ → List FragmentScope → List Bytes → List Bytes
rounds zero fragments names = names
rounds (suc n) fragments names = fold grown_by (rounds n fragments names) fragments

-- the names that are reached, each once: a round adds what a further fragment spreads, or nothing
unfoldable pub reached : List FragmentScope → List Spread → List Bytes
reached fragments from = rounds (length fragments) fragments (fold with_name [] (names_of from))

-- of each fragment, whether it is reached
abbrev pub reached_marks : List FragmentScope → List Spread → List Bool
reached_marks fragments from = map (λ f. is_one_of (reached fragments from) f.name) fragments

module _ {S : Type 0} (fragments : List FragmentScope) where
  -- the fragments that an operation reaches, each where it stands
  abbrev pub reached_from : OperationScope S → List FragmentScope
  reached_from o = filter (λ f. is_one_of (reached fragments o.spreads) f.name) fragments

  -- the uses of variables in an operation and in the fragments that it reaches
  abbrev pub uses_from : OperationScope S → List Use
  uses_from o = o.uses ++ flat_map (λ f. f.uses) (reached_from o)

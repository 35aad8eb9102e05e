-- The test of a name is the grammar's rule.
use Rattle.std.proofs.Common.{◌≡◌, ◌&&◌, ◌||◌, ◌==◌, ◌↔◌, ℕ, Bool, true, List, [], ◌∷◌, IsTrue, refl, ap}
use Rattle.std.specs.Bool.{Decides}
use Rattle.std.specs.Char.{is_ascii_alphabetic}
use Rattle.std.specs.List.{list_all}
use Rattle.std.specs.Str.{chars}
use Rattle.std.proofs.lemmas.Bool.{and_parts}
use Rattle.std.proofs.lemmas.Bool.Decides.{same_from_decides}
use Rattle.graphql_text.specs.Characters.{continues_name}
use Rattle.graphql_text.specs.Grammar.{Each, IsName}
use Rattle.graphql_names.specs.Names.{Bytes}
use Rattle.graphql_schema_files.specs.NamedDrafts.{is_name, spells_name}

both : (a b : Bool) → a ≡ true → b ≡ true → (a && b) ≡ true
both a b p q = cc (ap (λ t. t && b) p)

each_passes : (p : ℕ → Bool) (cs : List ℕ) → list_all p cs ≡ true → Each p cs
each_passes p [] h = tt
each_passes p (c ∷ cs) h = let a = and_parts (p c) (list_all p cs) h in (a.0, each_passes p cs a.1)

passes_each : (p : ℕ → Bool) (cs : List ℕ) → Each p cs → list_all p cs ≡ true
passes_each p [] h = refl
passes_each p (c ∷ cs) h = both (p c) (list_all p cs) h.0 (passes_each p cs h.1)

-- characters spell a name exactly where the test says so
name_decides : (cs : List ℕ) → Decides (spells_name cs) (IsName cs)
name_decides [] = (λ h. cc, λ h. absurd h)
name_decides (c ∷ cs) = (
  λ h. let a = and_parts (c == 95 || is_ascii_alphabetic c) (list_all continues_name cs) h in (a.0, each_passes continues_name cs a.1),
  λ h. both (c == 95 || is_ascii_alphabetic c) (list_all continues_name cs) h.0 (passes_each continues_name cs h.1),
)

pub name_tested : (text : Bytes) (b : Bool) → IsTrue b ↔ IsName (chars text) → b ≡ is_name text
name_tested text b told = same_from_decides b (is_name text) told (name_decides (chars text))

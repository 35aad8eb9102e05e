-- A type as it is written: what stands before its name, the name, and what stands behind it.
use Rattle.std.proofs.Common.{◌≡◌, ℕ, List, [], ◌∷◌, ◌++◌, sym, ap, refl, ◌∙◌, append_assoc, append-nil}
use Rattle.std.specs.List.{flat_map}
use Rattle.std.specs.Prelude.{codes}
use Rattle.graphql_names.specs.declared.type_modifier.TypeModifier.{TypeModifier}
use Rattle.graphql_names.specs.declared.type_modifier.TypeModifier.TheVariants as modifier
use Rattle.graphql_names.specs.TypeReference.{written_type, opening, closing}

-- what stands before a name is nothing but opening brackets, so one more may stand first or last
openings_swap : (ms : List TypeModifier) (rest : List ℕ) → flat_map opening ms ++ (91 ∷ rest) ≡ 91 ∷ (flat_map opening ms ++ rest)
openings_swap [] rest = refl
openings_swap (modifier.NonNull ∷ ms) rest = openings_swap ms rest
openings_swap (modifier.List size ∷ ms) rest = ap (λ l. 91 ∷ l) (openings_swap ms rest)

pub written_is : (inner : List ℕ) (ms : List TypeModifier) → written_type inner ms ≡ (flat_map opening ms ++ inner) ++ flat_map closing ms
written_is inner [] = sym (append-nil inner)
written_is inner (modifier.NonNull ∷ ms) = written_is (inner ++ codes "!") ms ∙ simp append_assoc
written_is inner (modifier.List size ∷ ms) =
    written_is (codes "[" ++ inner ++ codes "]") ms
    ∙ ap (λ l. l ++ flat_map closing ms) (openings_swap ms (inner ++ codes "]"))
    ∙ simp append_assoc

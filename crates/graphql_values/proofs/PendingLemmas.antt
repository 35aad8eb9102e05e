-- What tasks stand for, once tasks were put on top.
use Rattle.std.proofs.Common.{◌≡◌, List, [], ◌∷◌, ◌++◌, length, true, false, sym, ap, refl, ◌∙◌, append-nil, append_assoc}
use Rattle.std.specs.Prelude.{◌==◌}
use Rattle.std.specs.List.{flat_map, join_by}
use Rattle.graphql_values.specs.Pending.{pending}

module _ {T E : Type 0} (does : T → List E) where
  pending_push : (ts : List T) (t : T) → pending does (ts ++ t ∷ []) ≡ does t ++ pending does ts
  pending_push [] t = sym (append-nil (does t))
  pending_push (u ∷ ts) t = ap (λ es. es ++ does u) (pending_push ts t) ∙ append_assoc (does t) (pending does ts) (does u)

  pub pushed : (ts new : List T) (t : T) → new ≡ ts ++ t ∷ [] → pending does new ≡ does t ++ pending does ts
  pushed ts new t is = ap (pending does) is ∙ pending_push ts t

  -- the first of these is told, and a task stands for the others
  pub opened : (these : List E) (first : E) (ts new : List T) (t : T) → these ≡ first ∷ does t → new ≡ ts ++ t ∷ [] → these ++ pending does ts ≡ first ∷ pending does new
  opened these first ts new t are is = ap (λ es. es ++ pending does ts) are ∙ ap (λ es. first ∷ es) (sym (pushed ts new t is))

module _ {X E : Type 0} (f : X → List E) (gap end : E) where
  -- what parts stand for, with a gap between any two, and the end; and the same, with a gap before each
  abbrev pub joined : List X → List E
  joined xs = join_by f (gap ∷ []) xs ++ end ∷ []

  abbrev pub behind : List X → List E
  behind xs = flat_map (λ x. (gap ∷ []) ++ f x) xs ++ end ∷ []

  -- the first gap is told
  pub gap_first : (xs : List X) → false ≡ (length xs == 0) → behind xs ≡ gap ∷ joined xs
  gap_first [] some = let wrong : false ≡ true = some in cc
  gap_first (x ∷ rest) some = refl

  -- the first part comes first, and a task stands for the others
  pub first_part :
      {T : Type 0} (does : T → List E) (parts others : List X) (x : X) (ts new : List T) (t : T) → parts ≡ x ∷ others → does t ≡ behind others → new ≡ ts ++ t ∷ []
      → f x ++ pending does new ≡ joined parts ++ pending does ts
  first_part does parts others x ts new t are rest is =
      let after = flat_map (λ y. (gap ∷ []) ++ f y) others in
      ap (λ es. f x ++ es) (pushed does ts new t is ∙ ap (λ es. es ++ pending does ts) rest)
      ∙ sym (append_assoc (f x) (after ++ end ∷ []) (pending does ts))
      ∙ ap (λ es. es ++ pending does ts) (sym (append_assoc (f x) after (end ∷ [])))
      ∙ ap (λ ys. joined ys ++ pending does ts) (sym are)

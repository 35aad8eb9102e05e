-- Steps of a walk over open sets.
use Rattle.std.proofs.Common.{◌≡◌, sym, ap, subst, ◌≤◌, ◌<◌, arith, Bool, List, [], ◌∷◌, ◌++◌}
use Rattle.graphql_written_out.specs.Trees.{Directives, Tree, height}
use Rattle.graphql_names.specs.Names.{Bytes}
use Rattle.graphql_written_out.specs.Fields.{Found, fields}
use Rattle.graphql_collect.specs.Walks.{Walk, Meanings, marked}
use Rattle.graphql_collect.specs.Walked.{Ready, Walked, WalksAll}
use Rattle.graphql_collect.proofs.WalkLaws.{walked-none, walked-then, walked-inside, ready-after, ready-inside}

module _ {S : Type 0} (drops : Directives S → Bool) (b : Bytes → Bool) (means : Meanings S) where
  abbrev F : Tree S → List (Found S)
  F = fields drops b

  abbrev W : List (Found S) → Walk S → Walk S → Type 0
  W = Walked drops b means

  -- a set that is opened
  pub leads-first : (t : Tree S) (s : Walk S) → Ready drops b means (height t) s → WalksAll drops b means (F t) s (t ∷ []) s
  leads-first t s r = (r, λ m w. w)

  module _ (xs : List (Found S)) (start : Walk S) (ts : List (Tree S)) (s : Walk S) where
    abbrev L : List (Tree S) → Walk S → Type 0
    L = WalksAll drops b means xs start

    pub leads-walked : (t : Tree S) (m : Walk S) → W (F t) s m → L (t ∷ ts) s → L ts m
    leads-walked t m w l = l.1 m w

    -- a set that ends
    pub leads-end : (t : Tree S) → F t ≡ [] → L (t ∷ ts) s → L ts s
    leads-end t none l = l.1 s (subst (λ ys. W ys s s) (sym none) (walked-none drops b means s))

    -- a set's first selection, before the others
    pub leads-apart : (t one rest : Tree S) → F t ≡ F one ++ F rest → height one ≤ height t → height rest ≤ height t → L (t ∷ ts) s → L (one ∷ rest ∷ ts) s
    leads-apart t one rest is low less l = (
      ready-after drops b means [] (height t) (height one) s s low (walked-none drops b means s) l.0,
      λ m v. (
        ready-after drops b means (F one) (height t) (height rest) s m less v l.0,
        λ n w. l.1 n (subst (λ ys. W ys s n) (sym is) (walked-then drops b means (F one) (F rest) s m n v w)),
      ),
    )

    -- a set that stands for a selection
    pub leads-set : (t inner : Tree S) → F t ≡ F inner → height inner < height t → L (t ∷ ts) s → L (inner ∷ ts) s
    leads-set t inner same lower l =
        (ready-after drops b means [] (height t) (height inner) s s (omega arith) (walked-none drops b means s) l.0, λ m w. l.1 m (subst (λ ys. W ys s m) (sym same) w))

    -- a fragment that is entered
    pub leads-fragment : (name : Bytes) (t inner : Tree S) → F t ≡ F inner → height inner < height t → inner ≡ (means name).1 → L (t ∷ ts) s → L (inner ∷ ts) (marked name s)
    leads-fragment name t inner same lower own l = (
      ready-inside drops b means name (height t) (height inner) s l.0 (omega arith) (omega (arith, ap height own)),
      λ m w. l.1 m (subst (λ ys. W ys s m) (sym same) (walked-inside drops b means name (F inner) s m (ap F own) w)),
    )

-- Two fronts of one list of tokens.
use Rattle.std.proofs.Common.{◌≡◌, ◌⊎◌, inl, inr, List, [], ◌∷◌, ◌++◌, ap, ◌∙◌, sym, refl, subst, append_assoc}
use Rattle.graphql_grammar.specs.Input.{Located}
use Rattle.graphql_grammar.specs.Faults.{Reading, Begins}

-- a list goes on behind a front with this item
pub record GoesOn (front rest whole : List Located) : Type 0 where
  pub next : Located
  pub more : List Located
  pub whole_is : whole ≡ front ++ next ∷ more
  pub behind : List Located
  pub rest_is : rest ≡ next ∷ behind

goes_on_by : (x y : Located) (a b c : List Located) → x ≡ y → GoesOn a b c → GoesOn (x ∷ a) b (y ∷ c)
goes_on_by x y a b c e g = record { next = g.next; more = g.more; whole_is = ap (λ z. z ∷ c) (sym e) ∙ ap (λ z. x ∷ z) g.whole_is; behind = g.behind; rest_is = g.rest_is }

-- they are one, or one goes on behind the other
abbrev pub Fronts : List Located → List Located → List Located → List Located → Type 0
Fronts a b c d = ((a ≡ c) × (b ≡ d)) ⊎ ((GoesOn a b c) ⊎ (GoesOn c d a))

fronts_by : (x y : Located) (a b c d : List Located) → x ≡ y → Fronts a b c d → Fronts (x ∷ a) b (y ∷ c) d
fronts_by x y a b c d e (inl s) = inl (ap (λ z. z ∷ a) e ∙ ap (λ z. y ∷ z) s.0, s.1)
fronts_by x y a b c d e (inr (inl g)) = inr (inl (goes_on_by x y a b c e g))
fronts_by x y a b c d e (inr (inr g)) = inr (inr (goes_on_by y x c d a (sym e) g))

pub fronts : (a b c d : List Located) → a ++ b ≡ c ++ d → Fronts a b c d
fronts [] b [] d is = inl (refl, is)
fronts [] b (y ∷ c) d is = inr (inl (record { next = y; more = c; whole_is = refl; behind = c ++ d; rest_is = is }))
fronts (x ∷ a) b [] d is = inr (inr (record { next = x; more = a; whole_is = refl; behind = a ++ b; rest_is = sym is }))
fronts (x ∷ a) b (y ∷ c) d is = let h : x ≡ y = cc in let u : a ++ b ≡ c ++ d = cc in fronts_by x y a b c d h (fronts a b c d u)

-- what begins a tree, begins one up to each of its tokens
pub begins_before : {S A : Type 0} (reads : Reading S) (Tree : List Located → A → Type 0) (a b c : List Located) (g : GoesOn a b c) → Begins reads Tree c → Begins reads Tree (a ++ g.next ∷ [])
begins_before reads Tree a b c g p = record {
  more = g.more ++ p.more;
  tree = p.tree;
  spells = subst (λ us. Tree us p.tree) (ap (λ z. z ++ p.more) g.whole_is ∙ append_assoc a (g.next ∷ g.more) p.more ∙ sym (append_assoc a (g.next ∷ []) (g.more ++ p.more))) p.spells;
}

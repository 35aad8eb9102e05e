-- Tokens of the same kinds and texts, wherever they stand.
use Rattle.std.specs.Prelude.{◌≡◌, ◌⊎◌, List, ◌∷◌, map, Ok, Err}
use Rattle.graphql_text.specs.declared.position.Span.{Span}
use Rattle.graphql_text.specs.declared.token.Token.{Token}
use Rattle.graphql_grammar.specs.Input.{Located, Outcome}

-- tokens without their places
abbrev pub tokens_of : List Located → List Token
tokens_of = map (λ (t : Located). t.item)

-- the same tokens one by one, wherever they stand
abbrev pub SameTokens : List Located → List Located → Type 0
SameTokens ts us = tokens_of ts ≡ tokens_of us

-- the places of two tokens of one index
abbrev pub Corresponding : List Located → List Located → Span → Span → Type 0
Corresponding (a ∷ ts) (b ∷ us) s u = ((s ≡ a.span) × (u ≡ b.span)) ⊎ (Corresponding ts us s u)
Corresponding _ _ s u = ⊥

-- Both read what a function sees as the same, with the same tokens left, or both find the same
-- fault.
abbrev pub SameOutcome : {A B : Type 0} → (A → B) → Outcome A → Outcome A → Type 0
SameOutcome see (Ok p) (Ok q) = (see p.0 ≡ see q.0) × (SameTokens p.1.ahead q.1.ahead)
SameOutcome see (Err e) (Err f) = e.item ≡ f.item
SameOutcome see _ _ = ⊥

-- What is kept, and what comes of keeping.
use Rattle.std.specs.Prelude.{◌≡◌, ◌⊎◌, ℕ, List, Some}
use Rattle.graphql_stores.specs.Texts.{stored_text}
use Rattle.graphql_stores.specs.declared.kept_texts.KeptTexts.{KeptTexts}

-- the text is kept under the key
abbrev pub IsKept : KeptTexts → List ℕ → List ℕ → Type 0
IsKept store key text =
    (stored_text store.younger key ≡ Some text) ⊎ (stored_text store.older key ≡ Some text)

-- no text is kept
abbrev pub KeepsNothing : KeptTexts → Type 0
KeepsNothing store = (key text : List ℕ) → IsKept store key text → ⊥

-- what is kept then was kept before, or is this text under its key
abbrev pub KeepsAtMost : KeptTexts → KeptTexts → List ℕ → List ℕ → Type 0
KeepsAtMost old new key text =
    (k t : List ℕ) → IsKept new k t → IsKept old k t ⊎ ((key ≡ k) × (text ≡ t))

-- what is kept then was kept before
abbrev pub KeepsNoMore : KeptTexts → KeptTexts → Type 0
KeepsNoMore old new = (k t : List ℕ) → IsKept new k t → IsKept old k t

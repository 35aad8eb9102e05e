-- What tokens spell wherever they stand.
use Rattle.std.specs.Prelude.{◌≡◌, List, [], ◌∷◌}
use Rattle.graphql_text.specs.declared.token.Token.{Token}
use Rattle.graphql_grammar.specs.Alike.{tokens_of}
use Rattle.graphql_grammar.specs.Input.{Located}
use Rattle.graphql_grammar.specs.Relations.{Rel}

-- wherever these tokens stand, they spell something that `see` sees as this
abbrev pub Again : {A B : Type 0} → Rel A → (A → B) → List Token → B → Type 0
Again {A} R see tokens x =
    (us : List Located) → tokens_of us ≡ tokens → (y : A) × R us y × (see y ≡ x)

-- each of a list, by its tokens and what is seen of it
abbrev pub EachAgain : {A B C : Type 0} → Rel A → (A → B) → (C → List Token) → (C → B) → List C
    → Type 0
EachAgain R see f g [] = Unit {0}
EachAgain R see f g (c ∷ cs) = Again R see (f c) (g c) × EachAgain R see f g cs

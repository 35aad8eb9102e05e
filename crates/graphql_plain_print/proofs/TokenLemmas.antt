-- Tokens behind spaces, one after another.
use Rattle.std.proofs.Common.{◌≡◌, sym, ◌∙◌, ap, List, ◌∷◌, ◌++◌, append_assoc}
use Rattle.std.specs.List.{flat_map}
use Rattle.std.proofs.lemmas.Grind.{flat_map-append}
use Rattle.graphql_names.specs.Names.{Bytes}
use Rattle.graphql_text.specs.declared.token.Token.{Token}
use Rattle.graphql_text.specs.Spelling.{source_of}
use Rattle.graphql_lexer.specs.declared.token_text.TokenText.{TokenText}
use Rattle.graphql_plain_text.specs.PlainTexts.{spaced}

-- source texts, each behind a space
abbrev pub texts_spaced : List TokenText → Bytes
texts_spaced = flat_map (λ t. 32 ∷ t.text)

pub spaced-append : (xs ys : List Token) → spaced (xs ++ ys) ≡ spaced xs ++ spaced ys
spaced-append xs ys = flat_map-append (λ x. 32 ∷ source_of x) xs ys

-- what is printed now, and what is owed then
pub printed : (b0 b1 : Bytes) (xs s : List Token) → b1 ≡ b0 ++ spaced xs → b1 ++ spaced s ≡ b0 ++ spaced (xs ++ s)
printed b0 b1 xs s p = ap (λ l. l ++ spaced s) p ∙ append_assoc b0 (spaced xs) (spaced s) ∙ ap (λ l. b0 ++ l) (sym (spaced-append xs s))

pub printed-first : (b0 b1 b2 : Bytes) (xs ys s1 s2 : List Token) → b1 ≡ b0 ++ spaced xs → b2 ++ spaced s2 ≡ b1 ++ spaced (ys ++ s1)
    → b2 ++ spaced s2 ≡ b0 ++ spaced ((xs ++ ys) ++ s1)
printed-first b0 b1 b2 xs ys s1 s2 p q = q ∙ printed b0 b1 xs (ys ++ s1) p ∙ ap (λ l. b0 ++ spaced l) (sym (append_assoc xs ys s1))

-- a head in two parts, marks and a set
pub printed-head : (b0 b1 b2 b3 : Bytes) (names args ms set s1 s2 : List Token) → b1 ≡ b0 ++ spaced (names ++ args) → b2 ≡ b1 ++ spaced ms
    → b3 ++ spaced s2 ≡ b2 ++ spaced (set ++ s1) → b3 ++ spaced s2 ≡ b0 ++ spaced ((names ++ (args ++ (ms ++ set))) ++ s1)
printed-head b0 b1 b2 b3 names args ms set s1 s2 p q r =
    printed-first b0 b1 b3 (names ++ args) (ms ++ set) s1 s2 p (printed-first b1 b2 b3 ms set s1 s2 q r)
    ∙ ap (λ l. b0 ++ spaced (l ++ s1)) (append_assoc names args (ms ++ set))

-- The tokens within a part of a text, with their source texts.
use Rattle.std.specs.Prelude.{◌≤◌, ℕ, nat_le, ◌&&◌, Bool, List, [], ◌∷◌, map}
use Rattle.std.specs.List.{filter}
use Rattle.graphql_text.specs.declared.position.Span.{Span}
use Rattle.graphql_lexer.specs.declared.token_text.TokenText.{TokenText}
use Rattle.graphql_text.specs.Spelling.{source_of}
use Rattle.graphql_text.specs.Tokens.{Located}

-- it stands within the part
abbrev pub is_within : Span → Located → Bool
is_within span t =
    nat_le span.start.index t.span.start.index && nat_le t.span.end.index span.end.index

-- the tokens that stand within the part
abbrev pub within : List Located → Span → List Located
within tokens span = filter (is_within span) tokens

-- a token with its source text: a string's with its quotes, and escapes as they are written
abbrev pub with_text : Located → TokenText
with_text t = record { token = t; text = source_of t.item }

-- the tokens within the part, with their source texts
abbrev pub texts_within : List Located → Span → List TokenText
texts_within tokens span = map with_text (within tokens span)

-- the tokens that end at an index or before it, with their source texts
abbrev pub texts_until : ℕ → List Located → List TokenText
texts_until end tokens = map with_text (filter (λ t. nat_le t.span.end.index end) tokens)

-- each begins where the one before it ends or behind, and the first no sooner than at an index
abbrev pub Rises : ℕ → List Located → Type 0
Rises from [] = Unit {0}
Rises from (t ∷ ts) = (from ≤ t.span.start.index)
    × (t.span.start.index ≤ t.span.end.index)
    × Rises t.span.end.index ts

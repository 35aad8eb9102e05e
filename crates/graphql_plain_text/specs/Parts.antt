-- A written text in parts: what is blank, and then the characters of a token (GraphQL October 2021,
-- 2.1 Source Text).
use Rattle.std.specs.Prelude.{◌≡◌, ◌||◌, ◌==◌, ℕ, false, List, [], ◌∷◌, ◌++◌}
use Rattle.graphql_text.specs.declared.position.Span.{Span}
use Rattle.graphql_text.specs.declared.token.Token.{Token}
use Rattle.graphql_text.specs.Position.{position_of}
use Rattle.graphql_text.specs.Tokens.{Located, is_end}
use Rattle.graphql_text.specs.Grammar.{Each, NextIsNot, Spells, Ends}
use Rattle.graphql_text.specs.Characters.{is_blank, continues_name}

abbrev pub AreBlank : List ℕ → Type 0
AreBlank cs = Each is_blank cs

-- nothing comes next that could make a name or a number longer: no letter, no digit, no underscore,
-- no point
abbrev pub IsClosed : List ℕ → Type 0
IsClosed cs = NextIsNot (λ c. continues_name c || c == 46) cs

pub record TextPart : Type 0 where
  -- what is blank in front of the token
  pub blanks : List ℕ
  pub token : Token
  -- the characters of the token
  pub own : List ℕ

-- the characters of parts, one behind another
abbrev pub parts_text : List TextPart → List ℕ
parts_text [] = []
parts_text (p ∷ ps) = p.blanks ++ (p.own ++ parts_text ps)

-- in front of these characters the part is its token: blanks, and characters that spell it and end
-- there
pub record IsTokenBefore (p : TextPart) (behind : List ℕ) : Type 0 where
  pub blank : AreBlank p.blanks
  pub spells : Spells p.token p.own
  pub ends : Ends p.token p.own behind
  pub goes_on : is_end p.token ≡ false

-- each of the parts is, in front of the next one, and the last in front of these characters
abbrev pub AllFit : List TextPart → List ℕ → Type 0
AllFit [] behind = Unit {0}
AllFit (p ∷ ps) behind = IsTokenBefore p (parts_text ps ++ behind) × AllFit ps behind

-- ---- the tokens of parts, at their places

-- the text up to behind a part, and that before it
abbrev pub up_to : List ℕ → TextPart → List ℕ
up_to before p = (before ++ p.blanks) ++ p.own

abbrev pub located_part : List ℕ → TextPart → Located
located_part before p = record {
  item = p.token;
  span = record { start = position_of (before ++ p.blanks); end = position_of (up_to before p) };
}

-- behind these characters
abbrev pub tokens_of : List ℕ → List TextPart → List Located
tokens_of before [] = []
tokens_of before (p ∷ ps) = located_part before p ∷ tokens_of (up_to before p) ps

-- the place of a text's end
abbrev pub end_of : List ℕ → Span
end_of text = record { start = position_of text; end = position_of text }

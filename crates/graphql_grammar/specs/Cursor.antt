-- What is read from, made of a text.
use Rattle.std.specs.Prelude.{◌≡◌, ℕ, false, if◌then◌else◌, List, [], ◌∷◌, ◌++◌}
use Rattle.graphql_text.specs.declared.token.Token.TheVariants.{EndOfFile}
use Rattle.graphql_text.specs.Position.{origin}
pub use Rattle.graphql_text.specs.Refusals.{IsLexical}
use Rattle.graphql_text.specs.Tokens.{is_end}
use Rattle.graphql_text.specs.Grammar.{IsDivided}
use Rattle.graphql_lexer.specs.Records.{Recorded}
use Rattle.graphql_grammar.specs.Kinds.{Kinds}
use Rattle.graphql_grammar.specs.Input.{Located, Input, next}
use Rattle.graphql_grammar.specs.Steps.{sees}

-- none of these tokens is the end of the text
abbrev pub NoEnd : List Located → Type 0
NoEnd [] = Unit {0}
NoEnd (x ∷ xs) = (is_end x.item ≡ false) × NoEnd xs

-- the start of a text: all its tokens are ahead, and then its end
pub record IsStart (text : List ℕ) (i : Input) : Type 0 where
  pub divided : IsDivided text (i.ahead ++ record { item = EndOfFile; span = i.finish } ∷ [])
  pub no_end : NoEnd i.ahead
  pub end : i.end ≡ origin

-- what is read from at the start of a text, by the records of its tokens
abbrev pub start_of : Recorded → Input
start_of r = record { ahead = r.tokens; finish = r.finish; end = origin }

-- behind the next token where it is one of these kinds
unfoldable pub after : Kinds → Input → Input
after kinds i = if sees kinds i then next i else i

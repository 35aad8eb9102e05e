-- The source text of a token (GraphQL October 2021, 2.1.6 Lexical Tokens).
use Rattle.std.specs.Prelude.{ℕ, List, [], ◌++◌, codes}
use Rattle.graphql_text.specs.declared.token.Token.{Token}
use Rattle.graphql_text.specs.declared.token.Token.TheVariants.{Name, Scalar, ExclamationMark}
use Rattle.graphql_text.specs.declared.token.Token.TheVariants.{Dollar, ParenOpen, ParenClose}
use Rattle.graphql_text.specs.declared.token.Token.TheVariants.{BracketOpen, BracketClose}
use Rattle.graphql_text.specs.declared.token.Token.TheVariants.{CurlyOpen, CurlyClose, Ellipsis}
use Rattle.graphql_text.specs.declared.token.Token.TheVariants.{Colon, Equals, At, Pipe, EndOfFile}
use Rattle.graphql_text.specs.declared.token.ScalarToken.{ScalarToken}
use Rattle.graphql_text.specs.declared.token.ScalarToken.TheVariants.{String, Float, Int}

-- a string's text stands between quotes, its escapes as they are written
abbrev pub scalar_source : ScalarToken → List ℕ
scalar_source (String text) = codes "\"" ++ text ++ codes "\""
scalar_source (Float text) = text
scalar_source (Int text) = text

-- the end has no characters
abbrev pub source_of : Token → List ℕ
source_of (Name text) = text
source_of (Scalar scalar) = scalar_source scalar
source_of ExclamationMark = codes "!"
source_of Dollar = codes "$"
source_of ParenOpen = codes "("
source_of ParenClose = codes ")"
source_of BracketOpen = codes "["
source_of BracketClose = codes "]"
source_of CurlyOpen = codes "{"
source_of CurlyClose = codes "}"
source_of Ellipsis = codes "..."
source_of Colon = codes ":"
source_of Equals = codes "="
source_of At = codes "@"
source_of Pipe = codes "|"
source_of EndOfFile = []

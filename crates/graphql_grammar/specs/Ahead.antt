-- What stands ahead of a parser, and how much of it a production sees.
use Rattle.std.specs.Prelude.{◌≡◌, List, [], ◌∷◌, true, false}
use Rattle.graphql_text.specs.declared.position.Span.{Span}
use Rattle.graphql_text.specs.declared.position.SourcePosition.{SourcePosition}
use Rattle.graphql_grammar.specs.declared.kind.Kind.{Kind}
use Rattle.graphql_grammar.specs.declared.kind.Kind.TheVariants as k
use Rattle.graphql_grammar.specs.Kinds.{Kinds, kind}
use Rattle.graphql_grammar.specs.Input.{Input, Located, Fault, first, unexpected}

-- an input of these tokens, the end of its text, and where what was read ends
abbrev pub mk : List Located → Span → SourcePosition → Input
mk xs f e = record { ahead = xs; finish = f; end = e }

-- which kind of token stands next
abbrev pub kind_ahead : List Located → Kind
kind_ahead [] = k.EndOfFile
kind_ahead (a ∷ xs) = kind a.item

-- a token of these kinds stands next
abbrev pub In : Kinds → List Located → Type 0
In kinds xs = kinds (kind_ahead xs) ≡ true

-- no token of these kinds stands next
abbrev pub Free : Kinds → List Located → Type 0
Free kinds xs = kinds (kind_ahead xs) ≡ false

-- what stands next is of one kind
abbrev pub Like : List Located → List Located → Type 0
Like xs ys = kind_ahead xs ≡ kind_ahead ys

-- the fault of the next token
abbrev pub refused_at : Span → List Located → Fault
refused_at f xs = record { item = unexpected (first f xs).item; span = (first f xs).span }

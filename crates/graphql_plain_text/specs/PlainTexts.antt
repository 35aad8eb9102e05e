-- The text of a plain operation: its tokens in the spelling of a source, parted by single spaces
-- (GraphQL October 2021, 2.1 Source Text).
use Rattle.std.specs.Prelude.{List, [], ◌∷◌, ◌++◌}
use Rattle.std.specs.List.{flat_map}
use Rattle.graphql_names.specs.Names.{Bytes}
use Rattle.graphql_text.specs.declared.token.Token.{Token}
use Rattle.graphql_text.specs.Spelling.{source_of}
use Rattle.graphql_grammar.specs.Input.{Located}
use Rattle.graphql_plain_tree.specs.PlainOperations.{PlainOperation}
use Rattle.graphql_plain_text.specs.SpanTokens.{tokens_within}
use Rattle.graphql_plain_text.specs.TreeTokens.{operation_tokens}

-- each token behind a space
abbrev pub spaced : List Token → Bytes
spaced = flat_map (λ x. 32 ∷ source_of x)

-- parted by single spaces
abbrev pub parted_text : List Token → Bytes
parted_text [] = []
parted_text (x ∷ xs) = source_of x ++ spaced xs

-- `tokens`: those of the source, whose values and types are the operation's
abbrev pub plain_text : {S : Type 0} → List Located → PlainOperation S → Bytes
plain_text tokens p = parted_text (operation_tokens (tokens_within tokens) p)

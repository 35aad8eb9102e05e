use Rattle.std.proofs.Common.{◌≡◌, ◌++◌, take}
use Rattle.std.specs.List.{flat_map}
use Rattle.std.specs.String.{string_bytes}
use Rattle.graphql_plain_tree.specs.PlainOperations.{definitions_used}
use Rattle.graphql_plain_text.specs.PlainTexts.{spaced}
use Rattle.graphql_plain_text.specs.SpanTokens.{tokens_within}
use Rattle.graphql_plain_text.specs.TreeTokens.{variable_tokens}
use Rattle.graphql_plain_print.proofs.variables.push_definitions.Given as goal

abbrev pub invariant-loop-definition : goal.invariant-loop-definition
invariant-loop-definition g l =
    string_bytes l.text
    ≡ string_bytes l.initial.text ++ spaced (flat_map (variable_tokens (tokens_within l.tokens.tokens)) (definitions_used l.used.keys (take l.definition-index l.definitions)))

use Rattle.std.proofs.Common.{◌≡◌, ◌++◌}
use Rattle.std.specs.String.{string_bytes}
use Rattle.graphql_plain_print.proofs.TokenLemmas.{texts_spaced}
use Rattle.graphql_plain_print.proofs.words.push_within.Given as goal

abbrev pub invariant-loop-found : goal.invariant-loop-found
invariant-loop-found l = string_bytes l.text ++ texts_spaced l.found-iterator ≡ string_bytes l.initial.text ++ texts_spaced l.initial.found-iterator

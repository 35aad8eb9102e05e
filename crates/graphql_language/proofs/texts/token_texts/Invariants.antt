use Rattle.std.proofs.Common.{◌≡◌, ◌++◌}
use Rattle.graphql_language.proofs.texts.token_texts.Given as goal

abbrev pub invariant-loop-text : goal.invariant-loop-text
invariant-loop-text l = l.found ++ l.text-iterator ≡ l.initial.text-iterator

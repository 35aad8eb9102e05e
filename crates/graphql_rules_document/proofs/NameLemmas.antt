-- The names of variables, as what mentions them.
use Rattle.std.proofs.Common.{◌≡◌, List, map, sym}
use Rattle.std.proofs.lemmas.Simd.{map-map}
use Rattle.graphql_text.specs.declared.position.Span.{Span}
use Rattle.graphql_text.specs.declared.spanning.Spanning.{Spanning}
use Rattle.graphql_names.specs.Names.{Bytes}
use Rattle.graphql_tree.specs.declared.variable.VariableDefinition.{VariableDefinition}
use Rattle.graphql_occurrences.specs.Occurrences.{variable_part}
use Rattle.graphql_rule_errors.specs.Repeats.{mention}
use Rattle.graphql_rules_document.specs.UniqueVariableNames.{variable_mention}

pub variables_mentioned : {S : Type 0} → (defined : List (Spanning Bytes Span × VariableDefinition S)) → map (λ v. mention v.0) defined ≡ map variable_mention (map variable_part defined)
variables_mentioned defined = sym (map-map variable_mention variable_part defined)

-- The text of a rule's error.
use Rattle.std.specs.Prelude.{ℕ, List, ◌∷◌, ◌++◌, codes}
use Rattle.std.specs.List.{join_by}
use Rattle.std.specs.Fmt.{decimal}
use Rattle.graphql_text.specs.declared.position.SourcePosition.{SourcePosition}
use Rattle.graphql_rule_errors.specs.declared.rule_error.RuleError.{RuleError}

-- the line, a colon and the column, each from zero
abbrev pub place_text : SourcePosition → List ℕ
place_text p = decimal p.line ++ 58 ∷ decimal p.column

abbrev pub rule_error_text : RuleError → List ℕ
rule_error_text error =
    error.message ++ (codes ". At " ++ join_by place_text (codes ", ") error.locations)

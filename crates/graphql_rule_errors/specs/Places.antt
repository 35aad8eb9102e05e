-- The places that errors name.
use Rattle.std.specs.Prelude.{◌≡◌, List, [], ◌∷◌, ◌++◌, Bool, length, map, take, if◌then◌else◌}
use Rattle.graphql_text.specs.declared.position.SourcePosition.{SourcePosition}
use Rattle.graphql_rule_errors.specs.declared.rule_error.RuleError.{RuleError}

-- of each error, in order, the places that it names
abbrev pub Places : Type 0
Places = List (List SourcePosition)

-- of each error, in order, the places that it names
abbrev pub places : List RuleError → Places
places errors = map (λ e. e.locations) errors

-- an error at these places, where something is wrong
abbrev pub error_if : Bool → List SourcePosition → Places
error_if wrong at = if wrong then at ∷ [] else []

-- the errors before stay as they are, and errors at these places come behind them
pub record Reports (told : Places) (old new : List RuleError) : Type 0 where
  pub kept : take (length old) new ≡ old
  pub at : places new ≡ places old ++ told

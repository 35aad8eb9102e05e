-- Two fields that do not agree, as they are told (GraphQL October 2021, 5.3.2 Field Selection
-- Merging).
use Rattle.std.specs.Prelude.{◌≡◌, ℕ, ◌≤◌, List, [], ◌∷◌, ◌++◌, map}
use Rattle.std.specs.List.{Contains}
use Rattle.graphql_text.specs.declared.position.SourcePosition.{SourcePosition}
use Rattle.graphql_rule_errors.specs.Places.{Places}
use Rattle.graphql_rule_errors.specs.declared.rule_error.RuleError.{RuleError}
use Rattle.graphql_merging.specs.declared.difference.Difference.{Difference}
use Rattle.graphql_merging.specs.declared.difference.Difference.TheVariants as difference
use Rattle.graphql_bundles.specs.declared.conflict.Conflict.{Conflict}

-- of each conflict, in order, the places that it names
abbrev pub places : List Conflict → Places
places conflicts = map (λ c. c.locations) conflicts

-- the error that says it
abbrev pub error_of : Conflict → RuleError
error_of c = record { locations = c.locations; message = c.message }

-- how many reasons are asked before one
abbrev pub before : Difference → ℕ
before difference.Names = 0
before difference.Arguments = 1
before difference.Types = 2

-- of the conflicts that name the places of one of them none has an earlier reason
abbrev pub HasFirstReason : List Conflict → Conflict → Type 0
HasFirstReason found c =
    Contains found c
    × ((other : Conflict) → Contains found other → other.locations ≡ c.locations
    → before c.reason ≤ before other.reason)

-- a conflict at these places, for such a reason, comes behind those before, which stay as they are
pub record AddsConflict (named : List SourcePosition) (Why : Difference → Type 0)
    (old new : List Conflict) : Type 0 where
  pub conflict : Conflict
  pub behind : new ≡ old ++ conflict ∷ []
  pub why : Why conflict.reason
  pub at : places new ≡ places old ++ named ∷ []

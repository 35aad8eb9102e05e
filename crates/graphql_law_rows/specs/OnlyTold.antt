-- What may be told, and nothing else.
use Rattle.std.specs.Prelude.{◌≡◌}
use Rattle.graphql_rule_errors.specs.Places.{Places}

-- these places may be told, and no others
pub record IsOnlyTold (MayTell : Places → Type 0) (told : Places) : Type 0 where
  pub is : MayTell told
  pub alone : (other : Places) → MayTell other → other ≡ told

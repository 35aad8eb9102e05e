-- Plain selection sets: what is left out is away, and no directives are there but those of
-- stand-ins (GraphQL October 2021, 2.4 Selection Sets, 2.12 Directives, 3.13 Directives).
use Rattle.std.specs.Prelude.{ℕ, ◌+◌, Bool, true, false, ◌&&◌, [], if◌then◌else◌}
use Rattle.graphql_written_out.specs.Trees.{Directives, Tree, none, field, inline}

-- how many fields and inline fragments there are
abbrev pub size : {S : Type 0} → Tree S → ℕ
size none = 0
size (field head directives below rest) = 1 + size below + size rest
size (inline on directives below rest) = 1 + size below + size rest

-- `drops`: which directives leave a selection out
module _ {S : Type 0} (drops : Directives S → Bool) where
  -- every selection of the set is left out
  abbrev pub drops_all : Tree S → Bool
  drops_all none = true
  drops_all (field head directives below rest) = drops directives && drops_all rest
  drops_all (inline on directives below rest) = drops directives && drops_all rest

-- `stand_in`: the directives of a selection that stands for a set of which all are left out
module _ {S : Type 0} (drops : Directives S → Bool) (stand_in : Directives S) where
  -- by whether all are left out: if so the first alone; else those that are kept; each with a plain
  -- set
  abbrev pub plain_set : Bool → Tree S → Tree S
  plain_set all_out none = none
  plain_set true (field head directives below rest) =
      field head stand_in (plain_set (drops_all drops below) below) none
  plain_set false (field head directives below rest) =
      if drops directives then plain_set false rest
      else field head [] (plain_set (drops_all drops below) below) (plain_set false rest)
  plain_set true (inline on directives below rest) =
      inline on stand_in (plain_set (drops_all drops below) below) none
  plain_set false (inline on directives below rest) =
      if drops directives then plain_set false rest
      else inline on [] (plain_set (drops_all drops below) below) (plain_set false rest)

  -- the plain set of a set
  abbrev pub plain : Tree S → Tree S
  plain set = plain_set (drops_all drops set) set

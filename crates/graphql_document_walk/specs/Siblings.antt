-- How many siblings stand in a part of a document.
use Rattle.std.specs.Prelude.{ℕ, length}
use Rattle.graphql_document_walk.specs.declared.walk.tasks.Part.{Part}
use Rattle.graphql_document_walk.specs.declared.walk.tasks.Part.TheVariants as part

module _ {S : Type 0} where
  -- a document, a set and a value stand alone
  abbrev pub siblings_in : Part S → ℕ
  siblings_in (part.Document ds) = 1
  siblings_in (part.Definitions ds) = length ds.now
  siblings_in (part.Variables vs) = length vs.now
  siblings_in (part.Directives place ds) = length ds.now
  siblings_in (part.Arguments owner declared xs) = length xs.now
  siblings_in (part.Set xs) = 1
  siblings_in (part.Selections xs) = length xs.now
  siblings_in (part.Value x) = 1
  siblings_in (part.Items xs) = length xs.now
  siblings_in (part.Pairs ps) = length ps.now

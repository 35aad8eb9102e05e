use Rattle.std.proofs.Common.{length}
use Rattle.graphql_stores.proofs.ReadLines.{ReadSoFar}
use Rattle.graphql_stores.proofs.allowed_queries.AllowedQueries.read.Given as goal

abbrev pub invariant-lines : goal.invariant-lines
invariant-lines l = ReadSoFar l.file l.rest l.before l.store

abbrev pub decreases-lines : goal.decreases-lines
decreases-lines l = length l.rest

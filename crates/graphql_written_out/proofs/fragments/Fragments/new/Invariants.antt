use Rattle.std.proofs.Common.{◌≡◌, ℕ, List, take}
use Rattle.std.specs.HashMap.{get_by}
use Rattle.std.specs.Str.{bytes_eq}
use Rattle.graphql_written_out.specs.FragmentNumbers.{fragment_number}
use Rattle.graphql_written_out.proofs.fragments.Fragments.new.Given as goal

-- the fragments so far
abbrev pub invariant-definitions : goal.invariant-definitions
invariant-definitions g l = (name : List ℕ) → get_by (λ k. bytes_eq name k.now) l.numbers ≡ fragment_number (take l.number l.document) name

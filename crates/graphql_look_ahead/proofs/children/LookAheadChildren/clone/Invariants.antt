use Rattle.std.proofs.Common.{◌≡◌, take}
use Rattle.graphql_look_ahead.proofs.children.LookAheadChildren.clone.Given as goal

-- those so far
abbrev pub invariant-loop-child : goal.invariant-loop-child
invariant-loop-child g l = l.children ≡ take l.child-index l.self.children

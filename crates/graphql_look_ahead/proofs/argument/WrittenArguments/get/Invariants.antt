use Rattle.std.proofs.Common.{◌≡◌, drop, map}
use Rattle.graphql_look_ahead.specs.Values.{argument_named, argument_seen}
use Rattle.graphql_look_ahead.proofs.argument.WrittenArguments.get.Given as goal

abbrev pub invariant-loop-written : goal.invariant-loop-written
invariant-loop-written g l =
    argument_named (map (argument_seen l.self.variables.now) l.written-items) l.name
    ≡ argument_named (map (argument_seen l.self.variables.now) (drop l.written-index l.written-items)) l.name

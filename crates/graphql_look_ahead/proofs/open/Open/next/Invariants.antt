use Rattle.std.proofs.Common.{◌≡◌, ◌-◌, length}
use Rattle.graphql_collected.specs.Requests.{drops_in, fragments_in}
use Rattle.graphql_look_ahead.specs.Open.{Skips, rest_of}
use Rattle.graphql_look_ahead.proofs.open.Open.next.Given as goal

abbrev pub invariant-rest : goal.invariant-rest
invariant-rest g l = record {
  skips : Skips (drops_in g.S.ScalarValue.answer l.request) (fragments_in l.request) (rest_of l.initial.self) (rest_of l.self);
  among : l.self.among ≡ l.initial.self.among;
  applies : l.self.applies ≡ l.initial.self.applies;
}

abbrev pub decreases-rest : goal.decreases-rest
decreases-rest g l = length l.self.among.now - l.self.next

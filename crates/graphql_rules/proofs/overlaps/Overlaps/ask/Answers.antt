use Rattle.graphql_schema.specs.Declarations.{declarations_of}
use Rattle.graphql_rules.proofs.OverlapLemmas.{right_after}
use Rattle.graphql_rules.proofs.overlaps.Overlaps.ask.Goals as goal

pub invariant_of-self : goal.invariant_of-self
invariant_of-self g c = record {
  right = right_after (declarations_of c.args.self.now.schema.now) (c.args.parent, c.args.condition) c.are_apart-answer.result c.args.self.now.answers c.insert.new.self c.insert.result
      c.args.self.now.right c.are_apart-answer.ensures c.insert.ensures.updates c.insert.ensures.err;
}

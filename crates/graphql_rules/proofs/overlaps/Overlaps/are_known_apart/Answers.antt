use Rattle.std.proofs.Common.{sym, ap, ◌∙◌}
use Rattle.std.specs.Option.{option_copied}
use Rattle.graphql_rules.proofs.overlaps.Overlaps.are_known_apart.Goals as goal

pub returns-in-Some-clause-answer : goal.returns-in-Some-clause-answer
returns-in-Some-clause-answer g c = c.args.self.now.right (c.args.parent, c.args.condition) c.in-Some.answer.now (sym c.get.ensures.value ∙ ap option_copied c.in-Some.is)

use Rattle.graphql_schema.proofs.BrokenPromises.{none_where_executable, told_is_first}
use Rattle.graphql_schema.proofs.schema.SchemaType.broken_promise.Goals as goal

pub returns-clause-executable : goal.returns-clause-executable
returns-clause-executable g c = none_where_executable c.args.self.now.types _ c.first_broken.result c.args.self.now.faultless c.first_broken.ensures

pub returns-clause-first : goal.returns-clause-first
returns-clause-first g c = told_is_first c.args.self.now.types c.first_broken.result c.first_broken.ensures

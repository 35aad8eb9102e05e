use Rattle.graphql_text.specs.declared.token.Token.TheVariants.{BracketOpen, BracketClose}
use Rattle.graphql_tests.proofs.SpelledNames.{names_spelled, names_leave}
use Rattle.graphql_tests.proofs.language.parsers.names_read.Goals as goal

pub returns-clause-spelled : goal.returns-clause-spelled
returns-clause-spelled g c = names_spelled g.F.Fn c.args.name c.requires.reads BracketOpen BracketClose _ _ c.lists_are_spelled.ensures.any _ c.delimited_list.ensures.list

pub returns-clause-leaves : goal.returns-clause-leaves
returns-clause-leaves g c = names_leave g.F.Fn c.args.name c.requires.reads BracketOpen BracketClose _ _ c.lists_leave_the_rest.ensures.any c.requires.fresh _ c.delimited_list.ensures.list

use Rattle.graphql_language.proofs.SpelledLists as laws
use Rattle.graphql_language.proofs.parser_laws.lists_are_spelled.Goals as goal

pub returns-clause-any : goal.returns-clause-any
returns-clause-any g c = laws.lists_are_spelled g.F.Fn g.P.Production.spells

pub returns-clause-some : goal.returns-clause-some
returns-clause-some g c = laws.some_lists_are_spelled g.F.Fn g.P.Production.spells

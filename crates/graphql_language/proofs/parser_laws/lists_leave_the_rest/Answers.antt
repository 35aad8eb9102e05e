use Rattle.graphql_language.proofs.Leaves as laws
use Rattle.graphql_language.proofs.parser_laws.lists_leave_the_rest.Goals as goal

pub returns-clause-any : goal.returns-clause-any
returns-clause-any g c = laws.lists_leave_rest g.F.Fn

pub returns-clause-some : goal.returns-clause-some
returns-clause-some g c = laws.some_lists_leave_rest g.F.Fn

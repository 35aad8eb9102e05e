use Rattle.graphql_language.proofs.LiteralLaws as laws
use Rattle.graphql_language.proofs.parser_laws.type_or_refused.Goals as goal

pub returns-clause-one : goal.returns-clause-one
returns-clause-one c = laws.type_or_refused

pub returns-clause-never_both : goal.returns-clause-never_both
returns-clause-never_both c = laws.type_never_both

pub returns-clause-one_fault : goal.returns-clause-one_fault
returns-clause-one_fault c = laws.type_one_fault

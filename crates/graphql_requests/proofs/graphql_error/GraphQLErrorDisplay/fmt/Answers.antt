use Rattle.std.proofs.Common.{ap, sym}
use Rattle.std.proofs.Output.{has_written_of_eq}
use Rattle.graphql_requests.specs.ErrorTexts.{error_text}
use Rattle.graphql_requests.proofs.graphql_error.GraphQLErrorDisplay.fmt.Goals as goal

pub returns-in-UnknownOperationName-clause-writes : goal.returns-in-UnknownOperationName-clause-writes
returns-in-UnknownOperationName-clause-writes g c = λ plain ok.
    has_written_of_eq _ _ _ _ _ (ap error_text (sym c.in-UnknownOperationName.is)) (c.write_str-in-UnknownOperationName.ensures.writes plain ok)

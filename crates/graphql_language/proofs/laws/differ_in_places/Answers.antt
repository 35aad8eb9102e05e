use Rattle.graphql_language.proofs.AlikeTexts.{differ_in_places, refused_alike}
use Rattle.graphql_language.proofs.laws.differ_in_places.Goals as goal

pub returns-clause-documents : goal.returns-clause-documents
returns-clause-documents g c = differ_in_places g.S.ParseScalarValue.reads g.S.ScalarValue.of_bool

pub returns-clause-faults : goal.returns-clause-faults
returns-clause-faults g c = refused_alike g.S.ParseScalarValue.reads g.S.ScalarValue.of_bool

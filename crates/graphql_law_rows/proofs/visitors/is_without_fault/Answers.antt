use Rattle.graphql_schema.specs.Declarations.{declarations_of}
use Rattle.graphql_visitors.specs.Subjects.{Subject}
use Rattle.graphql_law_rows.proofs.visitors.is_without_fault.Goals as goal

pub returns : goal.returns
returns g c = λ yes.
    let subject : Subject g.row.S.Denot g.row.S-Check.Denot = record { schema = declarations_of c.args.schema.now; document = c.args.document.now } in
    c.documents_without_a_fault_are_well_formed.ensures subject (c.in_ok-errors.ensures.none.0 (c.is_empty.ensures.0 yes))

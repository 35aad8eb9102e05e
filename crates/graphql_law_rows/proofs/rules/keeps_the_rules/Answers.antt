use Rattle.graphql_schema.specs.Declarations.{declarations_of}
use Rattle.graphql_validation.specs.FirstStage.{parts}
use Rattle.graphql_visitors.specs.Subjects.{Subject}
use Rattle.graphql_law_rows.specs.KeptRules.{fragments}
use Rattle.graphql_law_rows.proofs.rules.keeps_the_rules.Goals as goal

pub returns-clause-rules : goal.returns-clause-rules
returns-clause-rules g c =
    let subject : Subject g.row.S.Denot g.row.S-Check.Denot = record { schema = declarations_of c.args.schema.now; document = c.args.document.now } in
    let faultless = c.faultless_documents_keep_the_rules.ensures subject in (
      λ yes. faultless.0 (c.in_ok-errors.ensures.none.0 (c.is_empty.ensures.0 yes)),
      λ keeps. c.is_empty.ensures.1 (c.in_ok-errors.ensures.none.1 (faultless.1 keeps)),
    )

pub returns-clause-ranked : goal.returns-clause-ranked
returns-clause-ranked g c = λ yes.
    let subject : Subject g.row.S.Denot g.row.S-Check.Denot = record { schema = declarations_of c.args.schema.now; document = c.args.document.now } in
    let no_fault = c.in_ok-errors.ensures.none.0 (c.is_empty.ensures.0 yes) in
    (c.fragments_without_cycles_are_ranked.ensures (fragments subject)).0 no_fault.in_scopes.no_fragment_cycles

pub returns-clause-end : goal.returns-clause-end
returns-clause-end g c = λ yes.
    let subject : Subject g.row.S.Denot g.row.S-Check.Denot = record { schema = declarations_of c.args.schema.now; document = c.args.document.now } in
    let no_fault = c.in_ok-errors.ensures.none.0 (c.is_empty.ensures.0 yes) in
    (c.fragments_without_cycles_end.ensures (fragments subject)).0 no_fault.in_scopes.no_fragment_cycles

pub returns-clause-fields : goal.returns-clause-fields
returns-clause-fields g c = λ yes.
    let subject : Subject g.row.S.Denot g.row.S-Check.Denot = record { schema = declarations_of c.args.schema.now; document = c.args.document.now } in
    let no_fault = c.in_ok-errors.ensures.none.0 (c.is_empty.ensures.0 yes) in
    (c.fields_are_declared_and_fit.ensures subject (parts subject)).0 (no_fault.fields_on_correct_type, no_fault.scalar_leafs)

pub returns-clause-types : goal.returns-clause-types
returns-clause-types g c = λ yes.
    let subject : Subject g.row.S.Denot g.row.S-Check.Denot = record { schema = declarations_of c.args.schema.now; document = c.args.document.now } in
    let no_fault = c.in_ok-errors.ensures.none.0 (c.is_empty.ensures.0 yes) in
    (c.named_types_are_of_their_kinds.ensures subject (parts subject)).0 (no_fault.known_type_names, no_fault.variables_are_input_types, no_fault.fragments_on_composite_types)

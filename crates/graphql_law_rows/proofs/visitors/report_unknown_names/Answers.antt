use Rattle.std.proofs.Common.{◌++◌}
use Rattle.std.specs.Prelude.{IsPermutation}
use Rattle.graphql_occurrences.specs.Events.{events}
use Rattle.graphql_rules.specs.FieldsOnCorrectType.{fields_on_correct_type_faults}
use Rattle.graphql_rules.specs.KnownFragmentNames.{known_fragment_names_faults}
use Rattle.graphql_validation.proofs.WalkLemmas.{reports_visited}
use Rattle.graphql_validation.specs.FirstStage.{places_of}
use Rattle.graphql_visitors.specs.Rules.{both_steps, local, silent}
use Rattle.graphql_visitors.specs.Runs.{joined}
use Rattle.graphql_visitors.specs.Subjects.{subject_of}
use Rattle.graphql_law_rows.proofs.Told.{two_told}
use Rattle.graphql_law_rows.proofs.visitors.report_unknown_names.Goals as goal

pub returns : goal.returns
returns g c =
    let subject = subject_of c.args.context.now in
    let document_events = events subject.schema subject.document in
    let fields = places_of subject fields_on_correct_type_faults in
    let fragments = places_of subject known_fragment_names_faults in
    let v = c.with-rules.result in
    let w = c.visit.new.visitor in
    reports_visited (both_steps (local fields_on_correct_type_faults) (both_steps (local known_fragment_names_faults) silent)) (IsPermutation (fields ++ fragments))
    document_events v w c.args.context.now c.visit.new.context c.visit.ensures.visited c.visit.ensures.around
    (λ ts runs.
    let split = c.one_pass_is_separate_passes-2.ensures subject v w document_events ts runs in
    let behind = c.one_pass_is_separate_passes.ensures subject v.second w.second document_events split.1 split.3 in
    two_told fields fragments (joined split.0) (joined behind.0) (joined behind.1) (joined split.1) (joined ts)
    (c.local_rules_tell_of_occurrences.ensures subject v.first w.first split.0 split.2)
    (c.local_rules_tell_of_occurrences-2.ensures subject v.second.first w.second.first behind.0 behind.2)
    (c.no_visitor_tells_nothing.ensures subject v.second.second w.second.second document_events behind.1 behind.3)
    behind.4 split.4)

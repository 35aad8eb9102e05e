use Rattle.std.proofs.Common.{sym, subst}
use Rattle.graphql_occurrences.specs.PartsOf.{parts_of}
use Rattle.graphql_visitors.specs.Reports.{Reports}
use Rattle.graphql_visitors.specs.Subjects.{seen_in, subject_of}
use Rattle.graphql_rules.specs.Givens.{given_of}
use Rattle.graphql_rules.specs.ProvidedNonNullArguments.{missing_in}
use Rattle.graphql_rules.proofs.GivenLemmas.{told_some}
use Rattle.graphql_rules.proofs.provided_non_null_arguments.ProvidedNonNullArgumentsLocalRule.tell.Goals as goal

pub returns-in-Some : goal.returns-in-Some
returns-in-Some g c =
    let context = c.args.context.now in
    subst (λ told. Reports told context c.report_given.new.context)
    (sym (told_some missing_in (subject_of context) (parts_of (seen_in context c.args.event.now)) (given_of c.in-Some.given) c.in-Some.ensures)) c.report_given.ensures

use Rattle.std.proofs.Common.{ap, sym, ◌∙◌}
use Rattle.std.specs.List.{list_any}
use Rattle.graphql_records.specs.Fields.{has_link}
use Rattle.graphql_records.proofs.ValueEquations.{has_link_list}
use Rattle.graphql_records.proofs.value_answers.+has_link.Goals as goal

pub has_link-returns-in-List : goal.has_link-returns-in-List
has_link-returns-in-List t c =
    c.have_link.ensures ∙ ap (list_any (has_link c.args.id.now)) c.as_slice.ensures ∙ sym (has_link_list c.args.id.now c.args.value.now c.in-List.values c.in-List.is)

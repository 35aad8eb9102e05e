use Rattle.std.proofs.Common.{sym, ap, ◌∙◌}
use Rattle.graphql_occurrences.specs.Occurrences.{occurrences}
use Rattle.graphql_schema.specs.Declarations.{declarations_of}
use Rattle.graphql_law_rows.specs.SampleTexts.{tree}
use Rattle.graphql_law_rows.proofs.documents.one_line_has_the_same_parts.Goals as goal

pub returns : goal.returns
returns g c =
    let schema = declarations_of c.args.schema.now in
    let again = c.one_line_is_the_same_document.ensures in (
      again.0,
      again.1,
      sym (c.occurrences_without_places.ensures schema again.0) ∙ ap (occurrences schema) again.2
          ∙ c.occurrences_without_places.ensures schema tree,
    )

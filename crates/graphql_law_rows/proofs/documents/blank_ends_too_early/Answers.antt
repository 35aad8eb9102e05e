use Rattle.std.proofs.Common.{refl}
use Rattle.graphql_law_rows.specs.SampleTexts.{blank, fault, nothing}
use Rattle.graphql_law_rows.specs.SampleTokens.{at}
use Rattle.graphql_law_rows.proofs.SampleTexts.{blank_is_read, nothing_is_read, only_end}
use Rattle.graphql_law_rows.proofs.documents.blank_ends_too_early.Goals as goal

pub returns : goal.returns
returns g c =
    let again = c.differ_in_places.ensures.faults nothing blank
    (record {
      tokens = only_end (at 0 0 0);
      others = only_end (at 1 0 1);
      divided = (c.reading_is_division.ensures nothing (only_end (at 0 0 0))).0 nothing_is_read;
      divided_other = (c.reading_is_division.ensures blank (only_end (at 1 0 1))).0 blank_is_read;
      same = refl;
    })
    fault c.nothing_ends_too_early.ensures.refused in
    (again.0, again.1, again.2)

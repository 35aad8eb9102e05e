-- A query with a fragment, and its plain document.
use Rattle.std.proofs.Common.{refl, sym, subst, lit<, List, [], ◌∷◌}
use Rattle.graphql_scalars.specs.ScalarAnswers.{boolean}
use Rattle.graphql_values.specs.InputValues.{unplaced}
use Rattle.graphql_tree.specs.declared.document.Definition.{Definition}
use Rattle.graphql_tree.specs.declared.document.Definition.TheVariants as definition
use Rattle.graphql_written_out.specs.Trees.{IsFilled}
use Rattle.graphql_plain_tree.specs.PlainDocuments.{document_of}
use Rattle.graphql_plain_tree.specs.PlainOperations.{plain_operation}
use Rattle.graphql_plain_tree.proofs.Rows.{Scalar, Values, fragment, itself, of_fragment, spread_is_written, spreading_query}
use Rattle.graphql_plain_validity.specs.PlainRequests.{IsPlainDocument}

-- `{ hero { ...F friend { name } } } fragment F on Human { id friend { id } }`
abbrev pub document : List (Definition Scalar)
document =
    definition.Operation (unplaced spreading_query) ∷ definition.Fragment (unplaced fragment) ∷ []

it_is_filled : IsFilled of_fragment
it_is_filled =
    (refl, (refl, (refl, tt, (refl, (refl, tt, tt), tt)), (refl, (refl, tt, tt), tt)), tt)

-- `{ hero { ... on Human { id friend { id } } friend { name } } }`
pub it_has_a_plain_document : (given : Values)
    → IsPlainDocument itself boolean document (document_of (plain_operation itself boolean given (fragment ∷ []) spreading_query))
it_has_a_plain_document given = record {
  operation = unplaced spreading_query;
  among = (0, lit< tt, refl);
  filled = subst IsFilled (sym spread_is_written) it_is_filled;
  given = given;
  same = refl;
}

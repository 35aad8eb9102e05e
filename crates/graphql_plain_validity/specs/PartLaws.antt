-- Laws of the parts of plain documents (GraphQL October 2021, 5 Validation).
use Rattle.std.specs.Prelude.{Bool, List}
use Rattle.std.specs.List.{Contains}
use Rattle.graphql_scalars.specs.ScalarAnswers.{ScalarAnswer}
use Rattle.graphql_values.specs.InputValues.{Placed}
use Rattle.graphql_tree.specs.declared.document.Definition.{Definition}
use Rattle.graphql_tree.specs.declared.document.Definition.TheVariants as definition
use Rattle.graphql_tree.specs.declared.document.Operation.{Operation}
use Rattle.graphql_schema.specs.Declarations.{Declarations}
use Rattle.graphql_occurrences.specs.Occurrences.{occurrences}
use Rattle.graphql_occurrences.specs.Parts.{Part}
use Rattle.graphql_plain_validity.specs.PartKinds.{KindsStem}
use Rattle.graphql_plain_validity.specs.PlainRequests.{IsPlainDocument}
use Rattle.graphql_plain_validity.specs.StemmingParts.{Reaches, Stems}

-- what an operation of a document reaches occurs in the document
abbrev pub ReachedPartsOccur : Type 0 → Type 0 → Type 0
ReachedPartsOccur S C =
    (schema : Declarations S C) (document : List (Definition S)) (o : Placed (Operation S))
    → Contains document (definition.Operation o) → (x : Part S C) → Reaches schema document o x
    → Contains (occurrences schema document) x

-- each part of a plain document stems from its request
abbrev pub PlainPartsStem : (S C : Type 0) → (S → ScalarAnswer) → (Bool → S) → Type 0
PlainPartsStem S C answer of_bool =
    (schema : Declarations S C) (document again : List (Definition S))
    (is : IsPlainDocument answer of_bool document again) (z : Part S C)
    → Contains (occurrences schema again) z → Stems schema document is.operation of_bool z

-- so does each by its kind
abbrev pub PlainKindsStem : (S C : Type 0) → (S → ScalarAnswer) → (Bool → S) → Type 0
PlainKindsStem S C answer of_bool =
    (schema : Declarations S C) (document again : List (Definition S))
    (is : IsPlainDocument answer of_bool document again)
    → KindsStem schema document is.operation of_bool (occurrences schema again)

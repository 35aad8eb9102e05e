-- What the rule that fields merge tells, and when a visitor of it tells so (GraphQL October 2021,
-- 5.3.2 Field Selection Merging).
use Rattle.std.specs.Prelude.{◌≡◌, ℕ, ◌+◌, ◌*◌, ◌≤◌, Bool, true, false, []}
use Rattle.graphql_rule_errors.specs.Places.{Places}
use Rattle.graphql_written_out.specs.Written.{Settled}
use Rattle.graphql_merging.specs.Contract.{IsComplete, IsDirect, IsSound}
use Rattle.graphql_merging.specs.FieldNodes.{document_nodes}
use Rattle.graphql_merging.specs.Sets.{document_sets}
use Rattle.graphql_tree.specs.Definitions.{fragments_listed}
use Rattle.graphql_visitors.specs.Runs.{VisitorStep}
use Rattle.graphql_visitors.specs.Subjects.{Subject}
use Rattle.graphql_rules_merging.specs.declared.overlapping_fields_can_be_merged.OverlappingFieldsCanBeMerged.{
  OverlappingFieldsCanBeMerged,
}

module _ {S C : Type 0} (subject : Subject S C) where
  -- the field nodes of the document
  abbrev pub nodes : ℕ
  nodes = document_nodes subject.document

  -- there are no more comparisons of two fields than twice the square of the document's field nodes
  abbrev pub IsCounted : ℕ → ℕ → Type 0
  IsCounted old new = new ≤ old + 2 * nodes * nodes

  -- what a visitor counts at an event, by whether it has asked the rule before
  abbrev pub CountedBy : Bool → ℕ → ℕ → Type 0
  CountedBy false old new = IsCounted old new
  CountedBy true old new = new ≡ old

module _ {S C : Type 0} (eq : S → S → Bool) (subject : Subject S C) where
  -- errors at these places: each names two fields that do not merge, among them are all that differ
  -- directly in one set, and there is one where a set does not merge
  pub record MergingTold (told : Places) : Type 0 where
    pub sound : IsSound eq subject.schema.types (document_sets subject.schema subject.document) told
    pub direct : IsDirect eq subject.schema.types (document_sets subject.schema subject.document)
        told
    pub complete : IsComplete eq subject.schema.types
        (document_sets subject.schema subject.document) told

  -- what the rule tells of a document: these, where as many levels as there are fragments write all
  -- out
  abbrev pub RuleTold : Places → Type 0
  RuleTold told = Settled (fragments_listed subject.document) → MergingTold told

  -- what a visitor tells at an event, by whether it has asked the rule before
  abbrev pub ToldBy : Bool → Places → Type 0
  ToldBy false told = RuleTold told
  ToldBy true told = told ≡ []

module _ {S C : Type 0} (eq : S → S → Bool) where
  -- the rule is asked at the first event, which is that the document is entered, and not again
  abbrev pub asks_once : VisitorStep OverlappingFieldsCanBeMerged S C
  asks_once subject v e w told =
      (w.is_asked ≡ true) × ToldBy eq subject v.is_asked told
      × CountedBy subject v.is_asked v.comparisons w.comparisons

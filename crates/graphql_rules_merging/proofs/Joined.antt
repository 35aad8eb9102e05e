-- The table of a document's sets: what is found of it is as the rule promises.
use Rattle.std.proofs.Common.{subst, sym, arith, ℕ, ◌<◌, Bool, List, length, get_or, None, inl, inr, []}
use Rattle.std.specs.List.{Contains}
use Rattle.std.proofs.lemmas.List.{length-map}
use Rattle.std.proofs.lemmas.List.Elements.{Contains-get_or}
use Rattle.graphql_values.specs.Laws.{SameAsItself, SameByAThird}
use Rattle.graphql_tree.specs.declared.document.Definition.{Definition}
use Rattle.graphql_schema.specs.Declarations.{Declarations}
use Rattle.graphql_rule_errors.specs.Places.{Places}
use Rattle.graphql_written_out.specs.Trees.{none}
use Rattle.graphql_written_out.specs.Written.{Settled}
use Rattle.graphql_merging.specs.declared.table.SetTable.{SetTable}
use Rattle.graphql_merging.specs.Sets.{Set, members_of, set_of, definition_sets, document_sets}
use Rattle.graphql_tree.specs.Definitions.{fragments_listed}
use Rattle.graphql_merging.specs.Pieces.{Pieces, IsPieceOf}
use Rattle.graphql_merging.specs.Tables.{pieces_of}
use Rattle.graphql_set_table.specs.SetsAt.{SetAt}
use Rattle.graphql_set_table.specs.Numbered.{IsTable}
use Rattle.graphql_set_table.proofs.Meaning.{owns, root-piece, root-number, each-set}
use Rattle.graphql_bundles.specs.Direct.{IsVisited, by_definition, by_field, by_fragment}
use Rattle.graphql_bundles.specs.Ends.{IsShown}
use Rattle.graphql_bundles.proofs.EndLaw.{end-meets-contract}
use Rattle.graphql_rules_merging.specs.Alone.{AllStandAlone}
use Rattle.graphql_rules_merging.specs.Comparing.{Stage}
use Rattle.graphql_rules_merging.specs.Finished.{IsFinished, AreFound}
use Rattle.graphql_rules_merging.proofs.StandingAlone.{alone-meets}
use Rattle.graphql_rules_merging.proofs.Merged.{IsOpened, opened_inner, opened_own, opened_definition, finished_meets}
use Rattle.graphql_rules_merging.proofs.Reordered.{Promised}

module _ {S C : Type 0} (eq : S → S → Bool) (schema : Declarations S C) (document : List (Definition S)) (all : List (SetAt S C)) (table : SetTable S C)
    (is : IsTable schema document all table.sets) (settled : Settled (fragments_listed document)) where
  abbrev pieces : Pieces S C
  pieces = pieces_of (fragments_listed document) table

  no-set : Set S C
  no-set = record { scope = None; tree = none }

  root : (k : ℕ) → k < length document
      → (set : Set S C) × Contains (definition_sets schema document) set × IsPieceOf pieces k (members_of schema.types set)
  root k small =
      let lengths = length-map document (set_of schema (fragments_listed document)) in (
        get_or (definition_sets schema document) k no-set,
        Contains-get_or (definition_sets schema document) k no-set (omega (arith, lengths, small)),
        root-piece schema document all table is settled k no-set small,
      )

  number : (set : Set S C) → Contains (definition_sets schema document) set
      → (k : ℕ) × (k < length document) × IsPieceOf pieces k (members_of schema.types set)
  number set i =
      let n = root-number schema document all table is settled set i in
      (n.0, n.1, subst (λ (s : Set S C). IsPieceOf pieces n.0 (members_of schema.types s)) n.2 (root-piece schema document all table is settled n.0 set n.1))

  -- where all pairs are compared
  by-pairs : SameAsItself eq → (stage : Stage) → IsFinished eq schema.types pieces (length document) stage → Promised eq schema.types (document_sets schema document) stage.told
  by-pairs itself stage finished =
      finished_meets eq schema.types pieces (length document) stage finished itself (definition_sets schema document) (owns schema document all table is settled eq) root number
      (each-set schema document all table is settled (IsOpened eq schema.types pieces (length document) stage finished itself)
      (opened_inner eq schema.types pieces (length document) stage finished itself) (opened_own eq schema.types pieces (length document) stage finished itself)
      (opened_definition eq schema.types pieces (length document) stage finished itself))

  -- each set is come to from those of the definitions
  shown : (set : Set S C) → Contains (document_sets schema document) set → IsShown pieces schema.types (length document) set
  shown = each-set schema document all table is settled (IsVisited pieces (length document))
      (λ p q h i. by_fragment p q h i) (λ p f h i. by_field p f h i) (λ k small. by_definition k small)

  -- where there is nothing to compare
  by-none : SameAsItself eq → AllStandAlone pieces → Promised eq schema.types (document_sets schema document) []
  by-none itself alone =
      alone-meets eq schema.types pieces alone itself (definition_sets schema document) (owns schema document all table is settled eq)
      (λ set i. let n = number set i in (n.0, n.2))
      (λ set i. elim (shown set i) [ inl h ↦ inl (h.0, h.2) | inr e ↦ inr e ])

  pub promised : SameAsItself eq → SameByAThird eq → (errors : Places) → AreFound eq schema.types pieces (length document) errors
      → Promised eq schema.types (document_sets schema document) errors
  promised itself third errors (inl h) =
      end-meets-contract S C eq third schema.types pieces (definition_sets schema document) (length document) h.0 errors
      (owns schema document all table is settled eq) root number shown h.1 h.2
  promised itself third errors (inr (inl h)) =
      subst (Promised eq schema.types (document_sets schema document)) h.1 (by-pairs itself h.0 h.2)
  promised itself third errors (inr (inr h)) =
      subst (Promised eq schema.types (document_sets schema document)) (sym h.1) (by-none itself h.0)

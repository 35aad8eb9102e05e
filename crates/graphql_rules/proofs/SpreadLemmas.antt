-- What a visitor of the rule on possible spreads tells over a document.
use Rattle.std.proofs.Common.{◌≡◌, List, [], ◌∷◌, ◌++◌, refl, sym, ap, ◌∙◌}
use Rattle.std.specs.List.{flat_map}
use Rattle.std.proofs.lemmas.Grind.{flat_map-append}
use Rattle.graphql_occurrences.proofs.TellsDefinitions.{events_told}
use Rattle.graphql_occurrences.specs.Events.{events}
use Rattle.graphql_occurrences.specs.Nodes.{Seen}
use Rattle.graphql_occurrences.specs.Occurrences.{occurrences}
use Rattle.graphql_occurrences.specs.PartsOf.{parts_of}
use Rattle.graphql_rule_errors.specs.Places.{Places}
use Rattle.graphql_rules.proofs.ByNameLemmas.{document_same}
use Rattle.graphql_rules.specs.PossibleByNames.{impossible_by_names, told_by_names}
use Rattle.graphql_rules.specs.PossibleFragmentSpreads.{possible_fragment_spreads_faults}
use Rattle.graphql_rules.specs.PossibleVisitor.{by_names}
use Rattle.graphql_rules.specs.declared.possible_fragment_spreads.PossibleFragmentSpreads.{PossibleFragmentSpreads}
use Rattle.graphql_schema.specs.Declarations.{declarations_of}
use Rattle.graphql_visitors.specs.Runs.{Runs, joined}
use Rattle.graphql_visitors.specs.Subjects.{Subject}

module _ {S C : Type 0} (subject : Subject S C) where
  -- what it says by names of the parts that events tell
  runs_by_names : (v w : PossibleFragmentSpreads S C) (es : List (Seen S C)) (ts : List Places) → Runs by_names subject v es w ts
      → joined ts ≡ flat_map (impossible_by_names (declarations_of v.overlaps.schema.now) subject) (flat_map parts_of es)
  runs_by_names v w [] [] h = refl
  runs_by_names v w [] (t ∷ ts) h = absurd h
  runs_by_names v w (e ∷ es) [] h = absurd h
  runs_by_names v w (e ∷ es) (t ∷ ts) h =
      (λ i. (h.1).1 i ++ runs_by_names h.0 w es ts h.2 i)
      ∙ ap (λ s. told_by_names (declarations_of v.overlaps.schema.now) subject e ++ flat_map (impossible_by_names (declarations_of s.now) subject) (flat_map parts_of es)) (h.1).0
      ∙ sym (flat_map-append (impossible_by_names (declarations_of v.overlaps.schema.now) subject) (parts_of e) (flat_map parts_of es))

  -- it tells what the rule says of a document's occurrences, by the document's schema
  pub spreads_told : (v w : PossibleFragmentSpreads S C) (ts : List Places) → declarations_of v.overlaps.schema.now ≡ subject.schema → Runs by_names subject v (events subject.schema subject.document) w ts
      → joined ts ≡ flat_map (possible_fragment_spreads_faults subject) (occurrences subject.schema subject.document)
  spreads_told v w ts made runs =
      let es = events subject.schema subject.document in
      runs_by_names v w es ts runs
      ∙ ap (λ s. flat_map (impossible_by_names s subject) (flat_map parts_of es)) made
      ∙ ap (flat_map (impossible_by_names subject.schema subject)) (events_told subject.schema subject.document)
      ∙ (document_same subject subject.document).same

-- Where all pairs are compared, the errors are as the rule promises.
use Rattle.std.proofs.Common.{◌≡◌, refl, ap, sym, subst, ◌∙◌, ℕ, ◌<◌, Bool, false, List, [], map, ◌⊎◌, inl, inr}
use Rattle.std.specs.List.{Contains}
use Rattle.std.proofs.lemmas.List.Elements.{All-weaker}
use Rattle.graphql_values.specs.Laws.{SameAsItself}
use Rattle.graphql_text.specs.declared.position.SourcePosition.{SourcePosition}
use Rattle.graphql_schema.specs.declared.meta.MetaType.{MetaType}
use Rattle.graphql_rule_errors.specs.Places.{Places}
use Rattle.graphql_merging.specs.Sets.{Set, members_of, directs_of}
use Rattle.graphql_merging.specs.Pieces.{Pieces, PieceField, IsPieceOf, HasOwnPieces}
use Rattle.graphql_merging.specs.Told.{Tells, nothing, AgreeIfOneKey, later_pairs}
use Rattle.graphql_merging.specs.Done.{all_sets, IsTold}
use Rattle.graphql_merging.specs.Contract.{IsSound, IsDirect, IsComplete}
use Rattle.graphql_merging.proofs.Contracts.{done-meets, any-among}
use Rattle.graphql_merging.proofs.DirectFields.{direct-conflicts-are-named}
use Rattle.graphql_merging.proofs.Nested.{in-nothing}
use Rattle.graphql_rules_merging.specs.declared.agenda.SetPair.{SetPair}
use Rattle.graphql_rules_merging.specs.Agenda.{IsListed, IsEmptyPiece}
use Rattle.graphql_rules_merging.specs.Comparing.{Stage, members_in}
use Rattle.graphql_rules_merging.specs.Finished.{IsFound, IsFinished}
use Rattle.graphql_rules_merging.proofs.Meeting.{found_told}
use Rattle.graphql_rules_merging.proofs.Settled.{WasBegun, IsSeen, empty_left, empty_right, as_is, turned}
use Rattle.graphql_rules_merging.proofs.Settled.{later_members, seen_begun, left_begun, right_begun}
use Rattle.graphql_rules_merging.proofs.Settled.{own_begun, fields_begun}
use Rattle.graphql_rules_merging.proofs.WholeSets.{fields_of_same}

module _ {S C : Type 0} (eq : S → S → Bool) (types : List (MetaType S C)) (t : Pieces S C) (definitions : ℕ)
    (stage : Stage) (finished : IsFinished eq types t definitions stage) (itself : SameAsItself eq) where
  -- a set that was begun with itself
  abbrev pub IsOpened : ℕ → Type 0
  IsOpened p = WasBegun t stage.listed p p false

  pub opened_inner : (p q : ℕ) → IsOpened p → Contains (t.inner p) q → IsOpened q
  opened_inner p q h i =
      let one = left_begun eq types t definitions stage finished p p q false h i in
      right_begun eq types t definitions stage finished q p q false one i

  pub opened_own : (p : ℕ) (f : PieceField S C) → IsOpened p → Contains (t.direct p) f → IsOpened f.own
  opened_own = own_begun eq types t definitions stage finished itself

  pub opened_definition : (k : ℕ) → k < definitions → IsOpened k
  opened_definition = finished.begun

  module _ (roots : List (Set S C)) where
    -- the errors of its direct fields are among those that are told
    abbrev Directs : Set S C → Type 0
    Directs set =
        (es : Places) × Tells (AgreeIfOneKey eq types false) (later_pairs (directs_of types set)) es
        × ((e : List SourcePosition) → Contains es e → Contains stage.told e)

    -- its direct fields are those of a set that was begun with itself
    abbrev pub IsGoneThrough : Set S C → Type 0
    IsGoneThrough set =
        (p : ℕ) × IsOpened p × (map (λ (f : PieceField S C). f.member) (t.direct p) ≡ directs_of types set)

    directs-none : (set : Set S C) → directs_of types set ≡ [] → Directs set
    directs-none set e =
        ([], subst (λ ms. Tells (AgreeIfOneKey eq types false) (later_pairs ms) []) (sym e) nothing, λ e i. in-nothing e i)

    -- what is told of a set that was begun with itself
    pub opened_told : (set : Set S C) → IsGoneThrough set ⊎ (directs_of types set ≡ []) → Directs set
    opened_told set (inr e) = directs-none set e
    opened_told set (inl h) = cases (seen_begun t stage.listed h.0 h.0 false h.1)
      where
        of-pair : IsListed stage.listed (record { left = h.0; right = h.0; around = false }) → Directs set
        of-pair k =
            let pair : SetPair = record { left = h.0; right = h.0; around = false } in
            let c = finished.compared pair k in
            let fields = ap (map members_in) (fields_of_same eq types t pair refl) in
            let all = fields ∙ later_members (t.direct h.0) ∙ ap later_pairs h.2 in
            (c.told.0, subst (λ ps. Tells (AgreeIfOneKey eq types false) ps c.told.0) all c.told.1, c.told.2)

        nothing-there : IsEmptyPiece t h.0 → Directs set
        nothing-there e = directs-none set (sym h.2 ∙ ap (map (λ (f : PieceField S C). f.member)) e.0)

        cases : IsSeen t stage.listed h.0 h.0 false → Directs set
        cases (empty_left e) = nothing-there e
        cases (empty_right e) = nothing-there e
        cases (as_is k) = of-pair k
        cases (turned k) = of-pair k

    -- `root`, `number`: the sets of the definitions are the roots; `each`: the direct fields of each set of a root, if
    -- it has any, are those of a set that was begun with itself
    pub finished_meets : HasOwnPieces t eq types
        → ((k : ℕ) → k < definitions → (set : Set S C) × Contains roots set × IsPieceOf t k (members_of types set))
        → ((set : Set S C) → Contains roots set → (k : ℕ) × (k < definitions) × IsPieceOf t k (members_of types set))
        → ((set : Set S C) → Contains (all_sets types roots) set → IsGoneThrough set ⊎ (directs_of types set ≡ []))
        → IsSound eq types (all_sets types roots) stage.told × IsDirect eq types (all_sets types roots) stage.told
        × IsComplete eq types (all_sets types roots) stage.told
    finished_meets owns root number each =
        done-meets S C eq types roots t (WasBegun t stage.listed) stage.told (record {
          owns = owns;
          pieces = (λ set i. let n = number set i in (n.0, n.2, finished.begun n.0 n.1));
          told =
              let rightly = found_told eq types t definitions roots owns root in
              All-weaker (IsFound eq types t definitions) (IsTold eq types roots) rightly stage.told finished.found;
          directs = (λ set a b i pair key differ.
              let r = opened_told set (each set i) in
              let named = direct-conflicts-are-named S C eq types set r.0 r.1 a b pair key differ in
              any-among _ r.0 stage.told r.2 named);
          settled = (λ none. record {
            left = left_begun eq types t definitions stage finished;
            right = right_begun eq types t definitions stage finished;
            fields = fields_begun eq types t definitions stage finished itself none;
          });
        })

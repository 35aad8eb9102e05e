-- The pairs of sets are compared, in whatever order they are given out.
use Rattle.std.proofs.Common.{◌≡◌, refl, sym, subst, ◌∙◌, ℕ, ◌<◌, eqb, Bool, true, false, List, [], ◌++◌, map, append-nil, get_or, cond, inl, inr}
use Rattle.std.specs.List.{All, Contains}
use Rattle.std.specs.Str.{bytes_eq}
use Rattle.std.proofs.lemmas.Slice.Eq.{bytes_eq-Decides}
use Rattle.std.proofs.lemmas.Bool.{false≢true}
use Rattle.std.proofs.lemmas.Bool.Decides.{Decides-eqb}
use Rattle.std.proofs.lemmas.List.Elements.{All-nil, All-append, Contains-get_or, Contains-append_left, Contains-append_right}
use Rattle.graphql_text.specs.declared.position.SourcePosition.{SourcePosition}
use Rattle.graphql_schema.specs.declared.meta.MetaType.{MetaType}
use Rattle.graphql_rule_errors.specs.Places.{Places}
use Rattle.graphql_merging.specs.Members.{Member}
use Rattle.graphql_merging.specs.Pieces.{Pieces, PieceField}
use Rattle.graphql_merging.specs.Told.{Names, Tells, AgreeIfOneKey}
use Rattle.graphql_merging.proofs.DirectFields.{to-In, from-In, tells-sound}
use Rattle.graphql_rules_merging.specs.declared.agenda.SetPair.{SetPair}
use Rattle.graphql_rules_merging.specs.Agenda.{pair_of, Listed, IsListed, Takes, NoneWaits, IsBegun, IsFull, ListsPairs}
use Rattle.graphql_rules_merging.specs.Comparing.{between, later, Stage, members_in, field_pairs, LeadsTo, ComparesSets}
use Rattle.graphql_rules_merging.specs.Finished.{IsReached, of_definition, other_way, by_fragment, by_fields, IsCompared, IsFound, IsFinished}
use Rattle.graphql_rules_merging.proofs.Pairs.{pair_keeps}
use Rattle.graphql_rules_merging.proofs.Lists.{map_of, between_of, later_of}
use Rattle.graphql_rules_merging.proofs.Begun.{begun_still}

module _ {S C : Type 0} (t : Pieces S C) (definitions : ℕ) where
  reached-pair : (p q : ℕ) (x : Bool) (k : SetPair) → k ≡ pair_of p q x → IsReached t definitions p q x → IsReached t definitions k.left k.right k.around
  reached-pair p q x k e h =
      subst (λ (k : SetPair). IsReached t definitions k.left k.right k.around) (sym e) (pair_keeps (IsReached t definitions) (λ p q x i. other_way p q x i) p q x h)

  reached-led : (pair k : SetPair) → IsReached t definitions pair.left pair.right pair.around → LeadsTo t (λ p. Unit {0}) pair k → IsReached t definitions k.left k.right k.around
  reached-led pair k h (inl i) = reached-pair i.0 pair.right pair.around k i.3 (by_fragment pair.left pair.right i.0 pair.around h i.1)
  reached-led pair k h (inr (inl i)) =
      reached-pair i.0 pair.left pair.around k i.3 (by_fragment pair.right pair.left i.0 pair.around (other_way pair.left pair.right pair.around h) i.1)
  reached-led pair k h (inr (inr i)) = reached-pair i.0.0.own i.0.1.own _ k i.5 (by_fields pair.left pair.right i.0.0 i.0.1 pair.around h i.1 i.2 i.3)

  fields-stand : (pair : SetPair) (p : PieceField S C × PieceField S C) → Contains (field_pairs t pair) p → Contains (t.direct pair.left) p.0 × Contains (t.direct pair.right) p.1
  fields-stand pair p h = cases (eqb pair.left pair.right) refl h
    where
      cases : (same : Bool) → eqb pair.left pair.right ≡ same → Contains (cond same (later (t.direct pair.left)) (between (t.direct pair.left) (t.direct pair.right))) p
          → Contains (t.direct pair.left) p.0 × Contains (t.direct pair.right) p.1
      cases true e i = let r = later_of (t.direct pair.left) p i in (r.0, subst (λ q. Contains (t.direct q) p.1) ((Decides-eqb pair.left pair.right).0 e) r.1)
      cases false e i = between_of (t.direct pair.left) (t.direct pair.right) p i

module _ {S C : Type 0} (eq : S → S → Bool) (types : List (MetaType S C)) (t : Pieces S C) (definitions : ℕ) where
  one-key : (x : Bool) (a b : Member S C) → (AgreeIfOneKey eq types x a b → ⊥) → a.head.key ≡ b.head.key
  one-key x a b h = cases (bytes_eq a.head.key b.head.key) refl
    where
      cases : (r : Bool) → bytes_eq a.head.key b.head.key ≡ r → a.head.key ≡ b.head.key
      cases true e = (bytes_eq-Decides a.head.key b.head.key).0 e
      cases false e = absurd (h (λ same. absurd (false≢true (sym e ∙ (bytes_eq-Decides a.head.key b.head.key).1 same))))

  -- what is told of two sets that are reached
  found-fields : (pair : SetPair) (es : Places) → IsReached t definitions pair.left pair.right pair.around
      → Tells (AgreeIfOneKey eq types pair.around) (map members_in (field_pairs t pair)) es → (e : List SourcePosition) → Contains es e → IsFound eq types t definitions e
  found-fields pair es reached tells e i =
      let r = tells-sound (AgreeIfOneKey eq types pair.around) (map members_in (field_pairs t pair)) es tells e (to-In e es i) in
      let m = map_of {B = Member S C × Member S C} members_in (field_pairs t pair) (r.0, r.1) (from-In {X = Member S C × Member S C} (r.0, r.1) (map members_in (field_pairs t pair)) r.2) in
      let f = m.0.0 in
      let g = m.0.1 in
      let stand = fields-stand t definitions pair m.0 m.1 in
      let unfit : AgreeIfOneKey eq types pair.around f.member g.member → ⊥ =
      subst (λ (p : Member S C × Member S C). AgreeIfOneKey eq types pair.around p.0 p.1 → ⊥) (sym m.2) r.3 in
      let names : Names e f.member g.member = subst (λ (p : Member S C × Member S C). Names e p.0 p.1) (sym m.2) r.4 in
      let key = one-key pair.around f.member g.member unfit in
      (pair.left, pair.right, pair.around, f, g, reached, stand.0, stand.1, key, (λ agree. unfit (λ _. agree)), names)

  abbrev Reached : SetPair → Type 0
  Reached k = IsReached t definitions k.left k.right k.around

  -- each pair that was given out is compared
  pub record IsUnderway (stage : Stage) : Type 0 where
    pub begun : (k : ℕ) → k < definitions → IsBegun t stage.listed (pair_of k k false)
    pub reached : (pair : SetPair) → IsListed stage.listed pair → IsReached t definitions pair.left pair.right pair.around
    pub compared : (pair : SetPair) → stage.listed.given pair ≡ true → IsCompared eq types t stage pair
    pub found : All (IsFound eq types t definitions) stage.told
    pub full : (pair : SetPair) → stage.listed.waits pair ≡ true → IsFull t pair

  abbrev pub OfDefinition : SetPair → Type 0
  OfDefinition pair = (k : ℕ) × (k < definitions) × (pair ≡ pair_of k k false)

  pub underway_first : (none listed : Listed) → ((pair : SetPair) → (none.waits pair ≡ false) × (none.given pair ≡ false)) → ListsPairs t OfDefinition OfDefinition none listed
      → IsUnderway (record { told = []; listed = listed })
  underway_first none listed is h = record {
    begun = (λ k small. h.each (pair_of k k false) (k, small, refl));
    reached = (λ pair i. elim i [
      | inl w ↦ elim (h.waits pair w) [
        | inl j ↦ absurd (false≢true (sym (is pair).0 ∙ j))
        | inr d ↦ reached-pair t definitions d.0.0 d.0.0 false pair d.0.2 (of_definition d.0.0 d.0.1)
      ]
      | inr g ↦ absurd (false≢true (sym (is pair).1 ∙ sym (h.given pair) ∙ g))
    ]);
    compared = (λ pair g. absurd (false≢true (sym (is pair).1 ∙ sym (h.given pair) ∙ g)));
    found = All-nil (IsFound eq types t definitions);
    full = (λ pair w. elim (h.waits pair w) [ inl j ↦ absurd (false≢true (sym (is pair).0 ∙ j)) | inr d ↦ d.1 ]);
  }

  still-compared : (s u : Stage) (k : SetPair) → ((other : SetPair) → IsListed s.listed other → IsListed u.listed other) → ((es : Places) × (u.told ≡ s.told ++ es))
      → IsCompared eq types t s k → IsCompared eq types t u k
  still-compared s u k still told h = record {
    begun = (λ other i. begun_still t s.listed u.listed other still (h.begun other i));
    told = (h.told.0, h.told.1, λ e i. subst (λ es. Contains es e) (sym told.1) (Contains-append_left s.told told.0 e (h.told.2 e i)));
  }

  -- a pair is given out, and compared
  pub underway_more : (s u : Stage) (pair : SetPair) (between : Listed) → Takes pair s.listed between → IsUnderway s
      → ComparesSets eq types t pair (record { told = s.told; listed = between }) u → IsUnderway u
  underway_more s u pair between taken h c = record {
    begun = (λ k less. begun_still t s.listed u.listed (pair_of k k false) still (h.begun k less));
    reached = (λ k i. elim i [
      | inl w ↦ elim (c.begun.waits k w) [ inl j ↦ h.reached k (inl (taken.waits k j)) | inr l ↦ reached-led t definitions pair k reached l.0 ]
      | inr g ↦ elim (taken.given k (sym (c.begun.given k) ∙ g)) [ inl j ↦ h.reached k (inr j) | inr e ↦ subst Reached (sym e) reached ]
    ]);
    compared = (λ k g. elim (taken.given k (sym (c.begun.given k) ∙ g)) [
      | inl j ↦ still-compared s u k still (c.told.0, c.told.1) (h.compared k j)
      | inr e ↦ subst (IsCompared eq types t u) (sym e) (record {
        begun = c.begun.each;
        told = (c.told.0, c.told.2, λ e i. subst (λ es. Contains es e) (sym c.told.1) (Contains-append_right s.told c.told.0 e i));
      })
    ]);
    found = subst (All (IsFound eq types t definitions)) (sym c.told.1) (All-append (IsFound eq types t definitions) s.told c.told.0 h.found
        (λ k d less. found-fields pair c.told.0 reached c.told.2 (get_or c.told.0 k d) (Contains-get_or c.told.0 k d less)));
    full = (λ k w. elim (c.begun.waits k w) [ inl j ↦ h.full k (taken.waits k j) | inr l ↦ l.1 ]);
  }
    where
      reached : Reached pair
      reached = h.reached pair (inl taken.waited)

      still : (other : SetPair) → IsListed s.listed other → IsListed u.listed other
      still other i = c.begun.still other (taken.still other i)

  -- no pair waits any more
  pub underway_last : (s : Stage) (listed : Listed) → NoneWaits s.listed listed → IsUnderway s → IsFinished eq types t definitions (record { told = s.told; listed = listed })
  underway_last s listed none h = record {
    begun = (λ k less. begun_still t s.listed listed (pair_of k k false) none.still (h.begun k less));
    reached = (λ k i. h.reached k (inr (was-given k i)));
    compared = (λ k i. still-compared s (record { told = s.told; listed = listed }) k none.still ([], sym (append-nil s.told)) (h.compared k (was-given k i)));
    found = h.found;
  }
    where
      was-given : (k : SetPair) → IsListed listed k → s.listed.given k ≡ true
      was-given k (inl w) = absurd (false≢true (sym (none.waits k) ∙ w))
      was-given k (inr g) = none.given k g

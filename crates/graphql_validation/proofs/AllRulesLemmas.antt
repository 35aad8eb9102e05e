-- What all rules tell, and of which documents nothing.
use Rattle.graphql_schema.specs.Scalars.{Scalars}
use Rattle.std.proofs.Common.{◌≡◌, ◌↔◌, refl, sym, ap, subst, ◌∙◌, Bool, true, false, List, [], ◌∷◌, ◌++◌, length, Option, Some, append-nil, arith, Result, Ok, Err, IfOk}
use Rattle.std.specs.Prelude.{IsPermutation}
use Rattle.std.specs.List.{All, Contains}
use Rattle.std.specs.Option.{IsSome}
use Rattle.std.proofs.lemmas.Bool.{false≢true}
use Rattle.std.proofs.lemmas.List.{map-append, nil_from_length}
use Rattle.std.proofs.lemmas.List.Sorted.{All-permutation, Contains-permutation, IsPermutation-map, length_permutation}
use Rattle.graphql_rule_errors.proofs.NoFaultLemmas.{append_none}
use Rattle.graphql_rule_errors.specs.Places.{Places, places}
use Rattle.graphql_rule_errors.specs.declared.rule_error.RuleError.{RuleError}
use Rattle.graphql_text.specs.declared.position.SourcePosition.{SourcePosition}
use Rattle.graphql_visitors.specs.Subjects.{Subject}
use Rattle.graphql_written_out.specs.Written.{Settled}
use Rattle.graphql_merging.proofs.Standing.{together-merge}
use Rattle.graphql_merging.specs.Contract.{IsComplete, IsConflict, IsDirect, IsSound}
use Rattle.graphql_merging.specs.Members.{Member}
use Rattle.graphql_merging.specs.Merging.{Merging}
use Rattle.graphql_merging.specs.Sets.{Set, document_sets, members_of}
use Rattle.graphql_tree.specs.Definitions.{fragments_listed}
use Rattle.graphql_merging.specs.Told.{Names}
use Rattle.graphql_rules.proofs.LawLemmas.{no_introspection}
use Rattle.graphql_rules_merging.specs.OverlappingFieldsCanBeMerged.{MergingTold}
use Rattle.graphql_rules_document.specs.SettledLaws.{EndingFragmentsAreSettled}
use Rattle.graphql_validation.proofs.ValidLemmas.{first_none, first_permuted, first_then}
use Rattle.graphql_validation.specs.AllRules.{AllRules, of_first_stage, of_merging, FieldsMerge, IsValid, IsValidAt, RequestTold}
use Rattle.graphql_validation.specs.Apart.{asked_places}
use Rattle.graphql_validation.specs.FirstStage.{FirstStage, introspection_places, parts}
use Rattle.graphql_validation.specs.WellFormed.{IsWellFormed}

all-at : {X : Type 0} (P : X → Type 0) (xs : List X) → All P xs → (x : X) → Contains xs x → P x
all-at P xs h x i = subst P i.2 (h i.0 x i.1)

none-before : {A : Type 0} (xs ys : List A) → IsPermutation xs ys → ys ≡ [] → xs ≡ []
none-before xs ys p h = nil_from_length xs (sym (length_permutation xs ys p) ∙ ap length h)

none-after : {A : Type 0} (xs ys : List A) → IsPermutation xs ys → xs ≡ [] → ys ≡ []
none-after xs ys p h = nil_from_length ys (length_permutation xs ys p ∙ ap length h)

pub some_places : (errors : List RuleError) → (errors ≡ [] → ⊥) → places errors ≡ [] → ⊥
some_places [] some none = some refl
some_places (e ∷ errors) some none = absurd (omega (arith, ap length none))

some-of : {A : Type 0} (o : Option A) (a : A) → o ≡ Some a → IsSome o
some-of o a e = subst IsSome (sym e) refl

module _ {S C : Type 0} (eq : S → S → Bool) (subject : Subject S C) where
  -- where all sets merge, no error is sound
  none-sound : (told : Places) → IsSound eq subject.schema.types (document_sets subject.schema subject.document) told → FieldsMerge eq subject → told ≡ []
  none-sound [] sound merge = refl
  none-sound (e ∷ told) sound merge =
      let c = (sound 0 e (omega arith)).2 in
      let whole = all-at (λ (set : Set S C). Merging eq subject.schema.types (members_of subject.schema.types set)) (document_sets subject.schema subject.document) merge c.0 c.1 in
      absurd (c.2.2 (together-merge eq subject.schema.types (members_of subject.schema.types c.0) whole c.2.0 _ _ c.2.1))

  -- of errors in some other order the same holds
  merging_permuted : (told other : Places) → IsPermutation told other → MergingTold eq subject told → MergingTold eq subject other
  merging_permuted told other p h = record {
    sound = All-permutation (λ e. (a : Member S C) × (b : Member S C) × IsConflict eq subject.schema.types (document_sets subject.schema subject.document) a b × Names e a b) told other p h.sound;
    direct = λ set a b i pair key differ. let e = h.direct set a b i pair key differ in let j = Contains-permutation told other e.1 p (e.0, e.2, e.3) in (j.0, e.1, j.1, j.2, e.4);
    complete = λ none. h.complete (none-before told other p none);
  }

module _ {S C : Type 0} (subject : Subject S C) where
  -- a document of which the rules find no fault is settled
  pub settled-where-well-formed : EndingFragmentsAreSettled subject.schema → IsWellFormed subject → Settled (fragments_listed subject.document)
  settled-where-well-formed ends well = ends subject.document (record {
    fields = λ f i. some-of f.declared (well.fields f i).0 (well.fields f i).1;
    conditions = λ n i. some-of _ (well.conditions n i).0 (well.conditions n i).1;
  }) well.fragments_end

module _ {S C : Type 0} (scalars : Scalars S C) (subject : Subject S C) where
  -- nothing is told exactly of valid documents
  pub all-exactly : (told : Places) → AllRules scalars subject told → (told ≡ []) ↔ IsValid scalars subject
  all-exactly told (of_first_stage first some) = ((λ e. absurd (some e)), λ v. first_then scalars subject told first v.no_fault)
  all-exactly told (of_merging first merging) = (
    (λ e. record { no_fault = first_none scalars subject [] first refl; fields_merge = merging.complete e }),
    λ v. none-sound scalars.eq subject told merging.sound v.fields_merge,
  )

  -- of errors in some other order the same holds
  pub all_permuted : (told other : Places) → IsPermutation told other → AllRules scalars subject told → AllRules scalars subject other
  all_permuted told other p (of_first_stage first some) = of_first_stage (first_permuted scalars subject told other p first) (λ e. some (none-before told other p e))
  all_permuted told other p (of_merging first merging) = of_merging first (merging_permuted scalars.eq subject told other p merging)

  pub root_exactly : (is_disabled : Bool) (told : Places) → RequestTold scalars subject is_disabled told → (told ≡ []) ↔ IsValidAt scalars subject is_disabled
  root_exactly false told h = let all = all-exactly told h in (λ e. record { valid = all.0 e; introspects_nothing = λ t. absurd (false≢true t) }, λ v. all.1 v.valid)
  root_exactly true told h =
      let all = all-exactly h.of_rules h.rules_told in
      let nothing = no_introspection subject (parts subject) in (
        λ e. let both = append_none h.of_rules (introspection_places subject) (none-before (h.of_rules ++ introspection_places subject) told h.all e) in record { valid = all.0 both.0; introspects_nothing = λ t. nothing.0 both.1 },
        λ v. none-after (h.of_rules ++ introspection_places subject) told h.all (λ i. all.1 v.valid i ++ nothing.1 (v.introspects_nothing refl) i),
      )

  -- what all rules tell, and beside it what the rule against introspection tells where it is asked
  pub told_beside : {E : Type 0} (is_disabled : Bool) (rules kept : List RuleError) (r : Result (List RuleError) E) → AllRules scalars subject (places rules) → places kept ≡ asked_places is_disabled subject
      → IfOk r (IsPermutation (rules ++ kept)) → IfOk r (λ es. RequestTold scalars subject is_disabled (places es))
  told_beside is_disabled rules kept (Err e) all is moved = tt
  told_beside is_disabled rules kept (Ok es) all is moved = at is_disabled is
    where
      together : IsPermutation (places rules ++ places kept) (places es)
      together =
          subst (λ ps. IsPermutation ps (places es)) (map-append (λ (e : RuleError). e.locations) rules kept)
          (IsPermutation-map {P = RuleError} {X = List SourcePosition} (λ e. e.locations) (rules ++ kept) es moved)

      at : (q : Bool) → places kept ≡ asked_places q subject → RequestTold scalars subject q (places es)
      at true is = record { of_rules = places rules; rules_told = all; all = subst (λ ps. IsPermutation (places rules ++ ps) (places es)) is together }
      at false is = all_permuted (places rules) (places es) (subst (λ ps. IsPermutation ps (places es)) (ap (λ ps. places rules ++ ps) is ∙ append-nil (places rules)) together) all

  -- errors of the rule that fields merge, where the first stage told nothing
  pub merged : {E : Type 0} (r : Result (List RuleError) E) → FirstStage scalars subject [] → Settled (fragments_listed subject.document)
      → IfOk r (λ es. Settled (fragments_listed subject.document) → IsSound scalars.eq subject.schema.types (document_sets subject.schema subject.document) (places es)
      × IsDirect scalars.eq subject.schema.types (document_sets subject.schema subject.document) (places es) × IsComplete scalars.eq subject.schema.types (document_sets subject.schema subject.document) (places es))
      → IfOk r (λ es. AllRules scalars subject (places es))
  merged (Ok es) first settled h = let p = h settled in of_merging first (record { sound = p.0; direct = p.1; complete = p.2 })
  merged (Err e) first settled h = tt

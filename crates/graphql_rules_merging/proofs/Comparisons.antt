-- Fields are compared, one pair after the other.
use Rattle.std.proofs.Common.{◌≡◌, refl, ap, sym, subst, ◌∙◌, ℕ, ◌+◌, ◌<◌, Bool, List, [], ◌∷◌, ◌++◌, map, take, drop, length, get_or, append-nil, append_assoc, add-one}
use Rattle.std.proofs.Math.Seq.{drop-cons}
use Rattle.std.proofs.lemmas.List.{take_more, map-append}
use Rattle.graphql_text.specs.declared.position.SourcePosition.{SourcePosition}
use Rattle.graphql_schema.specs.declared.meta.MetaType.{MetaType}
use Rattle.graphql_merging.specs.Members.{Member}
use Rattle.graphql_merging.specs.Pieces.{Pieces, PieceField}
use Rattle.graphql_merging.specs.Told.{Names, AddsErrors, AgreeIfOneKey}
use Rattle.graphql_merging.proofs.Nested.{one-only}
use Rattle.graphql_merging.proofs.Reports.{adds-nothing, adds-both, adds-one, adds-none}
use Rattle.graphql_rules_merging.specs.declared.agenda.SetPair.{SetPair}
use Rattle.graphql_rules_merging.specs.Agenda.{PairOf, ListsPairs}
use Rattle.graphql_rules_merging.specs.Comparing.{with_each, between, later, Stage, members_in, HasOneKey, own_sets, DoAgree, Compares}
use Rattle.graphql_rules_merging.proofs.Begun.{begins_none, begins_of_none, begins_of_both, begins_of_one}

-- lists of pairs
module _ {X : Type 0} where
  pub with_each_more : {A : Type 0} (s : A → X) (y : X) (xs : List A) (i : ℕ) (x : A) → i < length xs → x ≡ get_or xs i x
      → with_each y (map s (take i xs)) ++ (y, s x) ∷ [] ≡ with_each y (map s (take (i + 1) xs))
  with_each_more s y xs i x within is =
      sym (ap (λ zs. with_each y (map s zs)) (take_more xs i x within ∙ ap (λ z. take i xs ++ z ∷ []) (sym is))
      ∙ ap (with_each y) (map-append s (take i xs) (x ∷ [])) ∙ map-append {B = X × X} (λ z. (y, z)) (map s (take i xs)) (s x ∷ []))

  between-append : (xs ys zs : List X) → between (xs ++ ys) zs ≡ between xs zs ++ between ys zs
  between-append [] ys zs = refl
  between-append (x ∷ xs) ys zs = ap (λ rest. with_each x zs ++ rest) (between-append xs ys zs) ∙ sym (append_assoc (with_each x zs) (between xs zs) (between ys zs))

  pub between_more : {A : Type 0} (s : A → X) (ys : List X) (xs : List A) (i : ℕ) (x : A) → i < length xs → x ≡ get_or xs i x
      → between (map s (take i xs)) ys ++ with_each (s x) ys ≡ between (map s (take (i + 1) xs)) ys
  between_more s ys xs i x within is =
      let one : between (s x ∷ []) ys ≡ with_each (s x) ys = append-nil (with_each (s x) ys) in
      (λ j. between (map s (take i xs)) ys ++ sym one j)
      ∙ sym (ap (λ zs. between (map s zs) ys) (take_more xs i x within ∙ ap (λ z. take i xs ++ z ∷ []) (sym is))
      ∙ ap (λ zs. between zs ys) (map-append s (take i xs) (x ∷ [])) ∙ between-append (map s (take i xs)) (s x ∷ []) ys)

  pub later_more : {A : Type 0} (s : A → X) (xs : List A) (i : ℕ) (x : A) → i < length xs → x ≡ get_or xs i x
      → with_each (s x) (map s (drop (i + 1) xs)) ++ later (map s (drop (i + 1) xs)) ≡ later (map s (drop i xs))
  later_more s xs i x within is =
      let cons : x ∷ drop (i + 1) xs ≡ drop i xs = (λ j. is j ∷ drop (add-one i j) xs) ∙ sym (drop-cons xs i x within) in
      ap (λ zs. later (map s zs)) cons

module _ {S C : Type 0} (eq : S → S → Bool) (types : List (MetaType S C)) (t : Pieces S C) (x : Bool) where
  abbrev FieldPair : Type 0
  FieldPair = PieceField S C × PieceField S C

  abbrev Must : FieldPair → SetPair → Type 0
  Must p = PairOf (own_sets x) (λ q. HasOneKey q × DoAgree eq types x q) (p ∷ [])

  abbrev May : FieldPair → SetPair → Type 0
  May p = PairOf (own_sets x) HasOneKey (p ∷ [])

  pub compares_none : (s : Stage) → Compares eq types t x [] s s
  compares_none s = record {
    told = adds-nothing (AgreeIfOneKey eq types x) s.told;
    begun = begins_of_none t (own_sets x) (λ p. HasOneKey p × DoAgree eq types x p) HasOneKey s.listed;
  }

  pub compares_both : (ps qs : List FieldPair) (s u v : Stage) → Compares eq types t x ps s u → Compares eq types t x qs u v → Compares eq types t x (ps ++ qs) s v
  compares_both ps qs s u v f g = record {
    told = subst (λ ms. AddsErrors (AgreeIfOneKey eq types x) ms s.told v.told) (sym (map-append {B = Member S C × Member S C} members_in ps qs))
        (adds-both (AgreeIfOneKey eq types x) (map members_in ps) (map members_in qs) s.told u.told v.told f.told g.told);
    begun = begins_of_both t (own_sets x) (λ p. HasOneKey p × DoAgree eq types x p) HasOneKey ps qs s.listed u.listed v.listed f.begun g.begun;
  }

  pub compares_unlike : (p : FieldPair) (s : Stage) → (HasOneKey p → ⊥) → Compares eq types t x (p ∷ []) s s
  compares_unlike p s unlike = record {
    told = adds-none (AgreeIfOneKey eq types x) p.0.member p.1.member s.told (λ key. absurd (unlike key));
    begun = begins_none t (Must p) (May p) s.listed
        (λ k h. absurd (unlike (subst HasOneKey (sym (one-only p h.0 h.1)) h.2.0)));
  }

  pub compares_differ : (p : FieldPair) (s u : Stage) (e : List SourcePosition) → HasOneKey p → (DoAgree eq types x p → ⊥) → Names e p.0.member p.1.member
      → u.told ≡ s.told ++ e ∷ [] → u.listed ≡ s.listed → Compares eq types t x (p ∷ []) s u
  compares_differ p s u e key differ names told same = record {
    told = adds-one (AgreeIfOneKey eq types x) p.0.member p.1.member s.told u.told e (λ fits. differ (fits key)) names told;
    begun = subst (ListsPairs t (Must p) (May p) s.listed) (sym same)
        (begins_none t (Must p) (May p) s.listed (λ k h. absurd (differ (subst (DoAgree eq types x) (sym (one-only p h.0 h.1)) h.2.1))));
  }

  pub compares_agree : (p : FieldPair) (s u : Stage) → HasOneKey p → DoAgree eq types x p → u.told ≡ s.told
      → ListsPairs t (λ k. k ≡ own_sets x p) (λ k. k ≡ own_sets x p) s.listed u.listed → Compares eq types t x (p ∷ []) s u
  compares_agree p s u key agree same begun = record {
    told = subst (λ told. AddsErrors (AgreeIfOneKey eq types x) (map members_in (p ∷ [])) s.told told) (sym same) (adds-none (AgreeIfOneKey eq types x) p.0.member p.1.member s.told (λ _. agree));
    begun = begins_of_one t (own_sets x) (λ q. HasOneKey q × DoAgree eq types x q) HasOneKey p s.listed u.listed key begun;
  }

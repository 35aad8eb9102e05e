-- Where going through bundles ends, the errors are as the rule promises.
use Rattle.std.proofs.Common.{◌≡◌, refl, sym, subst, ◌∙◌, arith, ℕ, ◌<◌, Bool, true, List, [], ◌∷◌, map, length, take_all, ◌⊎◌, inl, inr}
use Rattle.std.specs.List.{All, Contains}
use Rattle.std.proofs.lemmas.List.Elements.{Contains-append_left, Contains-append_right, Contains-append_cases}
use Rattle.graphql_values.specs.Laws.{SameByAThird}
use Rattle.graphql_schema.specs.declared.meta.MetaType.{MetaType}
use Rattle.graphql_rule_errors.specs.Places.{Places}
use Rattle.graphql_merging.specs.Contract.{IsSound, IsDirect, IsComplete}
use Rattle.graphql_merging.specs.Done.{all_sets}
use Rattle.graphql_written_out.specs.Trees.{Tree, none, field, inline}
use Rattle.graphql_merging.specs.Members.{Member, Scope, member, inside, members}
use Rattle.graphql_merging.specs.Merging.{SameField, Merging}
use Rattle.graphql_merging.specs.Pieces.{Pieces, PieceField, IsPieceOf, HasOwnPieces}
use Rattle.graphql_merging.specs.Sets.{Set, members_of, directs_in, directs_of}
use Rattle.graphql_merging.specs.Told.{later_pairs}
use Rattle.graphql_merging.proofs.DirectFields.{to-In, from-In, later-In, direct-apart}
use Rattle.graphql_merging.proofs.Nested.{in-nothing}
use Rattle.graphql_bundles.specs.BundleLaws.{AreTold}
use Rattle.graphql_bundles.specs.Direct.{IsVisited, AgreeThrough, AreDirectTold}
use Rattle.graphql_bundles.specs.Ends.{IsEnd, IsShown}
use Rattle.graphql_bundles.specs.Laws.{EndMeetsContract}
use Rattle.graphql_bundles.proofs.Alike.{same-field-by-a-third}
use Rattle.graphql_bundles.proofs.Bundled.{bundles-merge}
use Rattle.graphql_bundles.proofs.DirectClasses.{told-is-direct}
use Rattle.graphql_bundles.proofs.GoingLemmas.{going-meets-contract}

module _ {S C : Type 0} (eq : S → S → Bool) (third : SameByAThird eq) (types : List (MetaType S C)) where
  turned : (a b : Member S C) → SameField eq types a b → SameField eq types b a
  turned a b f = (sym f.0, (f.1.1, f.1.0))

  -- fields of one set that are alike are one field
  alike-same : (set : Set S C) (a b : Member S C) → Contains (directs_of types set) a → Contains (directs_of types set) b
      → AgreeThrough eq types (directs_of types set) a b → SameField eq types a b
  alike-same set a b i j (inl agree) = agree.0 (direct-apart types set.scope set.tree a b i j)
  alike-same set a b i j (inr h) =
      same-field-by-a-third S C eq third types a b h.0 (turned h.0 a (h.2.0 (direct-apart types set.scope set.tree h.0 a h.1 i)))
      (turned h.0 b (h.3.0 (direct-apart types set.scope set.tree h.0 b h.1 j)))

  alike-told : (set : Set S C) (errors : Places) → AreDirectTold eq types (directs_of types set) errors → AreTold S C eq types (directs_of types set) errors
  alike-told set errors told a b i key =
      let both = later-In (directs_of types set) a b (to-In {X = Member S C × Member S C} (a, b) (later_pairs (directs_of types set)) i) in
      elim (told a b i key) [
        | inl alike ↦ inl (alike-same set a b (from-In a (directs_of types set) both.0) (from-In b (directs_of types set) both.1) alike)
        | inr named ↦ inr named
      ]

  -- the direct fields of a set are told
  shown-told : (t : Pieces S C) (definitions : ℕ) (errors : Places)
      → ((p : ℕ) → IsVisited t definitions p → AreDirectTold eq types (map (λ (f : PieceField S C). f.member) (t.direct p)) errors)
      → (set : Set S C) → IsShown t types definitions set → AreTold S C eq types (directs_of types set) errors
  shown-told t definitions errors directs set (inl h) =
      alike-told set errors (subst (λ ms. AreDirectTold eq types ms errors) h.2 (directs h.0 h.1))
  shown-told t definitions errors directs set (inr empty) =
      λ a b i key. in-nothing {X = Member S C × Member S C} (a, b) (subst (λ ms. Contains (later_pairs ms) (a, b)) empty i)

-- the fields that stand directly in a set are among those of the set
module _ {S C : Type 0} (types : List (MetaType S C)) where
  direct-member : (scope : Scope S C) (tree : Tree S) (a : Member S C) → Contains (directs_in types scope tree) a → Contains (members types scope tree) a
  direct-member scope none a i = in-nothing a i
  direct-member scope (field head directives below rest) a i =
      elim (Contains-append_cases (member scope head below) (directs_in types scope rest) a i) [
        | inl j ↦ Contains-append_left (member scope head below) (members types scope rest) a j
        | inr j ↦ Contains-append_right (member scope head below) (members types scope rest) a (direct-member scope rest a j)
      ]
  direct-member scope (inline on directives below rest) a i =
      Contains-append_right (members types (inside types scope on) below) (members types scope rest) a (direct-member scope rest a i)

-- where each set merges, no two fields that stand directly in one differ
merging-direct : {S C : Type 0} (eq : S → S → Bool) (types : List (MetaType S C)) (sets : List (Set S C)) (errors : Places)
    → All (λ set. Merging eq types (members_of types set)) sets → IsDirect eq types sets errors
merging-direct {S} {C} eq types sets errors merge set a b i j key differ =
    let both = later-In (directs_of types set) a b (to-In {X = Member S C × Member S C} (a, b) (later_pairs (directs_of types set)) j) in
    let left = from-In a (directs_of types set) both.0 in
    let right = from-In b (directs_of types set) both.1 in
    let whole = subst (λ (s : Set S C). Merging eq types (members_of types s)) i.2 (merge i.0 set i.1) in
    let meet = whole a b (direct-member types set.scope set.tree a left) (direct-member types set.scope set.tree b right) key in
    absurd (differ ((meet 1).0.0 (direct-apart types set.scope set.tree a b left right)))

module _ {S C : Type 0} (eq : S → S → Bool) (third : SameByAThird eq) (types : List (MetaType S C)) (t : Pieces S C) (roots : List (Set S C)) (definitions : ℕ)
    (within : Bool) (errors : Places) (owns : HasOwnPieces t eq types)
    (number : (set : Set S C) → Contains roots set → (k : ℕ) × (k < definitions) × IsPieceOf t k (members_of types set))
    (shown : (set : Set S C) → Contains (all_sets types roots) set → IsShown t types definitions set)
    (end : IsEnd t eq types definitions within errors) (bound : (within ≡ true) ⊎ (errors ≡ [] → ⊥)) where
  -- nothing is told: all bundles are gone through, so that each set merges
  none-told : errors ≡ [] → IsDirect eq types (all_sets types roots) errors
  none-told untold =
      let bundles = end.stage.bundles in
      let is : within ≡ true = elim bound [ inl e ↦ e | inr some ↦ absurd (some untold) ] in
      merging-direct eq types (all_sets types roots) errors
      (bundles-merge S C eq third types roots t bundles end.stage.told owns
      (λ set i. let k = number set i in (k.0, k.2, end.going.begun (end.bound ∙ is) k.0 k.1))
      (λ b i. end.going.passed (end.bound ∙ is) b (subst (λ bs. Contains bs b) (sym (take_all (length bundles) bundles (omega arith))) i))
      (end.told ∙ untold))

  -- something is: so are the fields that stand directly in one set
  some-told : (errors ≡ [] → ⊥) → IsDirect eq types (all_sets types roots) errors
  some-told some =
      told-is-direct S C eq types (all_sets types roots) errors (λ set i. shown-told eq third types t definitions errors (end.directs some) set (shown set i))

  direct : IsDirect eq types (all_sets types roots) errors
  direct = cases errors refl
    where
      cases : (es : Places) → errors ≡ es → IsDirect eq types (all_sets types roots) errors
      cases [] e = none-told e
      cases (d ∷ es) e = some-told (λ untold. filled (sym e ∙ untold))
        where
          filled : d ∷ es ≡ [] → ⊥
          filled f = cc

pub end-meets-contract : (S C : Type 0) (eq : S → S → Bool) → SameByAThird eq → EndMeetsContract S C eq
end-meets-contract S C eq third types t roots definitions within errors owns root number shown end bound =
    subst (λ es. IsSound eq types (all_sets types roots) es × IsDirect eq types (all_sets types roots) es × IsComplete eq types (all_sets types roots) es) end.told
    (going-meets-contract S C eq third types t roots definitions end.stage owns root number end.going
    (elim bound [ inl e ↦ inl (end.bound ∙ e) | inr some ↦ inr (λ untold. some (sym end.told ∙ untold)) ])
    (subst (λ es. IsDirect eq types (all_sets types roots) es) (sym end.told)
    (direct eq third types t roots definitions within errors owns number shown end bound)))

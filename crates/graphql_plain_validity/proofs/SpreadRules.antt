-- Inline fragments that stand for spreads apply where the spreads do (GraphQL October 2021, 5.5.2.3 Fragment Spread Is Possible).
use Rattle.std.proofs.Common.{◌≡◌, refl, sym, ◌∙◌, ap, subst, Bool, true, false, List, [], ◌∷◌, map, Option, Some, None, cond, inl, inr}
use Rattle.std.specs.Prelude.{◌↔◌}
use Rattle.std.specs.Option.{ForSome, option_map}
use Rattle.std.specs.Str.{bytes_eq}
use Rattle.std.proofs.lemmas.Option.{none-some, same_Some}
use Rattle.graphql_names.specs.Names.{Bytes, named}
use Rattle.graphql_scalars.specs.ScalarAnswers.{ScalarAnswer}
use Rattle.graphql_values.specs.InputValues.{Placed, unplaced}
use Rattle.graphql_tree.specs.Definitions.{fragment_named, fragments_listed, fragments_of}
use Rattle.graphql_tree.specs.Unlocated.{unlocated_name}
use Rattle.graphql_tree.specs.declared.document.Definition.{Definition}
use Rattle.graphql_tree.specs.declared.document.Fragment.{Fragment}
use Rattle.graphql_schema.specs.declared.meta.MetaType.{MetaType}
use Rattle.graphql_schema.specs.Declarations.{Declarations}
use Rattle.graphql_occurrences.specs.Occurrences.{occurrences}
use Rattle.graphql_occurrences.specs.Parts.{InlinePart, SpreadPart, AnInline, ASpread}
use Rattle.graphql_rules.specs.Laws.{MayApply}
use Rattle.graphql_rules.specs.PossibleFragmentSpreads.{possible_fragment_spreads_faults}
use Rattle.graphql_rules.proofs.LawLemmas.{spreads_possible}
use Rattle.graphql_written_out.specs.Written.{fragment_meant}
use Rattle.graphql_plain_validity.specs.StemmingParts.{StandsForSpread, inline_for}
use Rattle.graphql_plain_validity.specs.PartKinds.{unplaced_inline}
use Rattle.graphql_plain_validity.proofs.PartKinds.{inline-stems, no-spread-stems}
use Rattle.graphql_plain_validity.specs.RuleLaws.{StaysSilent, subject_of}
use Rattle.graphql_plain_validity.proofs.KindsStay.{occurs, stems}
use Rattle.graphql_plain_validity.proofs.LiteralRules.{mapped-from}

-- to look up among images is to look up what they are images of
pub named-map : {A B : Type 0} (name_of : B → Bytes) (f : A → B) (xs : List A) (name : Bytes)
    → named name_of (map f xs) name ≡ option_map f (named (λ x. name_of (f x)) xs name)
named-map name_of f [] name = refl
named-map name_of f (x ∷ xs) name =
    elim (bytes_eq (name_of (f x)) name) as
    (λ b. cond b (Some (f x)) (named name_of (map f xs) name) ≡ option_map f
    (cond b (Some x) (named (λ y. name_of (f y)) xs name)))
    [ true ↦ refl | false ↦ named-map name_of f xs name ]

module _ {S C : Type 0} (answer : S → ScalarAnswer) (of_bool : Bool → S)
    (schema : Declarations S C) where
  -- the condition, where there is one, may apply
  abbrev Applies : InlinePart S C → Type 0
  Applies i = ForSome i.condition (λ n. MayApply schema i.parent n.item)

  condition-bare : (parent : MetaType S C) (c : Option (Placed Bytes))
      → ForSome c (λ n. MayApply schema parent n.item) ↔ ForSome (option_map unlocated_name c) (λ n. MayApply schema parent n.item)
  condition-bare parent None =
      (λ h n is. absurd (none-some n is), λ h n is. absurd (none-some n is))
  condition-bare parent (Some m) = (
    λ h n is. subst (λ (x : Placed Bytes). MayApply schema parent x.item)
        (same_Some (unlocated_name m) n is) (h m refl),
    λ h n is. subst (λ (x : Placed Bytes). MayApply schema parent x.item) (same_Some m n is)
        (h (unlocated_name m) refl),
  )

  same-applies : (i j : InlinePart S C) → unplaced_inline i ≡ unplaced_inline j → Applies j
      → Applies i
  same-applies i j same h =
      (condition-bare i.parent i.condition).1
      (subst Applies (sym same) ((condition-bare j.parent j.condition).0 h))

  -- what stands for a spread may apply where the spread's fragment may
  stands-applies : (document : List (Definition S)) (s : SpreadPart S C) (f : Fragment S)
      → fragment_meant (fragments_listed document) s.name.item ≡ Some f
      → ForSome (fragment_named document s.name.item) (λ p. MayApply schema s.parent p.item.type_condition.item)
      → Applies (inline_for s f)
  stands-applies document s f meant h n is =
      let p =
      mapped-from (λ (g : Placed (Fragment S)). g.item) (fragment_named document s.name.item) f
      (sym
      (named-map (λ (g : Fragment S). g.name.item) (λ (g : Placed (Fragment S)). g.item)
      (fragments_of document) s.name.item) ∙ meant) in
      subst (λ (x : Placed Bytes). MayApply schema s.parent x.item)
      (same_Some (unplaced f.type_condition.item) n is)
      (subst (λ (g : Fragment S). MayApply schema s.parent g.type_condition.item) p.2 (h p.0 p.1))

  pub spreads-stay-possible : StaysSilent answer of_bool schema possible_fragment_spreads_faults
  spreads-stay-possible document again is e =
      let old = (spreads_possible (subject_of schema document) (occurrences schema document)).0 e in
      let o = is.operation in
      let there = occurs answer of_bool schema document again is in
      (spreads_possible (subject_of schema again) (occurrences schema again)).1 (
        λ s i. absurd
            (no-spread-stems schema document o of_bool s
            (stems answer of_bool schema document again is (ASpread s) i)),
        λ i here. elim
            (inline-stems schema document o of_bool i
            (stems answer of_bool schema document again is (AnInline i) here)) [
              | inl r ↦ same-applies i r.0 r.2 (old.1 r.0 (there (AnInline r.0) r.1))
              | inr m ↦ (let z : StandsForSpread schema document o m.0 = m.1 in
                  same-applies i (inline_for z.spread z.fragment) (m.2 ∙ ap unplaced_inline z.is)
                  (stands-applies document z.spread z.fragment z.meant
                  (old.0 z.spread (there (ASpread z.spread) z.reached))))
            ],
      )

-- Literals conform in a document where they do in one that differs in places alone.
use Rattle.std.proofs.Common.{◌≡◌, refl, sym, ◌∙◌, ap, subst, List}
use Rattle.std.specs.Cmp.{IsEquivalence}
use Rattle.std.specs.List.{Contains}
use Rattle.std.specs.Option.{IsSome, option_map}
use Rattle.graphql_values.specs.InputValues.{Placed, unplaced, unlocated}
use Rattle.graphql_values.specs.SameValue.{SameValue}
use Rattle.graphql_values.specs.declared.input_value.InputValue.{InputValue}
use Rattle.graphql_tree.specs.Unlocated.{without_place, unlocated_document}
use Rattle.graphql_tree.specs.declared.document.Definition.{Definition}
use Rattle.graphql_schema.specs.Scalars.{Scalars}
use Rattle.graphql_schema.specs.Types.{TypeOf}
use Rattle.graphql_schema.specs.Declarations.{Declarations}
use Rattle.graphql_literal_checks.specs.Conforms.{Conforms}
use Rattle.graphql_literal_checks.specs.declared.source.Source.TheVariants.{Literal}
use Rattle.graphql_literal_checks.proofs.UnlocatedLemmas.{conforms_without_places}
use Rattle.graphql_occurrences.specs.Lookups.{known}
use Rattle.graphql_occurrences.specs.Occurrences.{occurrences}
use Rattle.graphql_occurrences.specs.Parts.{ADirective, AField, AnInline, ASpread, Condition, Given, GivenPart, ObjectOf, Part, VariableDefined, VariablePart, VariableUsed}
use Rattle.graphql_occurrences.specs.Unlocated.{unlocated_part, unlocated_variable_part}
use Rattle.graphql_occurrences.proofs.UnlocatedParts.{document_unlocated}
use Rattle.graphql_rules.proofs.LiteralLaws.{arguments_none, defaults_none}
use Rattle.graphql_rules_document.proofs.ListItems.{contains-map, image-of}
use Rattle.graphql_plain_validity.specs.RuleLaws.{ArgumentsConform, DefaultsConform}
use Rattle.graphql_plain_validity.specs.PartKinds.{unplaced_given}
use Rattle.graphql_plain_validity.proofs.LiteralRules.{arguments-respect, mapped-from}

module _ {S C : Type 0} where
  given-of : (x : Part S C) (g : GivenPart S) → unlocated_part x ≡ unlocated_part (Given g)
      → (h : GivenPart S) × (x ≡ Given h) × (unplaced_given g ≡ unplaced_given h)
  given-of (Given h) g e =
      let z : unplaced_given h ≡ unplaced_given g = cc in (h, refl, sym z)
  given-of (VariableDefined v) g e = absurd (cc)
  given-of (Condition n) g e = absurd (cc)
  given-of (AField f) g e = absurd (cc)
  given-of (ASpread s) g e = absurd (cc)
  given-of (AnInline i) g e = absurd (cc)
  given-of (ADirective d) g e = absurd (cc)
  given-of (ObjectOf n) g e = absurd (cc)
  given-of (VariableUsed u) g e = absurd (cc)

  variable-of : (x : Part S C) (v : VariablePart S) → unlocated_part x
      ≡ unlocated_part (VariableDefined v)
      → (w : VariablePart S) × (x ≡ VariableDefined w)
      × (unlocated_variable_part w ≡ unlocated_variable_part v)
  variable-of (VariableDefined w) v e = (
    w,
    refl,
    (let z : unlocated_variable_part w ≡ unlocated_variable_part v = cc in z),
  )
  variable-of (Given g) v e = absurd (cc)
  variable-of (Condition n) v e = absurd (cc)
  variable-of (AField f) v e = absurd (cc)
  variable-of (ASpread s) v e = absurd (cc)
  variable-of (AnInline i) v e = absurd (cc)
  variable-of (ADirective d) v e = absurd (cc)
  variable-of (ObjectOf n) v e = absurd (cc)
  variable-of (VariableUsed u) v e = absurd (cc)

module _ {S C : Type 0} (scalars : Scalars S C) (laws : IsEquivalence scalars.eq)
    (respects : (c : C) (a b : InputValue S) → SameValue S scalars.eq a b → scalars.accepts c a → scalars.accepts c b)
    (schema : Declarations S C) (document again : List (Definition S))
    (same : unlocated_document document ≡ unlocated_document again) where
  -- a part of the one is, places aside, a part of the other
  part-of : (x : Part S C) → Contains (occurrences schema again) x
      → (y : Part S C) × Contains (occurrences schema document) y
      × (unlocated_part y ≡ unlocated_part x)
  part-of x i =
      image-of unlocated_part (occurrences schema document) (unlocated_part x)
      (subst (λ ps. Contains ps (unlocated_part x))
      (sym (document_unlocated schema again) ∙ ap (occurrences schema) (sym same)
      ∙ document_unlocated schema document)
      (contains-map unlocated_part (occurrences schema again) x i))

  pub arguments-conform : ArgumentsConform schema scalars document
      → ArgumentsConform schema scalars again
  arguments-conform told =
      (arguments_none scalars (record { schema = schema; document = again })
      (occurrences schema again)).1
      (λ g i.
      let p = part-of (Given g) i in
      let h = given-of p.0 g p.2 in
      arguments-respect scalars laws respects schema.types h.0 g h.2
      ((arguments_none scalars (record { schema = schema; document = document })
      (occurrences schema document)).0 told
      h.0 (subst (Contains (occurrences schema document)) h.1 p.1)))

  abbrev F : TypeOf → InputValue S → Type 0
  F = Conforms scalars schema.types Literal

  same-fits : (t : TypeOf) (v w : InputValue S) → unlocated v ≡ unlocated w → F t v → F t w
  same-fits t v w alike h =
      (conforms_without_places scalars laws respects schema.types Literal t w).1
      (subst (F t) alike
      ((conforms_without_places scalars laws respects schema.types Literal t v).0 h))

  pub defaults-conform : DefaultsConform schema scalars document
      → DefaultsConform schema scalars again
  defaults-conform told =
      (defaults_none scalars (record { schema = schema; document = again })
      (occurrences schema again)).1
      (λ w i is_known default is.
      let p = part-of (VariableDefined w) i in
      let v = variable-of p.0 w p.2 in
      let fit = (defaults_none scalars (record { schema = schema; document = document })
      (occurrences schema document)).0 told
      v.0 (subst (Contains (occurrences schema document)) v.1 p.1) in
      let type : w.type_of.item ≡ v.0.type_of.item =
      ap (λ (x : VariablePart S). x.type_of.item) (sym v.2) in
      let o = mapped-from (without_place unlocated) v.0.default (unplaced (unlocated default.item))
      (ap (λ (x : VariablePart S). x.default) v.2
      ∙ ap (option_map (without_place unlocated)) is) in
      subst (λ t. F t default.item) (sym type)
      (same-fits v.0.type_of.item o.0.item default.item
      (ap (λ (x : Placed (InputValue S)). x.item) o.2)
      (fit (subst (λ t. IsSome (known schema t.name)) type is_known) o.0 o.1)))

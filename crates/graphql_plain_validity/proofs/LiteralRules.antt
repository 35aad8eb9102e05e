-- Literals that conform in a document conform in its plain document (GraphQL October 2021, 5.6.1 Values of Correct Type).
use Rattle.std.proofs.Common.{◌≡◌, refl, sym, ◌∙◌, ap, subst, true, List, [], ◌∷◌, Option, Some, None, codes}
use Rattle.std.specs.Cmp.{IsEquivalence}
use Rattle.std.specs.Option.{IsSome, option_map}
use Rattle.std.proofs.lemmas.Option.{none-some, same_Some}
use Rattle.graphql_values.specs.InputValues.{Placed, unplaced, unlocated}
use Rattle.graphql_values.specs.SameValue.{SameValue}
use Rattle.graphql_values.specs.declared.input_value.InputValue.{InputValue}
use Rattle.graphql_values.specs.declared.input_value.InputValue.TheVariants as value
use Rattle.graphql_tree.specs.Arguments.{Argument}
use Rattle.graphql_tree.specs.Unlocated.{without_place}
use Rattle.graphql_schema.specs.Scalars.{Scalars}
use Rattle.graphql_schema.specs.Types.{TypeOf}
use Rattle.graphql_schema.specs.declared.meta.argument.Argument.{Argument as Declared}
use Rattle.graphql_schema.specs.declared.meta.MetaType.{MetaType}
use Rattle.graphql_schema.specs.Declarations.{Declarations}
use Rattle.graphql_schema.specs.Directives.{has_standard_conditions}
use Rattle.graphql_literal_checks.specs.Conforms.{Conforms, scalar}
use Rattle.graphql_literal_checks.specs.declared.source.Source.TheVariants.{Literal}
use Rattle.graphql_literal_checks.proofs.UnlocatedLemmas.{conforms_without_places}
use Rattle.graphql_occurrences.specs.Lookups.{argument_named, known}
use Rattle.graphql_occurrences.specs.Occurrences.{occurrences}
use Rattle.graphql_occurrences.specs.Parts.{GivenPart, VariablePart}
use Rattle.graphql_occurrences.specs.Unlocated.{unlocated_variable_part}
use Rattle.graphql_rules.specs.Laws.{ArgumentsFit, DefaultFits}
use Rattle.graphql_rules.proofs.LiteralLaws.{arguments_none, defaults_none}
use Rattle.graphql_rules_document.proofs.ListItems.{only-one}
use Rattle.graphql_plain_validity.specs.StemmingParts.{skip_given}
use Rattle.graphql_plain_validity.specs.PartKinds.{unplaced_given}
use Rattle.graphql_plain_validity.specs.RuleLaws.{ArgumentsStayConforming, DefaultsStayConforming}
use Rattle.graphql_plain_validity.specs.Schemas.{TakesTrue}
use Rattle.graphql_plain_validity.proofs.KindsStay.{Respects, givens-stay, variables-stay}
use Rattle.graphql_plain_validity.proofs.LocalRules.{also-given}
use Rattle.graphql_plain_validity.proofs.StandIns.{if_argument, skip-declares}

-- what a function is applied to, where it gives something
pub mapped-from : {A B : Type 0} (f : A → B) (o : Option A) (y : B) → option_map f o ≡ Some y
    → (x : A) × (o ≡ Some x) × (f x ≡ y)
mapped-from f (Some x) y e = (x, refl, same_Some (f x) y e)
mapped-from f None y e = absurd (none-some y e)

module _ {S C : Type 0} (scalars : Scalars S C) (laws : IsEquivalence scalars.eq)
    (respects : (c : C) (a b : InputValue S) → SameValue S scalars.eq a b → scalars.accepts c a → scalars.accepts c b) where
  module _ (types : List (MetaType S C)) where
    abbrev F : TypeOf → InputValue S → Type 0
    F = Conforms scalars types Literal

    -- of values that are the same without places one conforms where the other does
    same-fits : (t : TypeOf) (v w : InputValue S) → unlocated v ≡ unlocated w → F t v → F t w
    same-fits t v w same h =
        (conforms_without_places scalars laws respects types Literal t w).1
        (subst (F t) same
        ((conforms_without_places scalars laws respects types Literal t v).0 h))

    pub arguments-respect : Respects unplaced_given (ArgumentsFit scalars types)
    arguments-respect g h same fit declared is a there d found =
        let b = also-given g h same a there in
        let declares : g.declared ≡ Some declared =
        sym (ap (λ (x : GivenPart S). x.declared) same) ∙ is in
        let named : argument_named declared b.0.0.item ≡ Some d =
        ap (λ (x : Argument S). argument_named declared x.0.item) b.2 ∙ found in
        same-fits d.arg_type b.0.1.item a.1.item (ap (λ (x : Argument S). x.1.item) b.2)
        (fit declared declares b.0 b.1 d named)

  module _ (schema : Declarations S C) where
    pub defaults-respect : Respects unlocated_variable_part (DefaultFits scalars schema)
    defaults-respect v w same fit is_known default is =
        let type : w.type_of.item ≡ v.type_of.item =
        ap (λ (x : VariablePart S). x.type_of.item) same in
        let o = mapped-from (without_place unlocated) v.default (unplaced (unlocated default.item))
        (sym (ap (λ (x : VariablePart S). x.default) same)
        ∙ ap (option_map (without_place unlocated)) is) in
        subst (λ t. F schema.types t default.item) (sym type)
        (same-fits schema.types v.type_of.item o.0.item default.item
        (ap (λ (x : Placed (InputValue S)). x.item) o.2)
        (fit (subst (λ t. IsSome (known schema t.name)) type is_known) o.0 o.1))

    pub defaults-stay : DefaultsStayConforming scalars schema
    defaults-stay document again is told =
        (defaults_none scalars (record { schema = schema; document = again })
        (occurrences schema again)).1
        (variables-stay scalars.answer scalars.of_bool schema document again is
        (DefaultFits scalars schema) defaults-respect
        ((defaults_none scalars (record { schema = schema; document = document })
        (occurrences schema document)).0 told))

    module _ (standard : has_standard_conditions schema.directives ≡ true)
        (takes : TakesTrue scalars.accepts schema scalars.of_bool) where
      -- `true` conforms to `Boolean!`
      true-fits : F schema.types (if_argument {S = S} (skip-declares schema standard).0).arg_type (value.Scalar (scalars.of_bool true))
      true-fits = scalar _ takes.boolean (scalars.of_bool true) refl takes.declared takes.takes

      skip-fits : ArgumentsFit scalars schema.types (skip_given schema scalars.of_bool)
      skip-fits declared is a there d found =
          let one = only-one _ a there in
          let argument = if_argument {S = S} (skip-declares schema standard).0 in
          let declares : argument ∷ [] ≡ declared =
          same_Some _ declared (sym (skip-declares schema standard).1 ∙ is) in
          let same : argument ≡ d =
          same_Some argument d
          (ap (λ ds. argument_named ds (codes "if")) declares
          ∙ ap (λ (x : Argument S). argument_named declared x.0.item) one ∙ found) in
          subst (λ (x : Declared S). F schema.types x.arg_type a.1.item) same
          (subst (λ (x : Argument S). F schema.types argument.arg_type x.1.item) one true-fits)

    pub arguments-stay : ArgumentsStayConforming scalars schema
    arguments-stay standard takes document again is told =
        (arguments_none scalars (record { schema = schema; document = again })
        (occurrences schema again)).1
        (givens-stay scalars.answer scalars.of_bool schema document again is
        (ArgumentsFit scalars schema.types) (arguments-respect schema.types)
        (skip-fits standard takes)
        ((arguments_none scalars (record { schema = schema; document = document })
        (occurrences schema document)).0 told))

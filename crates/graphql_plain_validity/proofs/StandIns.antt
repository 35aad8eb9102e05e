-- The directive of a stand-in, where the schema's `skip` is the standard's.
use Rattle.std.proofs.Common.{◌≡◌, refl, ◌∙◌, ap, Bool, true, false, ◌&&◌, List, [], ◌∷◌, Option, Some, None, codes}
use Rattle.std.specs.Prelude.{MatchOption}
use Rattle.std.specs.List.{list_all}
use Rattle.std.proofs.lemmas.Bool.{false≢true}
use Rattle.graphql_names.specs.Names.{Bytes, passes}
use Rattle.graphql_schema.specs.declared.directive.DirectiveType.{DirectiveType}
use Rattle.graphql_schema.specs.declared.directive_location.DirectiveLocation.TheVariants as location
use Rattle.graphql_schema.specs.declared.meta.argument.Argument.{Argument as Declared}
use Rattle.graphql_schema.specs.Declarations.{Declarations}
use Rattle.graphql_schema.specs.Directives.{IsCondition, directive_named, has_standard_conditions, is_condition, is_condition_only, is_place, required_argument, selections}
use Rattle.graphql_schema.proofs.DirectivesConditions.{conditions_decide}
use Rattle.graphql_occurrences.specs.DeclaredLookups.{directive_arguments}
use Rattle.graphql_rules.specs.Laws.{IsPlaced}
use Rattle.graphql_plain_validity.specs.StemmingParts.{skip_at}

both : (a b : Bool) → (a && b) ≡ true → (a ≡ true) × (b ≡ true)
both true b h = (refl, h)
both false b h = absurd (false≢true h)

module _ {S : Type 0} where
  -- the one argument of a condition: `if: Boolean!`
  abbrev pub if_argument : Option Bytes → Declared S
  if_argument description =
      record (required_argument (codes "if") (codes "Boolean")) { description = description }

  found : (o : Option (DirectiveType S)) → passes is_condition o ≡ true
      → MatchOption o ⊥ IsCondition
      → (d : DirectiveType S) × (o ≡ Some d) × (is_condition d ≡ true) × IsCondition d
  found (Some d) t c = (d, refl, t, c)
  found None t c = absurd c

  skip-is : (directives : List (DirectiveType S)) → has_standard_conditions directives ≡ true
      → (d : DirectiveType S) × (directive_named directives (codes "skip") ≡ Some d)
      × (is_condition d ≡ true) × IsCondition d
  skip-is directives h =
      let skip = directive_named directives (codes "skip") in
      found skip
      (both (passes is_condition skip)
      (passes is_condition (directive_named directives (codes "include"))) h).0
      ((conditions_decide directives).0 h).0

  -- it may stand at fields and at inline fragments
  places : (d : DirectiveType S) → is_condition d ≡ true
      → (is_place d.locations location.Field ≡ true)
      × (is_place d.locations location.InlineFragment ≡ true)
  places d t =
      let whole = both _ (is_condition_only d.arguments) t in
      let all = both _ (list_all (is_place selections) d.locations) whole.0 in
      let at = both _ (list_all (is_place d.locations) selections) all.0 in
      let field = both (is_place d.locations location.Field) _ at.1 in
      let spread = both (is_place d.locations location.FragmentSpread) _ field.1 in
      (field.0, (both (is_place d.locations location.InlineFragment) true spread.1).0)

module _ {S C : Type 0} (schema : Declarations S C)
    (standard : has_standard_conditions schema.directives ≡ true) where
  -- what `skip` declares
  pub skip-declares : (description : Option Bytes)
      × (directive_arguments (directive_named schema.directives (codes "skip"))
      ≡ Some (if_argument {S = S} description ∷ []))
  skip-declares =
      let d = skip-is schema.directives standard in
      (d.3.argument.0, ap directive_arguments d.1 ∙ ap Some d.3.argument.1)

  pub skip-at-field : IsPlaced (skip_at schema location.Field)
  skip-at-field = let d = skip-is schema.directives standard in (d.0, d.1, (places d.0 d.2).0)

  pub skip-at-inline : IsPlaced (skip_at schema location.InlineFragment)
  skip-at-inline = let d = skip-is schema.directives standard in (d.0, d.1, (places d.0 d.2).1)

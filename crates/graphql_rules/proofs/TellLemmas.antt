-- What is told of literals, and reports of which a relation holds.
use Rattle.std.proofs.Common.{◌≡◌, ℕ, ◌+◌, ◌<◌, List, [], ◌∷◌, ◌++◌, length, get_or, take, refl, sym, ap, subst, ◌∙◌, append-nil}
use Rattle.std.specs.List.{flat_map}
use Rattle.std.proofs.lemmas.Grind.{flat_map-append}
use Rattle.std.proofs.lemmas.List.{take_more}
use Rattle.graphql_schema.specs.Scalars.{Scalars}
use Rattle.graphql_schema.specs.declared.meta.MetaType.{MetaType}
use Rattle.graphql_rule_errors.specs.Places.{Places}
use Rattle.graphql_visitors.specs.Reports.{ReportsBy}
use Rattle.graphql_visitors.specs.Rules.{Tell}
use Rattle.graphql_visitors.specs.declared.context.ValidatorContext.{ValidatorContext}
use Rattle.graphql_rules.specs.Literals.{Asked, Misfits}
use Rattle.graphql_visitors.proofs.RuleLemmas.{tell_append}
use Rattle.graphql_visitors.proofs.RunLemmas.{reported_none, reports_after}

module _ {S C : Type 0} (Told : Places → Type 0) (c : ValidatorContext S C) where
  reports_none : Told [] → ReportsBy Told c c
  reports_none met = record { as_before = refl; reported = λ m. ([], met, reported_none c m) }

module _ {S C : Type 0} (scalars : Scalars S C) (types : List (MetaType S C)) where
  -- of no literal nothing is told
  pub reports_no_literal : (asked : List (Asked S)) (c : ValidatorContext S C) → asked ≡ [] → ReportsBy (Misfits scalars types asked) c c
  reports_no_literal asked c none = subst (λ xs. ReportsBy (Misfits scalars types xs) c c) (sym none) (reports_none (Misfits scalars types []) c refl)

module _ {S C X A : Type 0} (Says : List (MetaType S C) → X → Places → Type 0) (f : A → List X) where
  -- a loop past i of the items, by the types of the context's schema
  pub reports_next : (xs : List A) (i : ℕ) (x : A) → i < length xs → x ≡ get_or xs i x → (a b c : ValidatorContext S C)
      → ReportsBy (Tell (Says a.schema.now.types) (flat_map f (take i xs))) a b → ReportsBy (Tell (Says b.schema.now.types) (f x)) b c → ReportsBy (Tell (Says a.schema.now.types) (flat_map f (take (i + 1) xs))) a c
  reports_next xs i x within is a b c before here =
      let says = Says a.schema.now.types in
      let next : flat_map f (take (i + 1) xs) ≡ flat_map f (take i xs) ++ f x =
      ap (flat_map f) (take_more xs i x within ∙ ap (λ y. take i xs ++ y ∷ []) (sym is)) ∙ flat_map-append f (take i xs) (x ∷ []) ∙ ap (λ ys. flat_map f (take i xs) ++ ys) (append-nil (f x)) in
      let there : ReportsBy (Tell says (f x)) b c = subst (λ types. ReportsBy (Tell (Says types) (f x)) b c) (ap {A = ValidatorContext S C} (λ z. z.schema.now.types) before.as_before) here in
      subst (λ ys. ReportsBy (Tell says ys) a c) (sym next)
      (reports_after (Tell says (flat_map f (take i xs))) (Tell says (f x)) (Tell says (flat_map f (take i xs) ++ f x)) a b c
      (λ ts us p q. tell_append says (flat_map f (take i xs)) (f x) ts us p q) before there)

-- Where literals conform, and that what is told of literals is determined.
use Rattle.std.proofs.Common.{◌≡◌, ◌↔◌, List, [], ◌∷◌, ◌++◌, Bool, true, false, Option, Some, None, if◌then◌else◌, inl, inr, length, refl, sym, ap, subst, ◌∙◌, arith}
use Rattle.std.specs.List.{Contains, flat_map, AllByRecursion as Each}
use Rattle.std.specs.Option.{ForSome, is_some, option_map, option_to_list}
use Rattle.std.proofs.lemmas.Bool.{false≢true}
use Rattle.std.proofs.lemmas.List.Elements.{All-contains, All-from_recursion, recursion_from_All, Contains-get_or}
use Rattle.std.proofs.lemmas.Option.{none-some, same_Some}
use Rattle.graphql_schema.specs.Scalars.{Scalars}
use Rattle.graphql_schema.specs.declared.meta.argument.Argument.{Argument as Declared}
use Rattle.graphql_schema.specs.declared.meta.MetaType.{MetaType}
use Rattle.graphql_occurrences.specs.Lookups.{argument_named, known}
use Rattle.graphql_occurrences.specs.Parts.{GivenPart, Part, VariablePart, VariableDefined, Given}
use Rattle.graphql_rule_errors.specs.Places.{Places}
use Rattle.graphql_tree.specs.Arguments.{Argument}
use Rattle.graphql_visitors.specs.Rules.{Tell}
use Rattle.graphql_visitors.specs.Subjects.{Subject}
use Rattle.graphql_rules.specs.ArgumentsOfCorrectType.{arguments_of_correct_type_faults, asked_argument, literal_of, literals_among}
use Rattle.graphql_rules.specs.DefaultValuesOfCorrectType.{asked_default, defaults_asked, default_values_of_correct_type_faults}
use Rattle.graphql_rules.specs.Laws.{ArgumentsFit, DefaultFits}
use Rattle.graphql_rules.specs.Literals.{Asked, LiteralConforms, LiteralJudged, Misfits}

module _ {X : Type 0} (Says : X → Places → Type 0) where
  -- where what is told of each item is determined, so is what is told of them all
  pub tell_one : ((x : X) (ts us : Places) → Says x ts → Says x us → ts ≡ us) → (xs : List X) (ts us : Places) → Tell Says xs ts → Tell Says xs us → ts ≡ us
  tell_one one [] ts us h k = h ∙ sym k
  tell_one one (x ∷ xs) ts us h k = h.2 ∙ (λ i. one x h.0 k.0 h.3 k.3 i ++ tell_one one xs h.1 k.1 h.4 k.4 i) ∙ sym k.2

  parts_empty : (ts us : Places) → [] ≡ ts ++ us → (ts ≡ []) × (us ≡ [])
  parts_empty [] us h = (refl, sym h)
  parts_empty (t ∷ ts) us h = absurd (omega (arith, ap length h))

  -- nothing may be told exactly where nothing may be told of any item
  pub tell_none : (xs : List X) → Tell Says xs [] ↔ Each (λ x. Says x []) xs
  tell_none [] = (λ h. tt, λ h. refl)
  tell_none (x ∷ xs) = (
    λ h. let parts = parts_empty h.0 h.1 h.2 in (subst (Says x) parts.0 h.3, (tell_none xs).0 (subst (Tell Says xs) parts.1 h.4)),
    λ h. ([], [], refl, h.0, (tell_none xs).1 h.1),
  )

module _ {A : Type 0} (P : A → Type 0) where
  each_contained : (xs : List A) → Each P xs ↔ ((x : A) → Contains xs x → P x)
  each_contained xs = (
    λ h x there. All-contains P xs x (All-from_recursion P xs h) there,
    λ h. recursion_from_All P xs (λ k d within. h _ (Contains-get_or xs k d within)),
  )

  pub each_append : (xs ys : List A) → Each P (xs ++ ys) ↔ (Each P xs × Each P ys)
  each_append [] ys = (λ h. (tt, h), λ h. h.1)
  each_append (x ∷ xs) ys = (λ h. let rest = (each_append xs ys).0 h.1 in ((h.0, rest.0), rest.1), λ h. (h.0.0, (each_append xs ys).1 (h.0.1, h.1)))

  each_flat : {B : Type 0} (f : B → List A) (bs : List B) → Each P (flat_map f bs) ↔ Each (λ b. Each P (f b)) bs
  each_flat f [] = (λ h. tt, λ h. tt)
  each_flat f (b ∷ bs) = (
    λ h. let parts = (each_append (f b) (flat_map f bs)).0 h in (parts.0, (each_flat f bs).0 parts.1),
    λ h. (each_append (f b) (flat_map f bs)).1 (h.0, (each_flat f bs).1 h.1),
  )

  -- of what there may be
  each_option : {B : Type 0} (f : B → A) (o : Option B) → Each P (option_to_list (option_map f o)) ↔ ForSome o (λ b. P (f b))
  each_option f None = (λ h x is. absurd (none-some x is), λ h. tt)
  each_option f (Some b) = (λ h x is. subst (λ y. P (f y)) (same_Some b x is) h.0, λ h. (h b refl, tt))

module _ {S C : Type 0} (scalars : Scalars S C) (types : List (MetaType S C)) where
  judged_one : (a : Asked S) (ts us : Places) → LiteralJudged scalars types a ts → LiteralJudged scalars types a us → ts ≡ us
  judged_one a ts us (inl h) (inl k) = h.1 ∙ sym k.1
  judged_one a ts us (inl h) (inr k) = absurd (k.0 h.0)
  judged_one a ts us (inr h) (inl k) = absurd (h.0 k.0)
  judged_one a ts us (inr h) (inr k) = h.1 ∙ sym k.1

  judged_fits : (a : Asked S) → LiteralJudged scalars types a [] → LiteralConforms scalars types a
  judged_fits a (inl h) = h.0
  judged_fits a (inr h) = absurd (omega (arith, ap length h.1))

  pub fits_each : (asked : List (Asked S)) → Misfits scalars types asked [] ↔ Each (LiteralConforms scalars types) asked
  fits_each [] = (λ h. tt, λ h. refl)
  fits_each (a ∷ asked) = (
    λ h. let each = (tell_none (LiteralJudged scalars types) (a ∷ asked)).0 h in (judged_fits a each.0, (fits_each asked).0 ((tell_none (LiteralJudged scalars types) asked).1 each.1)),
    λ h. ([], [], refl, inl (h.0, refl), (fits_each asked).1 h.1),
  )

  -- nothing is told of literals exactly where each of them conforms
  pub misfits_none : (asked : List (Asked S)) → Misfits scalars types asked [] ↔ ((a : Asked S) → Contains asked a → LiteralConforms scalars types a)
  misfits_none asked = (λ h. (each_contained (LiteralConforms scalars types) asked).0 ((fits_each asked).0 h), λ h. (fits_each asked).1 ((each_contained (LiteralConforms scalars types) asked).1 h))

  -- what is told of literals is determined
  pub misfits_one : (asked : List (Asked S)) (ts us : Places) → Misfits scalars types asked ts → Misfits scalars types asked us → ts ≡ us
  misfits_one = tell_one (LiteralJudged scalars types) judged_one

  abbrev Fit : List (Declared S) → Argument S → Type 0
  Fit declared a = ForSome (argument_named declared a.0.item) (λ d. LiteralConforms scalars types (asked_argument a d))

  arguments_fit : (g : GivenPart S) → Each (LiteralConforms scalars types) (literals_among g.declared g.given) ↔ ArgumentsFit scalars types g
  arguments_fit g = among g.declared g.given
    where
      each_fits : (declared : List (Declared S)) (given : List (Argument S)) → Each (LiteralConforms scalars types) (flat_map (literal_of declared) given) ↔ ((a : Argument S) → Contains given a → Fit declared a)
      each_fits declared given = (
        λ h a there. (each_option (LiteralConforms scalars types) (asked_argument a) (argument_named declared a.0.item)).0
            ((each_contained (λ b. Each (LiteralConforms scalars types) (literal_of declared b)) given).0 ((each_flat (LiteralConforms scalars types) (literal_of declared) given).0 h) a there),
        λ h. (each_flat (LiteralConforms scalars types) (literal_of declared) given).1
            ((each_contained (λ b. Each (LiteralConforms scalars types) (literal_of declared b)) given).1
            (λ a there. (each_option (LiteralConforms scalars types) (asked_argument a) (argument_named declared a.0.item)).1 (h a there))),
      )

      among : (declared : Option (List (Declared S))) (given : List (Argument S)) → Each (LiteralConforms scalars types) (literals_among declared given) ↔ ForSome declared (λ ds. (a : Argument S) → Contains given a → Fit ds a)
      among None given = (λ h x is. absurd (none-some x is), λ h. tt)
      among (Some ds) given = (λ h x is. subst (λ xs. (a : Argument S) → Contains given a → Fit xs a) (same_Some ds x is) ((each_fits ds given).0 h), λ h. (each_fits ds given).1 (h ds refl))

module _ {S C : Type 0} (scalars : Scalars S C) (subject : Subject S C) (parts : List (Part S C)) where
  abbrev FitHere : Asked S → Type 0
  FitHere = LiteralConforms scalars subject.schema.types

  -- nothing is told of arguments exactly where those that are declared conform
  pub arguments_none : Tell (arguments_of_correct_type_faults scalars subject) parts [] ↔ ((g : GivenPart S) → Contains parts (Given g) → ArgumentsFit scalars subject.schema.types g)
  arguments_none = (
    λ h g there. (arguments_fit scalars subject.schema.types g).0 ((fits_each scalars subject.schema.types (literals_among g.declared g.given)).0
        ((each_contained (λ p. arguments_of_correct_type_faults scalars subject p []) parts).0 ((tell_none (arguments_of_correct_type_faults scalars subject) parts).0 h) (Given g) there)),
    λ h. (tell_none (arguments_of_correct_type_faults scalars subject) parts).1 ((each_contained (λ p. arguments_of_correct_type_faults scalars subject p []) parts).1 (at h)),
  )
    where
      at : ((g : GivenPart S) → Contains parts (Given g) → ArgumentsFit scalars subject.schema.types g) → (p : Part S C) → Contains parts p → arguments_of_correct_type_faults scalars subject p []
      at h (Given g) there = (fits_each scalars subject.schema.types (literals_among g.declared g.given)).1 ((arguments_fit scalars subject.schema.types g).1 (h g there))
      at h _ there = refl

  -- what is told of arguments is determined
  pub arguments_one : (ts us : Places) → Tell (arguments_of_correct_type_faults scalars subject) parts ts → Tell (arguments_of_correct_type_faults scalars subject) parts us → ts ≡ us
  arguments_one = tell_one (arguments_of_correct_type_faults scalars subject) one parts
    where
      one : (p : Part S C) (ts us : Places) → arguments_of_correct_type_faults scalars subject p ts → arguments_of_correct_type_faults scalars subject p us → ts ≡ us
      one (Given g) ts us h k = misfits_one scalars subject.schema.types (literals_among g.declared g.given) ts us h k
      one _ ts us h k = h ∙ sym k

  default_fits : (v : VariablePart S) → Each FitHere (defaults_asked subject.schema v) ↔ DefaultFits scalars subject.schema v
  default_fits v = either (is_some (known subject.schema v.type_of.item.name))
    where
      either : (b : Bool) → Each FitHere (if b then option_to_list (option_map (asked_default v) v.default) else []) ↔ (b ≡ true → ForSome v.default (λ default. FitHere (asked_default v default)))
      either true = (λ h there. (each_option FitHere (asked_default v) v.default).0 h, λ h. (each_option FitHere (asked_default v) v.default).1 (h refl))
      either false = (λ h there. absurd (false≢true there), λ h. tt)

  -- nothing is told of defaults exactly where those of known types conform
  pub defaults_none : Tell (default_values_of_correct_type_faults scalars subject) parts [] ↔ ((v : VariablePart S) → Contains parts (VariableDefined v) → DefaultFits scalars subject.schema v)
  defaults_none = (
    λ h v there. (default_fits v).0 ((fits_each scalars subject.schema.types (defaults_asked subject.schema v)).0
        ((each_contained (λ p. default_values_of_correct_type_faults scalars subject p []) parts).0 ((tell_none (default_values_of_correct_type_faults scalars subject) parts).0 h) (VariableDefined v) there)),
    λ h. (tell_none (default_values_of_correct_type_faults scalars subject) parts).1 ((each_contained (λ p. default_values_of_correct_type_faults scalars subject p []) parts).1 (at h)),
  )
    where
      at : ((v : VariablePart S) → Contains parts (VariableDefined v) → DefaultFits scalars subject.schema v) → (p : Part S C) → Contains parts p → default_values_of_correct_type_faults scalars subject p []
      at h (VariableDefined v) there = (fits_each scalars subject.schema.types (defaults_asked subject.schema v)).1 ((default_fits v).1 (h v there))
      at h _ there = refl

  -- what is told of defaults is determined
  pub defaults_one : (ts us : Places) → Tell (default_values_of_correct_type_faults scalars subject) parts ts → Tell (default_values_of_correct_type_faults scalars subject) parts us → ts ≡ us
  defaults_one = tell_one (default_values_of_correct_type_faults scalars subject) one parts
    where
      one : (p : Part S C) (ts us : Places) → default_values_of_correct_type_faults scalars subject p ts → default_values_of_correct_type_faults scalars subject p us → ts ≡ us
      one (VariableDefined v) ts us h k = misfits_one scalars subject.schema.types (defaults_asked subject.schema v) ts us h k
      one _ ts us h k = h ∙ sym k

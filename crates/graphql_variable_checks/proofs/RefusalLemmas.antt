-- What is told of definitions, one after another.
use Rattle.std.proofs.Common.{◌≡◌, ◌↔◌, ℕ, ◌+◌, ◌<◌, ◌≤◌, List, [], ◌∷◌, ◌++◌, Option, inl, inr, length, get_or, take, refl, sym, ap, subst, ◌∙◌, arith}
use Rattle.std.specs.List.{AllByRecursion as Each}
use Rattle.std.proofs.lemmas.List.{take_all, take_more}
use Rattle.std.proofs.lemmas.List.Elements.{All-contains, All-from_recursion, recursion_from_All, Contains-get_or}
use Rattle.graphql_schema.specs.Scalars.{Scalars}
use Rattle.graphql_schema.specs.declared.meta.MetaType.{MetaType}
use Rattle.graphql_names.specs.Names.{Bytes}
use Rattle.graphql_rule_errors.specs.Places.{Places, Reports, places}
use Rattle.graphql_rule_errors.specs.declared.rule_error.RuleError.{RuleError}
use Rattle.graphql_tree.specs.Variables.{Variable}
use Rattle.graphql_values.specs.declared.input_value.InputValue.{InputValue}
use Rattle.graphql_variable_checks.specs.Accepted.{AreAccepted, IsAccepted, Refusals, variable_place}

module _ {S C : Type 0} (scalars : Scalars S C) (types : List (MetaType S C)) (given : Bytes → Option (InputValue S)) where
  abbrev Accepted : Variable S → Type 0
  Accepted = IsAccepted scalars types given

  abbrev Told : List (Variable S) → Places → Type 0
  Told = Refusals scalars types given

  -- of one more definition nothing is told where it accepts what is given
  push_accepted : (vs : List (Variable S)) (v : Variable S) (told : Places) → Told vs told → Accepted v → Told (vs ++ v ∷ []) told
  push_accepted [] v told h accepted = inl (accepted, h)
  push_accepted (w ∷ vs) v told (inl h) accepted = inl (h.0, push_accepted vs v told h.1 accepted)
  push_accepted (w ∷ vs) v told (inr h) accepted = inr (h.0, (h.1.0, h.1.1, push_accepted vs v h.1.0 h.1.2 accepted))

  -- and its place where it does not
  push_refused : (vs : List (Variable S)) (v : Variable S) (told : Places) → Told vs told → (Accepted v → ⊥) → Told (vs ++ v ∷ []) (told ++ (variable_place v ∷ []) ∷ [])
  push_refused [] v told h refused = inr (refused, ([], ap (λ ts. ts ++ (variable_place v ∷ []) ∷ []) h, refl))
  push_refused (w ∷ vs) v told (inl h) refused = inl (h.0, push_refused vs v told h.1 refused)
  push_refused (w ∷ vs) v told (inr h) refused = inr (h.0, (h.1.0 ++ (variable_place v ∷ []) ∷ [], ap (λ ts. ts ++ (variable_place v ∷ []) ∷ []) h.1.1, push_refused vs v h.1.0 h.1.2 refused))

  -- a loop past one definition more
  module _ (vs : List (Variable S)) (i : ℕ) (v : Variable S) (within : i < length vs) (is : v ≡ get_or vs i v) (old new : List RuleError) (before : Told (take i vs) (places old)) where
    one_more : take i vs ++ v ∷ [] ≡ take (i + 1) vs
    one_more = sym (take_more vs i v within ∙ ap (λ w. take i vs ++ w ∷ []) (sym is))

    pub told_accepted : new ≡ old → Accepted v → Told (take (i + 1) vs) (places new)
    told_accepted same accepted = subst (λ errors. Told (take (i + 1) vs) (places errors)) (sym same) (subst (λ ws. Told ws (places old)) one_more (push_accepted (take i vs) v (places old) before accepted))

    pub told_refused : (reported : List RuleError) → new ≡ reported → Reports ((variable_place v ∷ []) ∷ []) old reported → (Accepted v → ⊥) → Told (take (i + 1) vs) (places new)
    told_refused reported same added refused = subst (Told (take (i + 1) vs)) (sym (ap places same ∙ added.at)) (subst (λ ws. Told ws (places old ++ (variable_place v ∷ []) ∷ [])) one_more (push_refused (take i vs) v (places old) before refused))

  -- what is told is determined
  pub told_one : (vs : List (Variable S)) (ts us : Places) → Told vs ts → Told vs us → ts ≡ us
  told_one [] ts us h k = h ∙ sym k
  told_one (v ∷ vs) ts us (inl h) (inl k) = told_one vs ts us h.1 k.1
  told_one (v ∷ vs) ts us (inl h) (inr k) = absurd (k.0 h.0)
  told_one (v ∷ vs) ts us (inr h) (inl k) = absurd (h.0 k.0)
  told_one (v ∷ vs) ts us (inr h) (inr k) = h.1.1 ∙ ap (λ rest. (variable_place v ∷ []) ∷ rest) (told_one vs h.1.0 k.1.0 h.1.2 k.1.2) ∙ sym k.1.1

  each_accepted : (vs : List (Variable S)) → Told vs [] → Each Accepted vs
  each_accepted [] h = tt
  each_accepted (v ∷ vs) (inl h) = (h.0, each_accepted vs h.1)
  each_accepted (v ∷ vs) (inr h) = absurd (omega (arith, ap length h.1.1))

  none_of_each : (vs : List (Variable S)) → Each Accepted vs → Told vs []
  none_of_each [] h = refl
  none_of_each (v ∷ vs) h = inl (h.0, none_of_each vs h.1)

  -- nothing is told exactly where each definition accepts what is given
  pub told_none : (vs : List (Variable S)) → Told vs [] ↔ AreAccepted scalars types given vs
  told_none vs = (
    λ h v there. All-contains Accepted vs v (All-from_recursion Accepted vs (each_accepted vs h)) there,
    λ h. none_of_each vs (recursion_from_All Accepted vs (λ k d within. h _ (Contains-get_or vs k d within))),
  )

  no_errors : (errors : List RuleError) → places errors ≡ [] → errors ≡ []
  no_errors [] none = refl
  no_errors (e ∷ errors) none = absurd (omega (arith, ap length none))

  -- so behind the last definition there is no error exactly there
  pub error_free : (vs ws : List (Variable S)) (i : ℕ) (errors : List RuleError) → length vs ≤ i → vs ≡ ws → Told (take i vs) (places errors) → (errors ≡ []) ↔ AreAccepted scalars types given ws
  error_free vs ws i errors past same h = (
    λ none. (told_none ws).0 (subst (Told ws) (ap places none) all),
    λ accepted. no_errors errors (told_one ws (places errors) [] all ((told_none ws).1 accepted)),
  )
    where
      all : Told ws (places errors)
      all = subst (λ xs. Told xs (places errors)) (take_all i vs past ∙ same) h

-- Fields whose written arguments are the same, in whichever order, have the same argument values.
use Rattle.std.proofs.Common.{◌≡◌, refl, sym, ◌∙◌, ap, subst, arith, Bool, true, false, List, [], ◌∷◌, map}
use Rattle.std.proofs.Common.{Option, Some, None, cond, inl, inr}
use Rattle.std.specs.Cmp.{IsEquivalence}
use Rattle.std.specs.List.{All, AllByRecursion, Contains, IsDistinct, cons_option, find}
use Rattle.std.specs.Option.{option_and_then, option_map, option_or}
use Rattle.std.specs.Str.{bytes_eq}
use Rattle.std.proofs.lemmas.List.Elements.{Contains-append_right, Contains-append_cases}
use Rattle.std.proofs.lemmas.Slice.Eq.{bytes_eq-Decides}
use Rattle.graphql_names.specs.Names.{Bytes}
use Rattle.graphql_values.specs.SameValue.{SameValue}
use Rattle.graphql_values.specs.declared.input_value.InputValue.{InputValue}
use Rattle.graphql_tree.specs.Arguments.{Argument}
use Rattle.graphql_written_out.specs.Filled.{filled}
use Rattle.graphql_schema.specs.declared.meta.argument.Argument.{Argument as Declared}
use Rattle.graphql_arguments.specs.ArgumentValues.{Given, NamedValue, argument_values, declared_defaults}
use Rattle.graphql_arguments.specs.ArgumentValues.{value_named, written_values}
use Rattle.graphql_arguments.specs.SameArguments.{SameArguments as SameUnderNames, SameGiven}
use Rattle.graphql_arguments.proofs.FirstValues.{first_named}
use Rattle.graphql_merging.specs.Merging.{SameArguments, IsAmong}
use Rattle.graphql_merging.proofs.Nested.{one-only, in-nothing}
use Rattle.graphql_joins.specs.Laws.{SameArgumentsGiveTheSame}
use Rattle.graphql_joins.specs.Typed.{AreDistinct}
use Rattle.graphql_joins.proofs.SameFilled.{filled-same, given-itself}

module _ {S : Type 0} where
  abbrev names : List (Argument S) → List Bytes
  names = map (λ a. a.0.item)

  abbrev is_of : Bytes → Argument S → Bool
  is_of name a = bytes_eq a.0.item name

  abbrev Others : Bytes → List (Argument S) → Type 0
  Others name xs = AllByRecursion (λ other. bytes_eq name other ≡ false) (names xs)

  -- ---- of distinct names an argument is found by its own

  none-other : (n name : Bytes) (xs : List (Argument S)) → bytes_eq n name ≡ true → Others n xs
      → find (is_of name) xs ≡ None
  none-other n name [] e d = refl
  none-other n name (x ∷ xs) e d =
      ap (λ q. cond q (Some x) (find (is_of name) xs)) (other (bytes_eq x.0.item name) refl)
      ∙ none-other n name xs e d.1
    where
      other : (q : Bool) → bytes_eq x.0.item name ≡ q → bytes_eq x.0.item name ≡ false
      other false f = f
      other true f =
          absurd (let bad : true ≡ false = sym ((bytes_eq-Decides n x.0.item).1 ((bytes_eq-Decides n name).0 e
          ∙ sym ((bytes_eq-Decides x.0.item name).0 f))) ∙ d.0 in cc)

  found-own : (name : Bytes) (xs : List (Argument S)) → IsDistinct bytes_eq (names xs) → (x : Argument S)
      → Contains xs x → bytes_eq x.0.item name ≡ true → find (is_of name) xs ≡ Some x
  unfolding IsDistinct
  found-own name [] d x i e = in-nothing x i
  found-own name (y ∷ ys) d x i e =
      elim (Contains-append_cases (y ∷ []) ys x i) [
        | inl j ↦ ap (λ (z : Argument S). cond (bytes_eq z.0.item name) (Some z) (find (is_of name) ys))
            (one-only y x j) ∙ ap (λ q. cond q (Some x) (find (is_of name) ys)) e
        | inr j ↦ at (bytes_eq y.0.item name) refl (found-own name ys d.1 x j e)
      ]
    where
      at : (q : Bool) → bytes_eq y.0.item name ≡ q → find (is_of name) ys ≡ Some x
          → cond q (Some y) (find (is_of name) ys) ≡ Some x
      at false f rest = rest
      at true f rest = absurd (let bad : Some x ≡ None = sym rest ∙ none-other y.0.item name ys f d.0 in cc)

  -- what is found is there, and of that name
  is-found : (name : Bytes) (xs : List (Argument S)) (x : Argument S) → find (is_of name) xs ≡ Some x
      → Contains xs x × (bytes_eq x.0.item name ≡ true)
  is-found name [] x e = cc
  is-found name (y ∷ ys) x e = at (bytes_eq y.0.item name) refl e (is-found name ys x)
    where
      at : (q : Bool) → bytes_eq y.0.item name ≡ q → cond q (Some y) (find (is_of name) ys) ≡ Some x
          → (find (is_of name) ys ≡ Some x → Contains ys x × (bytes_eq x.0.item name ≡ true))
          → Contains (y ∷ ys) x × (bytes_eq x.0.item name ≡ true)
      at true f is rest =
          (let same : y ≡ x = cc in (
            (0, omega arith, same),
            ap (λ (z : Argument S). bytes_eq z.0.item name) (sym same)
                ∙ f,
          ))
      at false f is rest = (let r = rest is in (Contains-append_right (y ∷ []) ys x r.0, r.1))

  module _ (eq : S → S → Bool) where
    -- the argument of this name has its like among the others
    like : (name : Bytes) (xs ys : List (Argument S)) → IsDistinct bytes_eq (names ys) → All (IsAmong eq ys) xs
        → (x : Argument S) → find (is_of name) xs ≡ Some x
        → (y : Argument S) × (find (is_of name) ys ≡ Some y) × SameValue S eq x.1.item y.1.item
    like name xs ys d among x e =
        let here = is-found name xs x e in
        let h : IsAmong eq ys x = subst (IsAmong eq ys) here.0.2 (among here.0.0 x here.0.1) in
        let y = h.1 in
        (y, found-own name ys d y (h.0, h.2, h.3) (ap (λ n. bytes_eq n name) (sym h.4.0) ∙ here.1), h.4.1)

-- ---- values by their names

module _ {S : Type 0} (eq : S → S → Bool) (laws : IsEquivalence eq) (given : Bytes → Option (InputValue S)) where
  abbrev value_in : Option (Argument S) → Option (InputValue S)
  value_in o = option_and_then (λ v. filled given v.item) (option_map (λ a. a.1) o)

  abbrev named_if : Bool → NamedValue S → Given S → Bytes → Option (InputValue S)
  named_if q u us name = option_map (λ w. w.1.item) (cond q (Some u) (find (λ p. bytes_eq p.0 name) us))

  abbrev value_at : Argument S → Option (InputValue S) → Option (NamedValue S)
  value_at x = option_map (λ v. (x.0.item, record { item = v; span = x.1.span }))

  -- the value of a written argument, where names are distinct
  written-named : (xs : List (Argument S)) → IsDistinct bytes_eq (names xs) → (name : Bytes)
      → value_named (written_values given xs) name ≡ value_in (find (is_of name) xs)
  unfolding IsDistinct
  written-named [] d name = refl
  written-named (x ∷ xs) d name =
      at (filled given x.1.item) refl (bytes_eq x.0.item name) refl (written-named xs d.1 name)
    where
      at : (o : Option (InputValue S)) → filled given x.1.item ≡ o → (q : Bool) → bytes_eq x.0.item name ≡ q
          → value_named (written_values given xs) name ≡ value_in (find (is_of name) xs)
          → value_named (cons_option (value_at x o) (written_values given xs)) name
          ≡ value_in (cond q (Some x) (find (is_of name) xs))
      at None e true f ih = ih ∙ ap value_in (none-other x.0.item name xs f d.0) ∙ sym e
      at None e false f ih = ih
      at (Some v) e true f ih =
          ap (λ b. named_if b (x.0.item, record { item = v; span = x.1.span }) (written_values given xs) name) f ∙ sym e
      at (Some v) e false f ih =
          ap (λ b. named_if b (x.0.item, record { item = v; span = x.1.span }) (written_values given xs) name) f ∙ ih

  same-written : (xs ys : List (Argument S)) → AreDistinct xs → AreDistinct ys → SameArguments eq xs ys
      → SameUnderNames eq (written_values given xs) (written_values given ys)
  same-written xs ys dx dy same name =
      subst (λ o. SameGiven eq o (value_named (written_values given ys) name)) (sym (written-named xs dx name))
      (subst (λ o. SameGiven eq (value_in (find (is_of name) xs)) o) (sym (written-named ys dy name))
      (at (find (is_of name) xs) (find (is_of name) ys) refl refl))
    where
      at : (o p : Option (Argument S)) → find (is_of name) xs ≡ o → find (is_of name) ys ≡ p
          → SameGiven eq (value_in o) (value_in p)
      at None None e f = tt
      at None (Some y) e f =
          (let r = like eq name ys xs dx same.1 y f in absurd (let bad : None ≡ Some r.0 = sym e ∙ r.1 in cc))
      at (Some x) p e f =
          let r = like eq name xs ys dy same.0 x e in
          subst (λ o. SameGiven eq (filled given x.1.item) (value_in o)) (sym r.1 ∙ f)
          (filled-same eq laws given x.1.item r.0.1.item r.2)

  or-same : (a b c : Option (InputValue S)) → SameGiven eq a b → SameGiven eq (option_or a c) (option_or b c)
  or-same None None c s = given-itself eq laws given c
  or-same None (Some w) c s = absurd s
  or-same (Some v) None c s = absurd s
  or-same (Some v) (Some w) c s = s

  -- the argument values are the same under each name
  pub same-values : (declared : List (Declared S)) (xs ys : List (Argument S)) → AreDistinct xs → AreDistinct ys
      → SameArguments eq xs ys
      → SameUnderNames eq (argument_values given declared xs) (argument_values given declared ys)
  same-values declared xs ys dx dy same name =
      let us : Given S = written_values given xs in
      let vs : Given S = written_values given ys in
      let ds : Given S = declared_defaults declared in
      subst (λ o. SameGiven eq o (value_named (argument_values given declared ys) name)) (sym (first_named us ds name))
      (subst (λ o. SameGiven eq (option_or (value_named us name) (value_named ds name)) o) (sym (first_named vs ds name))
      (or-same (value_named us name) (value_named vs name) (value_named ds name) (same-written xs ys dx dy same name)))

pub same-arguments-give-the-same : (S : Type 0) (eq : S → S → Bool) → IsEquivalence eq → SameArgumentsGiveTheSame S eq
same-arguments-give-the-same S eq laws given = same-values eq laws given

-- The failures are just what fails.
use Rattle.std.proofs.Common.{◌≡◌, ◌↔◌, ◌⊎◌, ⊎_elim, inl, inr, refl, sym, ◌∙◌, ap, subst, ℕ, zero, suc, ◌≤◌, arith, Bool, true, false, List, [], ◌∷◌, ◌++◌, map, reverse, Option, Some, None, Result, Ok, Err}
use Rattle.std.specs.List.{Contains}
use Rattle.std.proofs.lemmas.List.Elements.{Contains-append_left, Contains-append_right, Contains-append_cases}
use Rattle.graphql_names.specs.Names.{Bytes}
use Rattle.graphql_names.specs.declared.type_modifier.TypeModifier.{TypeModifier}
use Rattle.graphql_names.specs.declared.type_modifier.TypeModifier.TheVariants as modifier
use Rattle.graphql_schema.specs.Types.{TypeOf}
use Rattle.graphql_output_values.specs.Objects.{Pair}
use Rattle.graphql_output_values.specs.declared.value.Value.{Value}
use Rattle.graphql_written_out.specs.Trees.{Tree}
use Rattle.graphql_written_out.specs.Fields.{Found}
use Rattle.graphql_written_out.specs.Groups.{keys, under, groups}
use Rattle.graphql_field_results.specs.declared.execution_error.ExecutionError.{ExecutionError}
use Rattle.graphql_field_results.specs.declared.field_error.FieldError.{FieldError}
use Rattle.graphql_field_results.specs.declared.resolved.Resolved.{Resolved, out-Resolved}
use Rattle.graphql_field_results.specs.declared.resolved.Resolved.TheOpen.{Resolved-F}
use Rattle.graphql_semantics.specs.Engines.{Engine}
use Rattle.graphql_semantics.specs.Outcomes.{Outcome, show_place, together}
use Rattle.graphql_semantics.specs.Completion.{Members, at_list, at_name, at_required, blame_at, complete, complete_result, is_required, leaf_if, misfit_error, own_null, run_if}
use Rattle.graphql_semantics.specs.Evaluation.{Group, at_declared, evaluate, found_in, group, highest, keyed, run, sets_below}
use Rattle.graphql_semantics.specs.Failing.{IsNull, IsScalar, IsList, IsNode, IsMisfit, FailsAt, misfit, required_null, required, item, AnswersNode, node, required_node, item_node, ReasonAt, NodeAt, Fails, resolver, answer, below}
use Rattle.graphql_semantics.specs.Laws.{FailuresAreExact}
use Rattle.graphql_semantics.proofs.Elements.{here, later, none-in, cons-cases, only-one}
use Rattle.graphql_semantics.proofs.Heights.{no-found, top, top-found, top-under}

-- what fails in one of several parts
module _ {S A B : Type 0} (f : A → Outcome S B) (x : ExecutionError S) where
  one-of : (xs : List A) → Contains (together (map f xs)).failures x → (a : A) × Contains xs a × Contains (f a).failures x
  one-of [] h = none-in x h
  one-of (a ∷ xs) h =
      ⊎_elim (λ c. (a, here a xs, c)) (λ c. let rest = one-of xs c in (rest.0, later a rest.0 xs rest.1, rest.2)) (Contains-append_cases (f a).failures (together (map f xs)).failures x h)

  of-one : (a : A) (xs : List A) → Contains xs a → Contains (f a).failures x → Contains (together (map f xs)).failures x
  of-one a [] h c = none-in a h
  of-one a (b ∷ xs) h c =
      ⊎_elim
      (λ e. Contains-append_left (f b).failures (together (map f xs)).failures x (subst (λ y. Contains (f y).failures x) (sym e) c))
      (λ d. Contains-append_right (f b).failures (together (map f xs)).failures x (of-one a xs d c))
      (cons-cases b a xs h)

module _ {S N : Type 0} (run_on : N → Outcome S (Members S)) (blame : FieldError S → ExecutionError S) (name : Bytes) (is_leaf : Bool) (is_possible : N → Bool) (f : ExecutionError S) where
  abbrev come : List TypeModifier → Resolved S N → Outcome S (Value S)
  come = complete run_on blame name is_leaf is_possible

  abbrev place : List TypeModifier → Resolved S N → Outcome S (Value S)
  place wraps x = show_place (is_required wraps) (come wraps x)

  -- a failure comes of the answer, or from below a node in it
  abbrev pub Comes : List TypeModifier → Resolved S N → Type 0
  Comes wraps r = ((error : FieldError S) × FailsAt name is_leaf is_possible wraps r error × (f ≡ blame error)) ⊎ ((m : N) × AnswersNode name is_leaf is_possible wraps r m × Contains (run_on m).failures f)

  as-misfit : (wraps : List TypeModifier) (r : Resolved S N) → IsMisfit name is_leaf is_possible wraps r → Contains (blame (misfit_error name wraps) ∷ []) f → Comes wraps r
  as-misfit wraps r m h = inl (misfit_error name wraps, misfit wraps r m, sym (only-one (blame (misfit_error name wraps)) f h))

  comes-leaf : (q : Bool) (r : Resolved S N) (s : S) → is_leaf ≡ q → IsScalar r s → Contains (leaf_if run_on blame name is_leaf is_possible q s).failures f → Comes [] r
  comes-leaf true r s t is h = none-in f h
  comes-leaf false r s t is h = as-misfit [] r (inl (s, is, t)) h

  comes-node : (q : Bool) (r : Resolved S N) (m : N) → is_possible m ≡ q → IsNode r m → Contains (run_if run_on blame name is_leaf is_possible q m).failures f → Comes [] r
  comes-node true r m t is h = inr (m, node r m is t, h)
  comes-node false r m t is h = as-misfit [] r (inr (inr (m, is, t))) h

  comes-name : (r : Resolved S N) (o : Resolved-F S N (Resolved S N)) → out-Resolved S N r ≡ o → Contains (at_name run_on blame name is_leaf is_possible o).failures f → Comes [] r
  comes-name r Resolved-F.Null is h = none-in f h
  comes-name r (Resolved-F.Scalar s) is h = comes-leaf is_leaf r s refl is h
  comes-name r (Resolved-F.List items) is h = as-misfit [] r (inr (inl (items, is))) h
  comes-name r (Resolved-F.Node m) is h = comes-node (is_possible m) r m refl is h

  within : (wraps : List TypeModifier) (r : Resolved S N) → (IsNull r → ⊥) → Comes wraps r → Comes (modifier.NonNull ∷ wraps) r
  within wraps r kept (inl h) = inl (h.0, required wraps r h.0 kept h.1, h.2)
  within wraps r kept (inr h) = inr (h.0, required_node wraps r h.0 kept h.1, h.2)

  comes-required : (wraps : List TypeModifier) (r : Resolved S N) (o : Resolved-F S N (Resolved S N)) → out-Resolved S N r ≡ o → (Contains (come wraps r).failures f → Comes wraps r)
      → Contains (at_required run_on blame name is_leaf is_possible (come wraps r) o).failures f → Comes (modifier.NonNull ∷ wraps) r
  comes-required wraps r Resolved-F.Null is k h = inl (own_null, required_null wraps r is, sym (only-one (blame own_null) f h))
  comes-required wraps r (Resolved-F.Scalar s) is k h = within wraps r (λ p. let q : Resolved-F.Null ≡ Resolved-F.Scalar s = sym p ∙ is in cc) (k h)
  comes-required wraps r (Resolved-F.List items) is k h = within wraps r (λ p. let q : Resolved-F.Null ≡ Resolved-F.List items = sym p ∙ is in cc) (k h)
  comes-required wraps r (Resolved-F.Node m) is k h = within wraps r (λ p. let q : Resolved-F.Null ≡ Resolved-F.Node m = sym p ∙ is in cc) (k h)

  in-item : (size : Option ℕ) (wraps : List TypeModifier) (r x : Resolved S N) (items : List (Resolved S N)) → IsList r items → Contains items x → Comes wraps x → Comes (modifier.List size ∷ wraps) r
  in-item size wraps r x items is c (inl h) = inl (h.0, item size wraps r x items h.0 is c h.1, h.2)
  in-item size wraps r x items is c (inr h) = inr (h.0, item_node size wraps r x items h.0 is c h.1, h.2)

  comes-list : (size : Option ℕ) (wraps : List TypeModifier) (r : Resolved S N) (o : Resolved-F S N (Resolved S N)) → out-Resolved S N r ≡ o → ((x : Resolved S N) → Contains (come wraps x).failures f → Comes wraps x)
      → Contains (at_list run_on blame name is_leaf is_possible (modifier.List size ∷ wraps) (place wraps) o).failures f → Comes (modifier.List size ∷ wraps) r
  comes-list size wraps r Resolved-F.Null is k h = none-in f h
  comes-list size wraps r (Resolved-F.Scalar s) is k h = as-misfit (modifier.List size ∷ wraps) r (inl (s, is)) h
  comes-list size wraps r (Resolved-F.List items) is k h =
      let found = one-of (place wraps) f items h in in-item size wraps r found.0 items is found.1 (k found.0 found.2)
  comes-list size wraps r (Resolved-F.Node m) is k h = as-misfit (modifier.List size ∷ wraps) r (inr (m, is)) h

  pub comes : (wraps : List TypeModifier) (r : Resolved S N) → Contains (come wraps r).failures f → Comes wraps r
  comes [] r h = comes-name r (out-Resolved S N r) refl h
  comes (modifier.NonNull ∷ wraps) r h = comes-required wraps r (out-Resolved S N r) refl (comes wraps r) h
  comes (modifier.List size ∷ wraps) r h = comes-list size wraps r (out-Resolved S N r) refl (comes wraps) h

  -- what does not fit is told
  abbrev Told : Outcome S (Value S) → Type 0
  Told o = Contains o.failures f

  told-misfit : (wraps : List TypeModifier) (r : Resolved S N) → IsMisfit name is_leaf is_possible wraps r → f ≡ blame (misfit_error name wraps) → Told (come wraps r)
  told-misfit [] r (inl h) e = rw (h.1, h.2) (subst (λ x. Contains (blame (misfit_error name []) ∷ []) x) (sym e) (here (blame (misfit_error name [])) []))
  told-misfit [] r (inr (inl h)) e = rw h.1 (subst (λ x. Contains (blame (misfit_error name []) ∷ []) x) (sym e) (here (blame (misfit_error name [])) []))
  told-misfit [] r (inr (inr h)) e = rw (h.1, h.2) (subst (λ x. Contains (blame (misfit_error name []) ∷ []) x) (sym e) (here (blame (misfit_error name [])) []))
  told-misfit (modifier.NonNull ∷ wraps) r h e = absurd h
  told-misfit (modifier.List size ∷ wraps) r (inl h) e =
      rw h.1 (subst (λ x. Contains (blame (misfit_error name (modifier.List size ∷ wraps)) ∷ []) x) (sym e) (here (blame (misfit_error name (modifier.List size ∷ wraps))) []))
  told-misfit (modifier.List size ∷ wraps) r (inr h) e =
      rw h.1 (subst (λ x. Contains (blame (misfit_error name (modifier.List size ∷ wraps)) ∷ []) x) (sym e) (here (blame (misfit_error name (modifier.List size ∷ wraps))) []))

  told-required : (wraps : List TypeModifier) (r : Resolved S N) (o : Resolved-F S N (Resolved S N)) → out-Resolved S N r ≡ o → (IsNull r → ⊥) → Told (come wraps r)
      → Told (at_required run_on blame name is_leaf is_possible (come wraps r) o)
  told-required wraps r Resolved-F.Null is kept h = absurd (kept is)
  told-required wraps r (Resolved-F.Scalar s) is kept h = h
  told-required wraps r (Resolved-F.List items) is kept h = h
  told-required wraps r (Resolved-F.Node m) is kept h = h

  told-item : (size : Option ℕ) (wraps : List TypeModifier) (r x : Resolved S N) (items : List (Resolved S N)) → IsList r items → Contains items x → Told (come wraps x) → Told (come (modifier.List size ∷ wraps) r)
  told-item size wraps r x items is c h = rw is (of-one (place wraps) f x items c h)

  pub told-failure : {wraps : List TypeModifier} {r : Resolved S N} {error : FieldError S} → FailsAt name is_leaf is_possible wraps r error → f ≡ blame error → Told (come wraps r)
  told-failure (misfit wraps r m) e = told-misfit wraps r m e
  told-failure (required_null wraps r is) e = rw is (subst (λ x. Contains (blame own_null ∷ []) x) (sym e) (here (blame own_null) []))
  told-failure (required wraps r error kept h) e = told-required wraps r (out-Resolved S N r) refl kept (told-failure h e)
  told-failure (item size wraps r x items error is c h) e = told-item size wraps r x items is c (told-failure h e)

  pub told-below : {wraps : List TypeModifier} {r : Resolved S N} {m : N} → AnswersNode name is_leaf is_possible wraps r m → Contains (run_on m).failures f → Told (come wraps r)
  told-below (node r m is t) h = rw (is, t) h
  told-below (required_node wraps r m kept a) h = told-required wraps r (out-Resolved S N r) refl kept (told-below a h)
  told-below (item_node size wraps r x items m is c a) h = told-item size wraps r x items is c (told-below a h)

module _ {S N : Type 0} (e : Engine S N) where
  abbrev OnlyFails : ℕ → Type 0
  OnlyFails n = (path : List Bytes) (of : Bytes) (on : N) (sets : List (Tree S)) (f : ExecutionError S) → Contains (run e n path of on sets).failures f → Fails e path of on sets f

  module _ (n : ℕ) (only : OnlyFails n) (path : List Bytes) (of : Bytes) (on : N) (sets : List (Tree S)) (f : ExecutionError S) where
    abbrev run_below : List Bytes → List (Found S) → N → Outcome S (Members S)
    run_below here xs m = run e n here (e.concrete m) m (sets_below xs)

    result-fails : (key : Bytes) (x : Found S) (xs : List (Found S)) (type : TypeOf) (a : Result (Resolved S N) (FieldError S)) → Contains (groups (found_in e of sets)) (key, x ∷ xs)
        → e.declared of x.head.name ≡ Some type → e.answer on of x.head.name (e.arguments of x.head) ≡ a
        → Contains (complete_result (run_below (path ++ key ∷ []) (x ∷ xs)) (blame_at (path ++ key ∷ []) x.head.place) type.name (e.is_leaf type.name) (λ m. e.is_possible type.name (e.concrete m)) (reverse type.modifiers) a).failures f
        → Fails e path of on sets f
    result-fails key x xs type (Err error) c d q h =
        subst (λ y. Fails e path of on sets y) (only-one (blame_at (path ++ key ∷ []) x.head.place error) f h) (resolver path of on sets key x xs type error c d q)
    result-fails key x xs type (Ok r) c d q h =
        ⊎_elim
        (λ own. subst (λ y. Fails e path of on sets y) (sym own.2) (answer path of on sets key x xs type r own.0 c d q own.1))
        (λ under. below path of on sets key x xs type r under.0 f c d q under.1 (only (path ++ key ∷ []) (e.concrete under.0) under.0 (sets_below (x ∷ xs)) f under.2))
        (comes (run_below (path ++ key ∷ []) (x ∷ xs)) (blame_at (path ++ key ∷ []) x.head.place) type.name (e.is_leaf type.name) (λ m. e.is_possible type.name (e.concrete m)) f (reverse type.modifiers) r h)

    field-fails : (key : Bytes) (x : Found S) (xs : List (Found S)) (type : Option TypeOf) → Contains (groups (found_in e of sets)) (key, x ∷ xs) → e.declared of x.head.name ≡ type
        → Contains (at_declared e type (run_below (path ++ key ∷ []) (x ∷ xs)) (blame_at (path ++ key ∷ []) x.head.place) (e.answer on of x.head.name (e.arguments of x.head))).failures f
        → Fails e path of on sets f
    field-fails key x xs None c d h = none-in f h
    field-fails key x xs (Some type) c d h = result-fails key x xs type (e.answer on of x.head.name (e.arguments of x.head)) c d refl h

    group-fails : (g : Group S) → Contains (groups (found_in e of sets)) g → Contains (keyed e (run e n) path of on g).failures f → Fails e path of on sets f
    group-fails (key, []) c h = none-in f h
    group-fails (key, x ∷ xs) c h = field-fails key x xs (e.declared of x.head.name) c refl h

  only-fails : (n : ℕ) → OnlyFails n
  only-fails zero path of on sets f h = none-in f h
  only-fails (suc n) path of on sets f h =
      let found = one-of (keyed e (run e n) path of on) f (groups (found_in e of sets)) h in
      group-fails n (only-fails n) path of on sets f found.0 found.1 found.2

  -- a group of fields is no higher than all of them
  low-group : (found : List (Found S)) (ks : List Bytes) (g : Group S) → Contains (map (λ key. (key, under found key)) ks) g → top g.1 ≤ top found
  low-group found [] g c = none-in g c
  low-group found (k ∷ ks) g c =
      ⊎_elim (λ is. subst (λ (h : Group S). top h.1 ≤ top found) is (top-under found k)) (λ d. low-group found ks g d) (cons-cases (k, under found k) g (map (λ key. (key, under found key)) ks) c)

  told-group : (path : List Bytes) (of : Bytes) (on : N) (sets : List (Tree S)) (f : ExecutionError S) (g : Group S) → Contains (groups (found_in e of sets)) g
      → ((n : ℕ) → top g.1 ≤ n → Contains (keyed e (run e n) path of on g).failures f) → (n : ℕ) → highest sets ≤ n → Contains (run e n path of on sets).failures f
  told-group path of on sets f g c told zero low =
      none-in g (subst (λ xs. Contains (groups xs) g) (no-found e.drops (e.is_below of) sets low) c)
  told-group path of on sets f g c told (suc n) low =
      let lower : top (found_in e of sets) ≤ n = top-found e.drops (e.is_below of) sets n low in
      let least : top g.1 ≤ top (found_in e of sets) = low-group (found_in e of sets) (keys (found_in e of sets)) g c in
      of-one (keyed e (run e n) path of on) f g (groups (found_in e of sets)) c (told n (omega (arith, lower, least)))

  all-told : {path : List Bytes} {of : Bytes} {on : N} {sets : List (Tree S)} {f : ExecutionError S} → Fails e path of on sets f → (n : ℕ) → highest sets ≤ n → Contains (run e n path of on sets).failures f
  all-told (resolver path of on sets key x xs type error c d q) =
      told-group path of on sets (blame_at (path ++ key ∷ []) x.head.place error) (key, x ∷ xs) c (λ n low. rw (d, q) (here (blame_at (path ++ key ∷ []) x.head.place error) []))
  all-told (answer path of on sets key x xs type r error c d q fail) =
      told-group path of on sets (blame_at (path ++ key ∷ []) x.head.place error) (key, x ∷ xs) c
      (λ n low. rw (d, q) (told-failure (λ m. run e n (path ++ key ∷ []) (e.concrete m) m (sets_below (x ∷ xs))) (blame_at (path ++ key ∷ []) x.head.place) type.name (e.is_leaf type.name)
      (λ m. e.is_possible type.name (e.concrete m)) (blame_at (path ++ key ∷ []) x.head.place error) fail refl))
  all-told (below path of on sets key x xs type r m f c d q at fail) =
      told-group path of on sets f (key, x ∷ xs) c
      (λ n low. rw (d, q) (told-below (λ m. run e n (path ++ key ∷ []) (e.concrete m) m (sets_below (x ∷ xs))) (blame_at (path ++ key ∷ []) x.head.place) type.name (e.is_leaf type.name)
      (λ m. e.is_possible type.name (e.concrete m)) f at (all-told fail n low)))

pub failures-exact : (S N : Type 0) → FailuresAreExact S N
failures-exact S N e path of on sets f = (λ h. only-fails e (highest sets) path of on sets f h, λ h. all-told e h (highest sets) (omega arith))

-- How open lists are gone through.
use Rattle.std.proofs.Common.{◌≡◌, refl, subst, sym, ◌∙◌, ap, ℕ, ◌+◌, ◌<◌, ◌≤◌, arith, Bool, true, false, List, [], ◌∷◌, ◌++◌, map, reverse, drop, take, get_or, length, append-nil, append_assoc, Option, Some, None, ◌⊎◌, inl, inr, ⊎_elim, true≢false, Result, Ok, Err}
use Rattle.std.specs.Result.{OnOk}
use Rattle.std.proofs.lemmas.List.{drop_all, drop_more, map_push, take_all, take_more, reverse-append, map-append}
use Rattle.std.proofs.lemmas.List.Concat.{flat_map-append}
use Rattle.std.proofs.lemmas.List.Sums.{sum_by-cons}
use Rattle.std.specs.Borrow.{Bor}
use Rattle.std.specs.List.{flat_map, sum_by}
use Rattle.graphql_names.specs.Names.{Bytes}
use Rattle.graphql_values.specs.InputValues.{Placed}
use Rattle.graphql_tree.specs.declared.document.Fragment.{Fragment}
use Rattle.graphql_tree.specs.declared.selection.Field.{Field}
use Rattle.graphql_tree.specs.declared.selection.FragmentSpread.{FragmentSpread}
use Rattle.graphql_tree.specs.declared.selection.InlineFragment.{InlineFragment}
use Rattle.graphql_tree.specs.declared.selection.Selection.{Selection, out-Selection}
use Rattle.graphql_tree.specs.declared.selection.Selection.TheOpen.{Selection-F}
use Rattle.graphql_tree.specs.declared.selection.Selection.TheVariants as selection
use Rattle.graphql_written_out.specs.Trees.{Directives, Tree, none, field, inline}
use Rattle.graphql_written_out.specs.Written.{Settled, condition_of, fragment_meant, listed, spread_as, write, written}
use Rattle.graphql_written_out.proofs.Layers.{deep-Field, deep-Inline, deep-Spread, written-cons}
use Rattle.graphql_look_ahead.specs.Applies.{bound, only_of}
use Rattle.graphql_look_ahead.specs.Children.{Ahead, Children, Opened, a_field, directives_of, opened_directives, left_out, no_more, of_field, of_inline, of_spread, of_unknown}
use Rattle.graphql_look_ahead.specs.Open.{AddsChildren, AllHave, IsMet, IsNext, IsTurn, IsUnknown, OpenSet, Skips, Steps, open_set, opened, rest_of, tree_turns, turns_of, turns_open}
use Rattle.graphql_look_ahead.specs.declared.open.Met.{Met}
use Rattle.graphql_look_ahead.specs.declared.open.Met.TheVariants as met
use Rattle.graphql_look_ahead.specs.declared.open.Open.{Open}

module _ {S : Type 0} where
  -- a list that is bound to nothing, alone
  abbrev pub whole : List (Selection S) → List (OpenSet S)
  whole set = (None, set) ∷ []

  -- what is left of a list: its next selection, before the others
  pub rest-next : (among : List (Selection S)) (next : ℕ) (x : Selection S) → next < length among → x ≡ get_or among next x → drop next among ≡ x ∷ drop (next + 1) among
  rest-next among next x within is = drop_more among next x within ∙ ap (λ y. y ∷ drop (next + 1) among) (sym is)

  pub opened-push : (os more : List (Open S)) (o : Open S) → more ≡ os ++ o ∷ [] → opened more ≡ open_set o ∷ opened os
  opened-push os more o e = ap opened e ∙ ap reverse (map_push open_set os o) ∙ reverse-append (map open_set os) (open_set o ∷ [])

module _ {S : Type 0} (fragments : List (Fragment S)) where
  pub turns-Field : (x : Placed (Field S)) (xs : List (Selection S)) → turns_of fragments (selection.Field x ∷ xs) ≡ 1 + turns_of fragments xs
  turns-Field x xs = ap tree_turns (written-cons fragments (selection.Field x) xs ∙ deep-Field fragments x (written fragments xs))

  pub turns-Inline : (x : Placed (InlineFragment S)) (xs : List (Selection S))
      → turns_of fragments (selection.InlineFragment x ∷ xs) ≡ 2 + turns_of fragments x.item.selection_set + turns_of fragments xs
  turns-Inline x xs = ap tree_turns (written-cons fragments (selection.InlineFragment x) xs ∙ deep-Inline fragments x (written fragments xs))

  spread-none : (directives : Directives S) (rest : Tree S) (o : Option (Fragment S)) → o ≡ None → spread_as (write (length fragments) fragments) directives rest o ≡ rest
  spread-none directives rest o e = ap (spread_as (write (length fragments) fragments) directives rest) e

  spread-some : (directives : Directives S) (rest : Tree S) (o : Option (Fragment S)) (f : Fragment S) → o ≡ Some f
      → spread_as (write (length fragments) fragments) directives rest o ≡ inline (Some f.type_condition.item) directives (write (length fragments) fragments f.selection_set) rest
  spread-some directives rest o f e = ap (spread_as (write (length fragments) fragments) directives rest) e

  pub turns-unknown : (x : Placed (FragmentSpread S)) (xs : List (Selection S)) → fragment_meant fragments x.item.name.item ≡ None
      → turns_of fragments (selection.FragmentSpread x ∷ xs) ≡ turns_of fragments xs
  turns-unknown x xs e =
      ap tree_turns (written-cons fragments (selection.FragmentSpread x) xs ∙ deep-Spread fragments x (written fragments xs)
      ∙ spread-none (listed x.item.directives) (written fragments xs) (fragment_meant fragments x.item.name.item) e)

  some-turns : (t : Tree S) → 0 < tree_turns t
  some-turns none = omega arith
  some-turns (field head directives below rest) = omega arith
  some-turns (inline on directives below rest) = omega arith

  pub turns-some : (xs : List (Selection S)) → 0 < turns_of fragments xs
  turns-some xs = some-turns (written fragments xs)

  pub sum-cons : (o : OpenSet S) (os : List (OpenSet S)) → turns_open fragments (o ∷ os) ≡ turns_of fragments o.1 + turns_open fragments os
  sum-cons o os = sum_by-cons (λ (p : OpenSet S). turns_of fragments p.1) o os

  pub turns-Spread : Settled fragments → (x : Placed (FragmentSpread S)) (f : Fragment S) (xs : List (Selection S)) → fragment_meant fragments x.item.name.item ≡ Some f
      → turns_of fragments (selection.FragmentSpread x ∷ xs) ≡ 2 + turns_of fragments f.selection_set + turns_of fragments xs
  turns-Spread settled x f xs e =
      ap tree_turns (written-cons fragments (selection.FragmentSpread x) xs ∙ deep-Spread fragments x (written fragments xs)
      ∙ spread-some (listed x.item.directives) (written fragments xs) (fragment_meant fragments x.item.name.item) f e)
      ∙ ap (λ t. 2 + tree_turns t + tree_turns (written fragments xs)) (settled f x.item.name.item e)

-- what a success says, said otherwise
pub ok-so : {A E P Q : Type 0} → (r : Result A E) → (P → Q) → OnOk r P → OnOk r Q
ok-so (Ok a) f p = f p
ok-so (Err e) f p = tt

abbrev in-some : {A : Type 0} → A → Option A → A
in-some d (Some a) = a
in-some d None = d

pub some-same : {A : Type 0} {a b : A} → Some a ≡ Some b → a ≡ b
some-same {a = a} e = ap (in-some a) e

-- nothing is there
abbrev IsNone : {A : Type 0} → Option A → Type 0
IsNone None = Unit {0}
IsNone (Some a) = ⊥

module _ {S : Type 0} (drops : Directives S → Bool) (fragments : List (Fragment S)) where
  abbrev Has : Option Bytes → List (Selection S) → List (Ahead S) → Type 0
  Has = Children drops fragments

  -- the children of a list by its first selection, which is not left out
  abbrev pub PartsIn : Option Bytes → Opened S → List (Selection S) → List (Ahead S) → Type 0
  PartsIn only (Selection-F.Field x) xs cs = (drops (listed x.item.directives) ≡ false) × ((more : List (Ahead S)) × Has only xs more × (cs ≡ a_field x only ∷ more))
  PartsIn only (Selection-F.FragmentSpread x) xs cs =
      ((fragment_meant fragments x.item.name.item ≡ None) × Has only xs cs)
      ⊎ ((drops (listed x.item.directives) ≡ false) × ((f : Fragment S) × (fragment_meant fragments x.item.name.item ≡ Some f)
      × ((inner : List (Ahead S)) × (more : List (Ahead S)) × Has only f.selection_set inner × Has only xs more × (cs ≡ inner ++ more))))
  PartsIn only (Selection-F.InlineFragment x) xs cs =
      (drops (listed x.item.directives) ≡ false)
      × ((inner : List (Ahead S)) × (more : List (Ahead S)) × Has (bound only (condition_of x.item)) x.item.selection_set inner × Has only xs more × (cs ≡ inner ++ more))

  abbrev pub Parts : Option Bytes → List (Selection S) → List (Ahead S) → Type 0
  Parts only [] cs = cs ≡ []
  Parts only (x ∷ xs) cs = ((drops (directives_of x) ≡ true) × Has only xs cs) ⊎ PartsIn only (out-Selection S x) xs cs

  pub parts : (only : Option Bytes) (set : List (Selection S)) (cs : List (Ahead S)) → Has only set cs → Parts only set cs
  parts only _ _ (no_more o) = refl
  parts only _ cs (left_out o x xs ds d h) = inl (d, h)
  parts only _ _ (of_field o x xs ds d h) = inr (rw (selection.outs-Field x) (d, (ds, h, refl)))
  parts only _ _ (of_spread o x f xs inner ds d m i h) = inr (rw (selection.outs-FragmentSpread x) (inr (d, (f, m, (inner, ds, i, h, refl)))))
  parts only _ cs (of_unknown o x xs ds m h) = inr (rw (selection.outs-FragmentSpread x) (inl (m, h)))
  parts only _ _ (of_inline o x xs inner ds d i h) = inr (rw (selection.outs-InlineFragment x) (d, (inner, ds, i, h, refl)))

  abbrev Skipping : List (Selection S) → List (Selection S) → Type 0
  Skipping = Skips drops fragments

  pub skips-here : (xs : List (Selection S)) → Skipping xs xs
  skips-here xs = record { children = λ only cs h. h; none = λ only cs h. h; turns = refl }

  pub skips-then : (set rest last : List (Selection S)) → Skipping set rest → Skipping rest last → Skipping set last
  skips-then set rest last s t = record {
    children = λ only cs h. s.children only cs (t.children only cs h);
    none = λ only cs h. t.none only cs (s.none only cs h);
    turns = s.turns ∙ t.turns;
  }

  pub skips-is : (set rest : List (Selection S)) → set ≡ rest → Skipping set rest
  skips-is set rest is = subst (λ (zs : List (Selection S)). Skipping set zs) is (skips-here set)

  pub none-some : (f : Fragment S) → None ≡ Some f → ⊥
  none-some f e = subst (λ (o : Option (Fragment S)). IsNone o) e tt

  -- a field, by whether it is left out
  pub kind-Field : (x : Placed (Field S)) (xs : List (Selection S)) (only : Option Bytes) (cs : List (Ahead S)) → Has only (selection.Field x ∷ xs) cs
      → ((drops (listed x.item.directives) ≡ true) × Has only xs cs) ⊎ PartsIn only (Selection-F.Field x) xs cs
  kind-Field x xs only cs h = ⊎_elim
      (λ p. inl (sym (ap (λ o. drops (opened_directives o)) (selection.outs-Field x)) ∙ p.0, p.1))
      (λ p. inr (subst (λ o. PartsIn only o xs cs) (selection.outs-Field x) p))
      (parts only (selection.Field x ∷ xs) cs h)

  pub kind-Spread : (x : Placed (FragmentSpread S)) (xs : List (Selection S)) (only : Option Bytes) (cs : List (Ahead S)) → Has only (selection.FragmentSpread x ∷ xs) cs
      → ((drops (listed x.item.directives) ≡ true) × Has only xs cs) ⊎ PartsIn only (Selection-F.FragmentSpread x) xs cs
  kind-Spread x xs only cs h = ⊎_elim
      (λ p. inl (sym (ap (λ o. drops (opened_directives o)) (selection.outs-FragmentSpread x)) ∙ p.0, p.1))
      (λ p. inr (subst (λ o. PartsIn only o xs cs) (selection.outs-FragmentSpread x) p))
      (parts only (selection.FragmentSpread x ∷ xs) cs h)

  pub kind-Inline : (x : Placed (InlineFragment S)) (xs : List (Selection S)) (only : Option Bytes) (cs : List (Ahead S)) → Has only (selection.InlineFragment x ∷ xs) cs
      → ((drops (listed x.item.directives) ≡ true) × Has only xs cs) ⊎ PartsIn only (Selection-F.InlineFragment x) xs cs
  kind-Inline x xs only cs h = ⊎_elim
      (λ p. inl (sym (ap (λ o. drops (opened_directives o)) (selection.outs-InlineFragment x)) ∙ p.0, p.1))
      (λ p. inr (subst (λ o. PartsIn only o xs cs) (selection.outs-InlineFragment x) p))
      (parts only (selection.InlineFragment x ∷ xs) cs h)

  -- a selection that is kept: a field is the first child, what stands in a fragment comes before the rest
  pub in-field : (x : Placed (Field S)) (xs : List (Selection S)) → drops (listed x.item.directives) ≡ false → (only : Option Bytes) (cs : List (Ahead S)) → Has only (selection.Field x ∷ xs) cs
      → (more : List (Ahead S)) × Has only xs more × (cs ≡ a_field x only ∷ more)
  in-field x xs kept only cs h = ⊎_elim (λ p. absurd (true≢false (sym p.0 ∙ kept))) (λ p. p.1) (kind-Field x xs only cs h)

  pub in-spread : (x : Placed (FragmentSpread S)) (xs : List (Selection S)) (f : Fragment S) → fragment_meant fragments x.item.name.item ≡ Some f → drops (listed x.item.directives) ≡ false
      → (only : Option Bytes) (cs : List (Ahead S)) → Has only (selection.FragmentSpread x ∷ xs) cs
      → (inner : List (Ahead S)) × (more : List (Ahead S)) × Has only f.selection_set inner × Has only xs more × (cs ≡ inner ++ more)
  in-spread x xs f m kept only cs h = ⊎_elim
      (λ p. absurd (true≢false (sym p.0 ∙ kept)))
      (⊎_elim (λ p. absurd (none-some f (sym p.0 ∙ m)))
      (λ p. let i = p.1.2 in
      let same : p.1.0 ≡ f = some-same (sym p.1.1 ∙ m) in
      (i.0, i.1, subst (λ (g : Fragment S). Has only g.selection_set i.0) same i.2, i.3, i.4)))
      (kind-Spread x xs only cs h)

  pub in-inline : (x : Placed (InlineFragment S)) (xs : List (Selection S)) → drops (listed x.item.directives) ≡ false
      → (only : Option Bytes) (cs : List (Ahead S)) → Has only (selection.InlineFragment x ∷ xs) cs
      → (inner : List (Ahead S)) × (more : List (Ahead S)) × Has (bound only (condition_of x.item)) x.item.selection_set inner × Has only xs more × (cs ≡ inner ++ more)
  in-inline x xs kept only cs h = ⊎_elim (λ p. absurd (true≢false (sym p.0 ∙ kept))) (λ p. p.1) (kind-Inline x xs only cs h)

  passes-in : (x : Placed (FragmentSpread S)) (xs : List (Selection S)) → fragment_meant fragments x.item.name.item ≡ None
      → (only : Option Bytes) (cs : List (Ahead S)) → PartsIn only (Selection-F.FragmentSpread x) xs cs → Has only xs cs
  passes-in x xs e only cs (inl h) = h.1
  passes-in x xs e only cs (inr h) = absurd (none-some h.1.0 (sym e ∙ h.1.1))

  pub passes-unknown : (x : Placed (FragmentSpread S)) (xs : List (Selection S)) → fragment_meant fragments x.item.name.item ≡ None
      → (only : Option Bytes) (cs : List (Ahead S)) → Parts only (selection.FragmentSpread x ∷ xs) cs → Has only xs cs
  passes-unknown x xs e only cs (inl h) = h.1
  passes-unknown x xs e only cs (inr h) = passes-in x xs e only cs (subst (λ o. PartsIn only o xs cs) (selection.outs-FragmentSpread x) h)

  skips-spread : (x : Placed (FragmentSpread S)) (xs : List (Selection S)) → fragment_meant fragments x.item.name.item ≡ None → Skipping (selection.FragmentSpread x ∷ xs) xs
  skips-spread x xs e = record {
    children = λ only cs h. of_unknown only x xs cs e h;
    none = λ only cs h. passes-unknown x xs e only cs (parts only (selection.FragmentSpread x ∷ xs) cs h);
    turns = turns-unknown fragments x xs e;
  }

  -- behind a spread that means nothing
  pub skips-unknown : (set : List (Selection S)) (first : Selection S) (xs : List (Selection S)) → Skipping set (first ∷ xs) → IsUnknown fragments first → Skipping set xs
  skips-unknown set first xs s u =
      let x = u.0 in
      let here = subst (λ (z : Selection S). Skipping (z ∷ xs) xs) (sym u.1) (skips-spread x xs u.2) in
      skips-then set (first ∷ xs) xs s here

  pub skips-is-unknown : (set rest : List (Selection S)) (first : Selection S) (xs : List (Selection S)) → Skipping set rest → rest ≡ first ∷ xs → IsUnknown fragments first → Skipping set xs
  skips-is-unknown set rest first xs s e u = skips-unknown set first xs (subst (Skipping set) e s) u

  pub skips-is-next : (set rest : List (Selection S)) (first : Selection S) (xs : List (Selection S)) (m : Met S) → Skipping set rest → rest ≡ first ∷ xs → IsMet fragments first m
      → IsNext drops fragments set (Some m) xs
  skips-is-next set rest first xs m s e is = (first, is, subst (Skipping set) e s)

  pub skips-end : (set rest : List (Selection S)) → Skipping set rest → rest ≡ [] → Skipping set []
  skips-end set rest s e = skips-then set rest [] s (skips-is rest [] e)

  -- a step
  module _ {X : Type 0} (shown : Ahead S → X) where
    abbrev Stepping : List (OpenSet S) → List X → List (OpenSet S) → List X → Type 0
    Stepping = Steps drops fragments shown

    pub steps-end : (only : Option Bytes) (set : List (Selection S)) (os : List (OpenSet S)) (found : List X) → Skipping set [] → Stepping ((only, set) ∷ os) found os found
    steps-end only set os found s = λ cs h. (cs, ([], cs, s.children only [] (no_more only), h, refl), refl)

    -- the list itself goes on, without its first selection
    pub steps-on : (only : Option Bytes) (set rest : List (Selection S)) (os : List (OpenSet S)) (found : List X) → ((cs : List (Ahead S)) → Has only rest cs → Has only set cs)
        → Stepping ((only, set) ∷ os) found ((only, rest) ∷ os) found
    steps-on only set rest os found goes = λ cs h. (cs, (h.0, h.1, goes h.0 h.2, h.3, h.4), refl)

    -- its first selection is a child
    pub steps-found : (only : Option Bytes) (set rest : List (Selection S)) (os : List (OpenSet S)) (found : List X) (x : Ahead S)
        → ((cs : List (Ahead S)) → Has only rest cs → Has only set (x ∷ cs)) → Stepping ((only, set) ∷ os) found ((only, rest) ∷ os) (found ++ shown x ∷ [])
    steps-found only set rest os found x goes = λ cs h.
        (x ∷ cs, (x ∷ h.0, h.1, goes h.0 h.2, h.3, ap (λ zs. x ∷ zs) h.4), sym (append_assoc found (shown x ∷ []) (map shown cs)))

    -- its first selection opens a list
    pub steps-opens : (only within : Option Bytes) (set inner rest : List (Selection S)) (os : List (OpenSet S)) (found : List X)
        → ((is cs : List (Ahead S)) → Has within inner is → Has only rest cs → Has only set (is ++ cs))
        → Stepping ((only, set) ∷ os) found ((within, inner) ∷ (only, rest) ∷ os) found
    steps-opens only within set inner rest os found goes = λ cs h.
        let below = h.3 in
        (cs, (h.0 ++ below.0, below.1, goes h.0 below.0 h.2 below.2, below.3, h.4 ∙ ap (λ zs. h.0 ++ zs) below.4 ∙ sym (append_assoc h.0 below.0 below.1)), refl)

-- a turn, by what comes first in the innermost list
module _ {S : Type 0} (drops : Directives S → Bool) (fragments : List (Fragment S)) {X : Type 0} (shown : Ahead S → X) where
  pub turn-end : (top : Open S) (os : List (Open S)) (found : List X) (rest : List (Selection S)) → IsNext drops fragments (rest_of top) None rest
      → IsTurn drops fragments shown (open_set top ∷ opened os) found (opened os) found
  turn-end top os found rest s = record {
    steps = steps-end drops fragments shown (only_of top.applies) (rest_of top) (opened os) found s;
    nearer = omega (arith, turns-some fragments (rest_of top), sum-cons fragments (open_set top) (opened os));
  }

  module _ (settled : Settled fragments) (top new : Open S) (os now : List (Open S)) (found : List X) (m : Met S)
      (n : IsNext drops fragments (rest_of top) (Some m) (rest_of new)) (a : new.applies ≡ top.applies) (p : now ≡ os ++ new ∷ []) where
    abbrev set : List (Selection S)
    set = rest_of top

    abbrev rest : List (Selection S)
    rest = rest_of new

    abbrev only : Option Bytes
    only = only_of top.applies

    abbrev Turn : List (OpenSet S) → List X → Type 0
    Turn now_open found_then = IsTurn drops fragments shown (open_set top ∷ opened os) found now_open found_then

    pushed : opened now ≡ (only, rest) ∷ opened os
    pushed = opened-push os now new p ∙ ap (λ b. (only_of b, rest) ∷ opened os) a

    -- the innermost list goes on behind its first selection
    on : (first : Selection S) → Skips drops fragments set (first ∷ rest) → ((cs : List (Ahead S)) → Children drops fragments only rest cs → Children drops fragments only (first ∷ rest) cs)
        → turns_of fragments rest < turns_of fragments (first ∷ rest) → Turn (opened now) found
    on first s goes less = subst (λ os'. Turn os' found) (sym pushed) (record {
      steps = steps-on drops fragments shown only set rest (opened os) found (λ cs h. s.children only cs (goes cs h));
      nearer = omega (arith, s.turns, less, sum-cons fragments (open_set top) (opened os), sum-cons fragments (only, rest) (opened os));
    })

    opens : (within : Option Bytes) (inner : List (Selection S)) (first : Selection S) (now_open : List (OpenSet S)) → Skips drops fragments set (first ∷ rest)
        → now_open ≡ (within, inner) ∷ opened now
        → ((is cs : List (Ahead S)) → Children drops fragments within inner is → Children drops fragments only rest cs → Children drops fragments only (first ∷ rest) (is ++ cs))
        → turns_of fragments inner + turns_of fragments rest < turns_of fragments (first ∷ rest) → Turn now_open found
    opens within inner first now_open s o goes less =
        subst (λ os'. Turn os' found) (sym (o ∙ ap (λ zs. (within, inner) ∷ zs) pushed)) (record {
          steps = steps-opens drops fragments shown only within set inner rest (opened os) found (λ is cs hi hc. s.children only (is ++ cs) (goes is cs hi hc));
          nearer = omega (
            arith,
            s.turns,
            less,
            sum-cons fragments (open_set top) (opened os),
            sum-cons fragments (only, rest) (opened os),
            sum-cons fragments (within, inner) ((only, rest) ∷ opened os),
          );
        })

    module _ (x : Bor (Placed (Field S))) (e : m ≡ met.Field x) where
      field-first : n.0 ≡ selection.Field x.now
      field-first = subst (λ (k : Met S). IsMet fragments n.0 k) e n.1

      field-skips : Skips drops fragments set (selection.Field x.now ∷ rest)
      field-skips = subst (λ (f : Selection S). Skips drops fragments set (f ∷ rest)) field-first n.2

      pub turn-field-out : drops (listed x.now.item.directives) ≡ true → Turn (opened now) found
      turn-field-out d = on (selection.Field x.now) field-skips
          (λ cs h. left_out only (selection.Field x.now) rest cs (ap (λ o. drops (opened_directives o)) (selection.outs-Field x.now) ∙ d) h)
          (omega (arith, turns-Field fragments x.now rest))

      pub turn-field : (found_then : List X) → drops (listed x.now.item.directives) ≡ false → found_then ≡ found ++ shown (a_field x.now only) ∷ [] → Turn (opened now) found_then
      turn-field found_then d f = subst (λ zs. Turn (opened now) zs) (sym f) (subst (λ os'. Turn os' (found ++ shown (a_field x.now only) ∷ [])) (sym pushed) (record {
        steps = steps-found drops fragments shown only set rest (opened os) found (a_field x.now only)
            (λ cs h. field-skips.children only (a_field x.now only ∷ cs) (of_field only x.now rest cs d h));
        nearer = omega (arith, field-skips.turns, turns-Field fragments x.now rest, sum-cons fragments (open_set top) (opened os), sum-cons fragments (only, rest) (opened os));
      }))

    module _ (x : Bor (Placed (FragmentSpread S))) (f : Bor (Fragment S)) (e : m ≡ met.Spread x f) where
      spread-first : (n.0 ≡ selection.FragmentSpread x.now) × (fragment_meant fragments x.now.item.name.item ≡ Some f.now)
      spread-first = subst (λ (k : Met S). IsMet fragments n.0 k) e n.1

      spread-skips : Skips drops fragments set (selection.FragmentSpread x.now ∷ rest)
      spread-skips = subst (λ (z : Selection S). Skips drops fragments set (z ∷ rest)) spread-first.0 n.2

      spread-turns : turns_of fragments (selection.FragmentSpread x.now ∷ rest) ≡ 2 + turns_of fragments f.now.selection_set + turns_of fragments rest
      spread-turns = turns-Spread fragments settled x.now f.now rest spread-first.1

      pub turn-spread-out : drops (listed x.now.item.directives) ≡ true → Turn (opened now) found
      turn-spread-out d = on (selection.FragmentSpread x.now) spread-skips
          (λ cs h. left_out only (selection.FragmentSpread x.now) rest cs (ap (λ o. drops (opened_directives o)) (selection.outs-FragmentSpread x.now) ∙ d) h)
          (omega (arith, spread-turns))

      pub turn-spread : (now_open : List (OpenSet S)) → drops (listed x.now.item.directives) ≡ false → now_open ≡ (only, f.now.selection_set) ∷ opened now → Turn now_open found
      turn-spread now_open d o = opens only f.now.selection_set (selection.FragmentSpread x.now) now_open spread-skips o
          (λ is cs hi hc. of_spread only x.now f.now rest is cs d spread-first.1 hi hc) (omega (arith, spread-turns))

    module _ (x : Bor (Placed (InlineFragment S))) (e : m ≡ met.Inline x) where
      inline-first : n.0 ≡ selection.InlineFragment x.now
      inline-first = subst (λ (k : Met S). IsMet fragments n.0 k) e n.1

      inline-skips : Skips drops fragments set (selection.InlineFragment x.now ∷ rest)
      inline-skips = subst (λ (z : Selection S). Skips drops fragments set (z ∷ rest)) inline-first n.2

      pub turn-inline-out : drops (listed x.now.item.directives) ≡ true → Turn (opened now) found
      turn-inline-out d = on (selection.InlineFragment x.now) inline-skips
          (λ cs h. left_out only (selection.InlineFragment x.now) rest cs (ap (λ o. drops (opened_directives o)) (selection.outs-InlineFragment x.now) ∙ d) h)
          (omega (arith, turns-Inline fragments x.now rest))

      pub turn-inline : (now_open : List (OpenSet S)) → drops (listed x.now.item.directives) ≡ false
          → now_open ≡ (bound only (condition_of x.now.item), x.now.item.selection_set) ∷ opened now → Turn now_open found
      turn-inline now_open d o = opens (bound only (condition_of x.now.item)) x.now.item.selection_set (selection.InlineFragment x.now) now_open inline-skips o
          (λ is cs hi hc. of_inline only x.now rest is cs d hi hc) (omega (arith, turns-Inline fragments x.now rest))

module _ {S : Type 0} (drops : Directives S → Bool) (fragments : List (Fragment S)) {X : Type 0} (shown : Ahead S → X) where
  steps-here : (os : List (OpenSet S)) (found : List X) → Steps drops fragments shown os found os found
  steps-here os found = λ cs h. (cs, h, refl)

  -- one step after another
  steps-then : (o1 o2 o3 : List (OpenSet S)) (f1 f2 f3 : List X) → Steps drops fragments shown o1 f1 o2 f2 → Steps drops fragments shown o2 f2 o3 f3 → Steps drops fragments shown o1 f1 o3 f3
  steps-then o1 o2 o3 f1 f2 f3 s t = λ cs h.
      let later = t cs h in
      let before = s later.0 later.1 in
      (before.0, before.1, before.2 ∙ later.2)

  -- where one list was open and none is left, its children were found
  pub steps-whole : (list : List (Selection S)) (f1 f2 : List X) (os : List (OpenSet S)) → os ≡ [] → Steps drops fragments shown (whole list) f1 os f2 → AddsChildren drops fragments shown list f1 f2
  steps-whole list f1 f2 os e s =
      let all = subst (λ zs. Steps drops fragments shown (whole list) f1 zs f2) e s [] refl in
      let h = all.1 in
      let is : h.0 ≡ all.0 = sym (h.4 ∙ ap (λ zs. h.0 ++ zs) h.3 ∙ append-nil h.0) in
      (h.0, h.2, sym (append-nil f2) ∙ sym all.2 ∙ ap (λ zs. f1 ++ map shown zs) (sym is))

  pub steps-pop : (list : List (Selection S)) (f1 f2 f3 : List X) (before now : List (OpenSet S)) (o : OpenSet S) (os : List (OpenSet S)) → before ≡ o ∷ os
      → Steps drops fragments shown (whole list) f1 before f2 → Steps drops fragments shown (o ∷ os) f2 now f3 → Steps drops fragments shown (whole list) f1 now f3
  steps-pop list f1 f2 f3 before now o os e s t = steps-then (whole list) (o ∷ os) now f1 f2 f3 (subst (λ zs. Steps drops fragments shown (whole list) f1 zs f2) e s) t

  pub steps-init : (list : List (Selection S)) (f : List X) (os : List (OpenSet S)) → os ≡ whole list → Steps drops fragments shown (whole list) f os f
  steps-init list f os e = subst (λ zs. Steps drops fragments shown (whole list) f zs f) (sym e) (steps-here (whole list) f)

  -- the children of one list and of another one are those of both
  both : (to : Option Bytes) (xs ys : List (Selection S)) (cs ds : List (Ahead S)) → Children drops fragments to xs cs → Children drops fragments to ys ds
      → Children drops fragments to (xs ++ ys) (cs ++ ds)
  both to _ ys _ ds (no_more o) h = h
  both to _ ys cs ds (left_out o x xs cs2 d c) h = left_out to x (xs ++ ys) (cs ++ ds) d (both to xs ys cs ds c h)
  both to _ ys _ ds (of_field o x xs cs d c) h = of_field to x (xs ++ ys) (cs ++ ds) d (both to xs ys cs ds c h)
  both to _ ys _ ds (of_spread o x f xs inner cs d m i c) h =
      subst (Children drops fragments to (selection.FragmentSpread x ∷ xs ++ ys)) (sym (append_assoc inner cs ds)) (of_spread to x f (xs ++ ys) inner (cs ++ ds) d m i (both to xs ys cs ds c h))
  both to _ ys cs ds (of_unknown o x xs cs2 m c) h = of_unknown to x (xs ++ ys) (cs ++ ds) m (both to xs ys cs ds c h)
  both to _ ys _ ds (of_inline o x xs inner cs d i c) h =
      subst (Children drops fragments to (selection.InlineFragment x ∷ xs ++ ys)) (sym (append_assoc inner cs ds)) (of_inline to x (xs ++ ys) inner (cs ++ ds) d i (both to xs ys cs ds c h))

  pub adds-none : (f : List X) → AddsChildren drops fragments shown [] f f
  adds-none f = ([], no_more None, sym (append-nil f))

  pub adds-more : (xs ys : List (Selection S)) (f1 f2 f3 : List X) → AddsChildren drops fragments shown xs f1 f2 → AddsChildren drops fragments shown ys f2 f3 → AddsChildren drops fragments shown (xs ++ ys) f1 f3
  adds-more xs ys f1 f2 f3 a b = (
    a.0 ++ b.0,
    both None xs ys a.0 b.0 a.1 b.1,
    b.2 ∙ ap (λ zs. zs ++ map shown b.0) a.2 ∙ append_assoc f1 (map shown a.0) (map shown b.0) ∙ ap (λ zs. f1 ++ zs) (sym (map-append shown a.0 b.0)),
  )

  -- one list more, of those that fields have
  pub adds-each : {A : Type 0} (h : A → List (Selection S)) (xs : List A) (n : ℕ) (x : A) (f1 f2 f3 : List X) → n < length xs → x ≡ get_or xs n x
      → AddsChildren drops fragments shown (flat_map h (take n xs)) f1 f2 → AddsChildren drops fragments shown (h x) f2 f3 → AddsChildren drops fragments shown (flat_map h (take (n + 1) xs)) f1 f3
  adds-each h xs n x f1 f2 f3 lt is a b = subst (λ zs. AddsChildren drops fragments shown zs f1 f3)
      (sym (ap (flat_map h) (take_more xs n x lt ∙ ap (λ z. take n xs ++ z ∷ []) (sym is)) ∙ flat_map-append h (take n xs) (x ∷ []) ∙ ap (λ zs. flat_map h (take n xs) ++ zs) (append-nil (h x))))
      (adds-more (flat_map h (take n xs)) (h x) f1 f2 f3 a b)

  pub adds-all : {A : Type 0} (h : A → List (Selection S)) (xs : List A) (n : ℕ) (list : List (Selection S)) (f1 f2 : List X) → length xs ≤ n → list ≡ flat_map h xs
      → AddsChildren drops fragments shown (flat_map h (take n xs)) f1 f2 → AddsChildren drops fragments shown list f1 f2
  adds-all h xs n list f1 f2 le is a = subst (λ zs. AddsChildren drops fragments shown zs f1 f2) (ap (flat_map h) (take_all n xs le) ∙ sym is) a

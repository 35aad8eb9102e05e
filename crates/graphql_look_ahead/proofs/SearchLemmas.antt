-- How one child of a list is found.
use Rattle.std.proofs.Common.{◌≡◌, refl, subst, sym, ◌∙◌, ap, ℕ, ◌+◌, ◌<◌, ◌≤◌, arith, Bool, true, false, true≢false, ◌||◌, List, [], ◌∷◌, ◌++◌, map, reverse, drop, take, get_or, length, append-nil, append_assoc, Option, Some, None, ⊎_elim, cond}
use Rattle.std.proofs.lemmas.List.{drop_more, reverse-append, take-append-drop, take_all, take_more}
use Rattle.std.proofs.lemmas.List.Concat.{flat_map-append}
use Rattle.std.specs.Borrow.{Bor}
use Rattle.std.proofs.lemmas.Slice.Eq.{bytes_eq-Decides}
use Rattle.std.specs.List.{find, flat_map, list_any}
use Rattle.std.specs.Option.{option_map, option_or}
use Rattle.std.specs.Str.{bytes_eq}
use Rattle.indexmap.specs.IndexSet.{insert_key}
use Rattle.graphql_names.specs.Names.{Bytes}
use Rattle.graphql_values.specs.InputValues.{Placed}
use Rattle.graphql_tree.specs.declared.document.Fragment.{Fragment}
use Rattle.graphql_tree.specs.declared.selection.Field.{Field}
use Rattle.graphql_tree.specs.declared.selection.FragmentSpread.{FragmentSpread}
use Rattle.graphql_tree.specs.declared.selection.InlineFragment.{InlineFragment}
use Rattle.graphql_tree.specs.declared.selection.Selection.{Selection}
use Rattle.graphql_tree.specs.declared.selection.Selection.TheVariants as selection
use Rattle.graphql_written_out.specs.Trees.{Directives}
use Rattle.graphql_written_out.specs.Written.{Settled, condition_of, fragment_meant, listed, response_key}
use Rattle.graphql_collected.proofs.NamesBehind.{last-cases}
use Rattle.graphql_look_ahead.specs.Applies.{bound, only_of}
use Rattle.graphql_look_ahead.specs.Children.{Ahead, Children, a_field, left_out, no_more, of_field, of_inline, of_spread, of_unknown}
use Rattle.graphql_look_ahead.specs.FirstChild.{AllLack, FragmentLacks, FindsFirst, GoesOn, IsFirst, IsSearch, Turns, SearchIsSound, Lacks, KeepsFirst, first_child, lists_left, turns_left}
use Rattle.graphql_look_ahead.specs.Open.{AllHave, IsMet, IsNext, OpenSet, Skips, open_set, rest_of, turns_of}
use Rattle.graphql_look_ahead.specs.Told.{key_of, looked_at, document_field, with_request}
use Rattle.graphql_collected.specs.Requests.{drops_in, fragments_in}
use Rattle.graphql_collected.specs.declared.request.Request.{Request}
use Rattle.graphql_scalars.specs.ScalarAnswers.{ScalarAnswer}
use Rattle.graphql_look_ahead.specs.declared.selection.LookAheadSelection.{LookAheadSelection}
use Rattle.graphql_look_ahead.specs.declared.open.Met.{Met}
use Rattle.graphql_look_ahead.specs.declared.open.Met.TheVariants as met
use Rattle.graphql_look_ahead.specs.declared.open.Open.{Open}
use Rattle.graphql_look_ahead.specs.declared.searching.Task.{Task}
use Rattle.graphql_look_ahead.specs.declared.searching.Task.TheVariants as task
use Rattle.graphql_look_ahead.proofs.OpenLemmas.{in-field, in-inline, in-spread, kind-Field, kind-Inline, kind-Spread, parts, some-same, turns-Field, turns-Inline, turns-Spread, turns-some}

abbrev IsNothing : {A : Type 0} → Option A → Type 0
IsNothing None = Unit {0}
IsNothing (Some a) = ⊥

abbrev IsNil : {A : Type 0} → List A → Type 0
IsNil [] = Unit {0}
IsNil (x ∷ xs) = ⊥

nil-cons : {A : Type 0} (x : A) (xs : List A) → [] ≡ x ∷ xs → ⊥
nil-cons x xs e = subst IsNil e tt

module _ {S : Type 0} (key : Bytes) where
  first-join : (o : Bool) (x : Ahead S) (f g : Option (Ahead S)) → cond o (Some x) (option_or f g) ≡ option_or (cond o (Some x) f) g
  first-join true x f g = refl
  first-join false x f g = refl

  -- the first of two lists
  pub first-append : (xs ys : List (Ahead S)) → first_child key (xs ++ ys) ≡ option_or (first_child key xs) (first_child key ys)
  first-append [] ys = refl
  first-append (x ∷ xs) ys = ap (cond (bytes_eq (key_of x) key) (Some x)) (first-append xs ys) ∙ first-join (bytes_eq (key_of x) key) x (first_child key xs) (first_child key ys)

  pub first-behind : (xs ys : List (Ahead S)) → first_child key xs ≡ None → first_child key (xs ++ ys) ≡ first_child key ys
  first-behind xs ys e = first-append xs ys ∙ ap (λ f. option_or f (first_child key ys)) e

  pub first-same : (xs zs ys : List (Ahead S)) → first_child key xs ≡ first_child key zs → first_child key (xs ++ ys) ≡ first_child key (zs ++ ys)
  first-same xs zs ys e = first-append xs ys ∙ ap (λ f. option_or f (first_child key ys)) e ∙ sym (first-append zs ys)

  pub first-is : (x : Ahead S) (xs : List (Ahead S)) → bytes_eq (key_of x) key ≡ true → first_child key (x ∷ xs) ≡ Some x
  first-is x xs e = ap (λ o. cond o (Some x) (first_child key xs)) e

  pub first-other : (x : Ahead S) (xs : List (Ahead S)) → bytes_eq (key_of x) key ≡ false → first_child key (x ∷ xs) ≡ first_child key xs
  first-other x xs e = ap (λ o. cond o (Some x) (first_child key xs)) e

module _ {S : Type 0} (drops : Directives S → Bool) (fragments : List (Fragment S)) (key : Bytes) where
  abbrev Has : Option Bytes → List (Selection S) → List (Ahead S) → Type 0
  Has = Children drops fragments

  abbrev Lacking : List (Selection S) → Type 0
  Lacking = Lacks drops fragments key

  abbrev Sound : Type 0 → List (Task S) → Type 0
  Sound = SearchIsSound drops fragments key

  abbrev Leading : List (OpenSet S) → List (OpenSet S) → Type 0
  Leading = KeepsFirst drops fragments key

  pub sound-weaker : (P Q : Type 0) (ts : List (Task S)) → (P → Q) → Sound Q ts → Sound P ts
  sound-weaker P Q [] f s = s
  sound-weaker P Q (task.Search o ∷ ts) f s = sound-weaker (P × Lacking (rest_of o)) (Q × Lacking (rest_of o)) ts (λ h. (f h.0, h.1)) s
  sound-weaker P Q (task.Searched name ∷ ts) f s = (λ p. s.0 (f p), sound-weaker P Q ts f s.1)

  -- the children of a list go on as those of its rest
  abbrev pub Passes : Option Bytes → List (Selection S) → List (Selection S) → Type 0
  Passes only set rest = (cs : List (Ahead S)) → Has only set cs → (ds : List (Ahead S)) × Has only rest ds × (first_child key cs ≡ first_child key ds)

  pub passes-lacks : (set rest : List (Selection S)) → ((only : Option Bytes) → Passes only set rest) → Lacking rest → Lacking set
  passes-lacks set rest passes lacks = λ only cs h. let p = passes only cs h in p.2 ∙ lacks only p.0 p.1

  pub leads-on : (only : Option Bytes) (set rest : List (Selection S)) (os : List (OpenSet S)) → Passes only set rest → Leading ((only, set) ∷ os) ((only, rest) ∷ os)
  leads-on only set rest os passes = λ ds h.
      let p = passes h.0 h.2 in
      (p.0 ++ h.1, (p.0, h.1, p.1, h.3, refl), ap (first_child key) h.4 ∙ first-same key h.0 p.0 h.1 p.2)

  -- a list at its end
  pub lacks-end : (set : List (Selection S)) → Skips drops fragments set [] → Lacking set
  lacks-end set s = λ only cs h. ap (first_child key) (parts drops fragments only [] cs (s.none only cs h))

  pub leads-end : (only : Option Bytes) (set : List (Selection S)) (os : List (OpenSet S)) → Skips drops fragments set [] → Leading ((only, set) ∷ os) os
  leads-end only set os s = λ ds h. (h.1, h.3, ap (first_child key) h.4 ∙ first-behind key h.0 h.1 (lacks-end set s only h.0 h.2))

  -- a list opens another one
  abbrev pub Opens : Option Bytes → Option Bytes → List (Selection S) → List (Selection S) → List (Selection S) → Type 0
  Opens only within set inner rest = (cs : List (Ahead S)) → Has only set cs
      → (is : List (Ahead S)) × (ds : List (Ahead S)) × Has within inner is × Has only rest ds × (first_child key cs ≡ first_child key (is ++ ds))

  pub opens-lacks : (set inner rest : List (Selection S)) (within : Option Bytes → Option Bytes) → ((only : Option Bytes) → Opens only (within only) set inner rest)
      → Lacking inner → Lacking rest → Lacking set
  opens-lacks set inner rest within opens inside behind = λ only cs h.
      let p = opens only cs h in
      p.4 ∙ first-behind key p.0 p.1 (inside (within only) p.0 p.2) ∙ behind only p.1 p.3

  pub leads-opens : (only within : Option Bytes) (set inner rest : List (Selection S)) (os : List (OpenSet S)) → Opens only within set inner rest
      → Leading ((only, set) ∷ os) ((within, inner) ∷ (only, rest) ∷ os)
  leads-opens only within set inner rest os opens = λ ds h.
      let p = opens h.0 h.2 in (
        p.0 ++ (p.1 ++ h.1),
        (p.0, p.1 ++ h.1, p.2, (p.1, h.1, p.3, h.3, refl), refl),
        ap (first_child key) h.4 ∙ first-same key h.0 (p.0 ++ p.1) h.1 p.4 ∙ ap (first_child key) (append_assoc p.0 p.1 h.1),
      )

  -- a field that is left out, or of another key
  pub passes-field-out : (x : Placed (Field S)) (xs : List (Selection S)) → drops (listed x.item.directives) ≡ true → (only : Option Bytes) → Passes only (selection.Field x ∷ xs) xs
  passes-field-out x xs d only = λ cs h. ⊎_elim
      (λ p. (cs, p.1, refl))
      (λ p. absurd (true≢false (sym d ∙ p.0)))
      (kind-Field drops fragments x xs only cs h)

  pub passes-field : (x : Placed (Field S)) (xs : List (Selection S)) → bytes_eq (response_key x.item.alias x.item.name) key ≡ false → (only : Option Bytes) → Passes only (selection.Field x ∷ xs) xs
  passes-field x xs other only = λ cs h. ⊎_elim
      (λ p. (cs, p.1, refl))
      (λ p. (p.1.0, p.1.1, ap (first_child key) p.1.2 ∙ first-other key (a_field x only) p.1.0 other))
      (kind-Field drops fragments x xs only cs h)

  -- a field of the key
  pub finds-field : (x : Placed (Field S)) (xs : List (Selection S)) (only : Option Bytes) (os : List (OpenSet S)) → drops (listed x.item.directives) ≡ false
      → bytes_eq (response_key x.item.alias x.item.name) key ≡ true → FindsFirst drops fragments key ((only, selection.Field x ∷ xs) ∷ os) (a_field x only)
  finds-field x xs only os d same = λ ds h.
      let p = in-field drops fragments x xs d only h.0 h.2 in
      ap (first_child key) (h.4 ∙ ap (λ zs. zs ++ h.1) p.2) ∙ first-is key (a_field x only) (p.0 ++ h.1) same

  -- an inline fragment
  pub passes-inline-out : (x : Placed (InlineFragment S)) (xs : List (Selection S)) → drops (listed x.item.directives) ≡ true → (only : Option Bytes) → Passes only (selection.InlineFragment x ∷ xs) xs
  passes-inline-out x xs d only = λ cs h. ⊎_elim
      (λ p. (cs, p.1, refl))
      (λ p. absurd (true≢false (sym d ∙ p.0)))
      (kind-Inline drops fragments x xs only cs h)

  pub opens-inline : (x : Placed (InlineFragment S)) (xs : List (Selection S)) → drops (listed x.item.directives) ≡ false
      → (only : Option Bytes) → Opens only (bound only (condition_of x.item)) (selection.InlineFragment x ∷ xs) x.item.selection_set xs
  opens-inline x xs d only = λ cs h. let p = in-inline drops fragments x xs d only cs h in (p.0, p.1, p.2, p.3, ap (first_child key) p.4)

  -- a spread
  pub passes-spread-out : (x : Placed (FragmentSpread S)) (xs : List (Selection S)) (f : Fragment S) → fragment_meant fragments x.item.name.item ≡ Some f
      → drops (listed x.item.directives) ≡ true → (only : Option Bytes) → Passes only (selection.FragmentSpread x ∷ xs) xs
  passes-spread-out x xs f m d only = λ cs h. ⊎_elim
      (λ p. (cs, p.1, refl))
      (⊎_elim (λ p. (cs, p.1, refl)) (λ p. absurd (true≢false (sym d ∙ p.0))))
      (kind-Spread drops fragments x xs only cs h)

  pub passes-searched : (x : Placed (FragmentSpread S)) (xs : List (Selection S)) → FragmentLacks drops fragments key x.item.name.item → (only : Option Bytes) → Passes only (selection.FragmentSpread x ∷ xs) xs
  passes-searched x xs lacks only = λ cs h. ⊎_elim
      (λ p. (cs, p.1, refl))
      (⊎_elim (λ p. (cs, p.1, refl))
      (λ p. let i = p.1.2 in (i.1, i.3, ap (first_child key) i.4 ∙ first-behind key i.0 i.1 (lacks p.1.0 p.1.1 only i.0 i.2))))
      (kind-Spread drops fragments x xs only cs h)

  pub opens-spread : (x : Placed (FragmentSpread S)) (xs : List (Selection S)) (f : Fragment S) → fragment_meant fragments x.item.name.item ≡ Some f
      → drops (listed x.item.directives) ≡ false → (only : Option Bytes) → Opens only only (selection.FragmentSpread x ∷ xs) f.selection_set xs
  opens-spread x xs f m d only = λ cs h. let p = in-spread drops fragments x xs f m d only cs h in (p.0, p.1, p.2, p.3, ap (first_child key) p.4)

  -- behind what has no children
  pub passes-behind : (set mid rest : List (Selection S)) → Skips drops fragments set mid → ((only : Option Bytes) → Passes only mid rest) → (only : Option Bytes) → Passes only set rest
  passes-behind set mid rest s passes only = λ cs h. passes only cs (s.none only cs h)

  pub opens-behind : (set mid inner rest : List (Selection S)) (within : Option Bytes → Option Bytes) → Skips drops fragments set mid
      → ((only : Option Bytes) → Opens only (within only) mid inner rest) → (only : Option Bytes) → Opens only (within only) set inner rest
  opens-behind set mid inner rest within s opens only = λ cs h. opens only cs (s.none only cs h)

  pub finds-behind : (set mid : List (Selection S)) (only : Option Bytes) (os : List (OpenSet S)) (a : Ahead S) → Skips drops fragments set mid
      → FindsFirst drops fragments key ((only, mid) ∷ os) a → FindsFirst drops fragments key ((only, set) ∷ os) a
  finds-behind set mid only os a s finds = λ ds h. finds ds (h.0, h.1, s.none only h.0 h.2, h.3, h.4)

  abbrev Going : List (Task S) → List (Task S) → List Bytes → Type 0
  Going = GoesOn drops fragments key

  abbrev Searching : List (Task S) → List Bytes → Type 0
  Searching = IsSearch drops fragments key

  -- a turn of a search, by what comes first in the innermost list
  pub goes-end : (top : Open S) (ts : List (Task S)) (searched : List Bytes) → Skips drops fragments (rest_of top) [] → Searching (task.Search top ∷ ts) searched
      → Going (task.Search top ∷ ts) ts searched
  goes-end top ts searched s h = record {
    leads = leads-end (only_of top.applies) (rest_of top) (lists_left ts) s;
    search = record {
      sound = sound-weaker (Unit {0}) (Unit {0} × Lacking (rest_of top)) ts (λ p. (p, lacks-end (rest_of top) s)) h.sound;
      lack = h.lack;
    };
  }

  pub goes-on : (top new : Open S) (ts now : List (Task S)) (searched : List Bytes) → now ≡ task.Search new ∷ ts → new.applies ≡ top.applies
      → ((only : Option Bytes) → Passes only (rest_of top) (rest_of new)) → Searching (task.Search top ∷ ts) searched → Going (task.Search top ∷ ts) now searched
  goes-on top new ts now searched e a passes h = subst (λ zs. Going (task.Search top ∷ ts) zs searched) (sym e) (record {
    leads = subst (λ b. Leading (lists_left (task.Search top ∷ ts)) ((only_of b, rest_of new) ∷ lists_left ts)) (sym a)
        (leads-on (only_of top.applies) (rest_of top) (rest_of new) (lists_left ts) (passes (only_of top.applies)));
    search = record {
      sound = sound-weaker (Unit {0} × Lacking (rest_of new)) (Unit {0} × Lacking (rest_of top)) ts (λ p. (p.0, passes-lacks (rest_of top) (rest_of new) passes p.1)) h.sound;
      lack = h.lack;
    };
  })

  pub goes-in : (top new inner : Open S) (within : Option Bytes → Option Bytes) (ts now : List (Task S)) (searched : List Bytes) → now ≡ task.Search inner ∷ task.Search new ∷ ts
      → new.applies ≡ top.applies → only_of inner.applies ≡ within (only_of top.applies)
      → ((only : Option Bytes) → Opens only (within only) (rest_of top) (rest_of inner) (rest_of new)) → Searching (task.Search top ∷ ts) searched → Going (task.Search top ∷ ts) now searched
  goes-in top new inner within ts now searched e a w opens h = subst (λ zs. Going (task.Search top ∷ ts) zs searched) (sym e) (record {
    leads = subst (λ b. Leading (lists_left (task.Search top ∷ ts)) ((only_of inner.applies, rest_of inner) ∷ (only_of b, rest_of new) ∷ lists_left ts)) (sym a)
        (subst (λ b. Leading (lists_left (task.Search top ∷ ts)) ((b, rest_of inner) ∷ (only_of top.applies, rest_of new) ∷ lists_left ts)) (sym w)
        (leads-opens (only_of top.applies) (within (only_of top.applies)) (rest_of top) (rest_of inner) (rest_of new) (lists_left ts) (opens (only_of top.applies))));
    search = record {
      sound = sound-weaker ((Unit {0} × Lacking (rest_of inner)) × Lacking (rest_of new)) (Unit {0} × Lacking (rest_of top)) ts
          (λ p. (p.0.0, opens-lacks (rest_of top) (rest_of inner) (rest_of new) within opens p.0.1 p.1)) h.sound;
      lack = h.lack;
    };
  })

  pub goes-into : (top new inner : Open S) (name : Bytes) (ts now : List (Task S)) (searched : List Bytes) → now ≡ task.Search inner ∷ task.Searched name ∷ task.Search new ∷ ts
      → new.applies ≡ top.applies → inner.applies ≡ top.applies → (Lacking (rest_of inner) → FragmentLacks drops fragments key name)
      → ((only : Option Bytes) → Opens only only (rest_of top) (rest_of inner) (rest_of new)) → Searching (task.Search top ∷ ts) searched → Going (task.Search top ∷ ts) now searched
  goes-into top new inner name ts now searched e a w fragment opens h = subst (λ zs. Going (task.Search top ∷ ts) zs searched) (sym e) (record {
    leads = subst (λ b. Leading (lists_left (task.Search top ∷ ts)) ((only_of inner.applies, rest_of inner) ∷ (only_of b, rest_of new) ∷ lists_left ts)) (sym a)
        (subst (λ b. Leading (lists_left (task.Search top ∷ ts)) ((only_of b, rest_of inner) ∷ (only_of top.applies, rest_of new) ∷ lists_left ts)) (sym w)
        (leads-opens (only_of top.applies) (only_of top.applies) (rest_of top) (rest_of inner) (rest_of new) (lists_left ts) (opens (only_of top.applies))));
    search = record {
      sound = (
        λ p. fragment p.1,
        sound-weaker ((Unit {0} × Lacking (rest_of inner)) × Lacking (rest_of new)) (Unit {0} × Lacking (rest_of top)) ts
            (λ p. (p.0.0, opens-lacks (rest_of top) (rest_of inner) (rest_of new) (λ only. only) opens p.0.1 p.1)) h.sound,
      );
      lack = h.lack;
    };
  })

  -- a fragment was searched in vain
  pub goes-searched : (name : Bytes) (ts : List (Task S)) (searched more : List Bytes) → (AllLack drops fragments key searched → FragmentLacks drops fragments key name → AllLack drops fragments key more)
      → Searching (task.Searched name ∷ ts) searched → Going (task.Searched name ∷ ts) ts more
  goes-searched name ts searched more adds h = record {
    leads = λ ds k. (ds, k, refl);
    search = record { sound = h.sound.1; lack = adds h.lack (h.sound.0 tt) };
  }

  -- a turn, by what comes first in the innermost list
  module _ (settled : Settled fragments) (top new : Open S) (ts now : List (Task S)) (searched : List Bytes) (m : Met S)
      (n : IsNext drops fragments (rest_of top) (Some m) (rest_of new)) (a : new.applies ≡ top.applies) (h : Searching (task.Search top ∷ ts) searched) where
    abbrev Turning : Type 0
    Turning = Going (task.Search top ∷ ts) now searched × (turns_left fragments now < turns_left fragments (task.Search top ∷ ts))

    passes-turn : (first : Selection S) → Skips drops fragments (rest_of top) (first ∷ rest_of new) → now ≡ task.Search new ∷ ts → ((only : Option Bytes) → Passes only (first ∷ rest_of new) (rest_of new))
        → turns_of fragments (rest_of new) < turns_of fragments (first ∷ rest_of new) → Turning
    passes-turn first s p passes less = (
      goes-on top new ts now searched p a (passes-behind (rest_of top) (first ∷ rest_of new) (rest_of new) s passes) h,
      omega (arith, s.turns, less, ap (turns_left fragments) p),
    )

    module _ (x : Bor (Placed (Field S))) (e : m ≡ met.Field x) where
      field-skips : Skips drops fragments (rest_of top) (selection.Field x.now ∷ rest_of new)
      field-skips = subst (λ (f : Selection S). Skips drops fragments (rest_of top) (f ∷ rest_of new)) (subst (λ (k : Met S). IsMet fragments n.0 k) e n.1) n.2

      field-passes : ((only : Option Bytes) → Passes only (selection.Field x.now ∷ rest_of new) (rest_of new)) → now ≡ task.Search new ∷ ts → Turning
      field-passes passes p = passes-turn (selection.Field x.now) field-skips p passes (omega (arith, turns-Field fragments x.now (rest_of new)))

      pub turn-field-out : drops (listed x.now.item.directives) ≡ true → now ≡ task.Search new ∷ ts → Turning
      turn-field-out d = field-passes (passes-field-out x.now (rest_of new) d)

      pub turn-field-other : bytes_eq (response_key x.now.item.alias x.now.item.name) key ≡ false → now ≡ task.Search new ∷ ts → Turning
      turn-field-other o = field-passes (passes-field x.now (rest_of new) o)

      pub turn-field-found : drops (listed x.now.item.directives) ≡ false → bytes_eq (response_key x.now.item.alias x.now.item.name) key ≡ true
          → FindsFirst drops fragments key (lists_left (task.Search top ∷ ts)) (a_field x.now (only_of top.applies))
      turn-field-found d same = finds-behind (rest_of top) (selection.Field x.now ∷ rest_of new) (only_of top.applies) (lists_left ts) (a_field x.now (only_of top.applies)) field-skips
          (finds-field x.now (rest_of new) (only_of top.applies) (lists_left ts) d same)

    module _ (x : Bor (Placed (FragmentSpread S))) (f : Bor (Fragment S)) (e : m ≡ met.Spread x f) where
      spread-met : (n.0 ≡ selection.FragmentSpread x.now) × (fragment_meant fragments x.now.item.name.item ≡ Some f.now)
      spread-met = subst (λ (k : Met S). IsMet fragments n.0 k) e n.1

      spread-skips : Skips drops fragments (rest_of top) (selection.FragmentSpread x.now ∷ rest_of new)
      spread-skips = subst (λ (z : Selection S). Skips drops fragments (rest_of top) (z ∷ rest_of new)) spread-met.0 n.2

      spread-less : turns_of fragments (selection.FragmentSpread x.now ∷ rest_of new) ≡ 2 + turns_of fragments f.now.selection_set + turns_of fragments (rest_of new)
      spread-less = turns-Spread fragments settled x.now f.now (rest_of new) spread-met.1

      spread-passes : ((only : Option Bytes) → Passes only (selection.FragmentSpread x.now ∷ rest_of new) (rest_of new)) → now ≡ task.Search new ∷ ts → Turning
      spread-passes passes p = passes-turn (selection.FragmentSpread x.now) spread-skips p passes (omega (arith, spread-less))

      pub turn-spread-out : drops (listed x.now.item.directives) ≡ true → now ≡ task.Search new ∷ ts → Turning
      turn-spread-out d = spread-passes (passes-spread-out x.now (rest_of new) f.now spread-met.1 d)

      pub turn-spread-searched : FragmentLacks drops fragments key x.now.item.name.item → now ≡ task.Search new ∷ ts → Turning
      turn-spread-searched lacks = spread-passes (passes-searched x.now (rest_of new) lacks)

      lacks-fragment : (inner : List (Selection S)) → inner ≡ f.now.selection_set → Lacking inner → FragmentLacks drops fragments key x.now.item.name.item
      lacks-fragment inner is lacks = λ g m'. subst Lacking (is ∙ ap (λ (z : Fragment S). z.selection_set) (some-same (sym spread-met.1 ∙ m'))) lacks

      pub turn-spread : (inner : Open S) (name : Bytes) → name ≡ x.now.item.name.item → drops (listed x.now.item.directives) ≡ false → inner.applies ≡ top.applies → rest_of inner ≡ f.now.selection_set
          → now ≡ task.Search inner ∷ task.Searched name ∷ task.Search new ∷ ts → Turning
      turn-spread inner name same d w is p' = let p = p' ∙ ap (λ z. task.Search inner ∷ task.Searched z ∷ task.Search new ∷ ts) same in (
        goes-into top new inner x.now.item.name.item ts now searched p a w (lacks-fragment (rest_of inner) is)
            (opens-behind (rest_of top) (selection.FragmentSpread x.now ∷ rest_of new) (rest_of inner) (rest_of new) (λ only. only) spread-skips
            (subst (λ zs. (only : Option Bytes) → Opens only only (selection.FragmentSpread x.now ∷ rest_of new) zs (rest_of new)) (sym is)
            (opens-spread x.now (rest_of new) f.now spread-met.1 d))) h,
        omega (arith, spread-skips.turns, spread-less, ap (turns_left fragments) p, ap (turns_of fragments) is),
      )

    module _ (x : Bor (Placed (InlineFragment S))) (e : m ≡ met.Inline x) where
      inline-skips : Skips drops fragments (rest_of top) (selection.InlineFragment x.now ∷ rest_of new)
      inline-skips = subst (λ (z : Selection S). Skips drops fragments (rest_of top) (z ∷ rest_of new)) (subst (λ (k : Met S). IsMet fragments n.0 k) e n.1) n.2

      pub turn-inline-out : drops (listed x.now.item.directives) ≡ true → now ≡ task.Search new ∷ ts → Turning
      turn-inline-out d p = passes-turn (selection.InlineFragment x.now) inline-skips p (passes-inline-out x.now (rest_of new) d) (omega (arith, turns-Inline fragments x.now (rest_of new)))

      pub turn-inline : (inner : Open S) → drops (listed x.now.item.directives) ≡ false → only_of inner.applies ≡ bound (only_of top.applies) (condition_of x.now.item)
          → rest_of inner ≡ x.now.item.selection_set → now ≡ task.Search inner ∷ task.Search new ∷ ts → Turning
      turn-inline inner d w is p = (
        goes-in top new inner (λ only. bound only (condition_of x.now.item)) ts now searched p a w
            (opens-behind (rest_of top) (selection.InlineFragment x.now ∷ rest_of new) (rest_of inner) (rest_of new) (λ only. bound only (condition_of x.now.item)) inline-skips
            (subst (λ zs. (only : Option Bytes) → Opens only (bound only (condition_of x.now.item)) (selection.InlineFragment x.now ∷ rest_of new) zs (rest_of new)) (sym is)
            (opens-inline x.now (rest_of new) d))) h,
        omega (arith, inline-skips.turns, turns-Inline fragments x.now (rest_of new), ap (turns_left fragments) p, ap (turns_of fragments) is),
      )

  pub turn-end : (top : Open S) (ts : List (Task S)) (searched : List Bytes) → Skips drops fragments (rest_of top) [] → Searching (task.Search top ∷ ts) searched
      → Going (task.Search top ∷ ts) ts searched × (turns_left fragments ts < turns_left fragments (task.Search top ∷ ts))
  turn-end top ts searched s h = (goes-end top ts searched s h, omega (arith, turns-some fragments (rest_of top)))

module _ {S : Type 0} (drops : Directives S → Bool) (fragments : List (Fragment S)) (key : Bytes) where
  pub lack-none : (searched : List Bytes) → searched ≡ [] → AllLack drops fragments key searched
  lack-none searched e = λ n t. absurd (true≢false (sym t ∙ ap (list_any (bytes_eq n)) e))

  -- one fragment more was searched
  pub lack-more : (searched more : List Bytes) (name : Bytes) → more ≡ insert_key bytes_eq searched name → AllLack drops fragments key searched → FragmentLacks drops fragments key name
      → AllLack drops fragments key more
  lack-more searched more name e all this = subst (AllLack drops fragments key) (sym e) (by (list_any (bytes_eq name) searched))
    where
      by : (q : Bool) → AllLack drops fragments key (cond q searched (searched ++ name ∷ []))
      by true = all
      by false = λ n t. ⊎_elim (λ before. all n before) (λ same. subst (FragmentLacks drops fragments key) (sym same) this) (last-cases n name searched t)

module _ {S : Type 0} where
  -- tasks are put before the others
  pub pushed-task : (ts more : List (Task S)) (t : Task S) → more ≡ ts ++ t ∷ [] → reverse more ≡ t ∷ reverse ts
  pushed-task ts more t e = ap reverse e ∙ reverse-append ts (t ∷ [])

  pub pushed-two : (ts m1 m2 : List (Task S)) (t1 t2 : Task S) → m1 ≡ ts ++ t1 ∷ [] → m2 ≡ m1 ++ t2 ∷ [] → reverse m2 ≡ t2 ∷ t1 ∷ reverse ts
  pushed-two ts m1 m2 t1 t2 e1 e2 = pushed-task m1 m2 t2 e2 ∙ ap (λ zs. t2 ∷ zs) (pushed-task ts m1 t1 e1)

  pub pushed-three : (ts m1 m2 m3 : List (Task S)) (t1 t2 t3 : Task S) → m1 ≡ ts ++ t1 ∷ [] → m2 ≡ m1 ++ t2 ∷ [] → m3 ≡ m2 ++ t3 ∷ [] → reverse m3 ≡ t3 ∷ t2 ∷ t1 ∷ reverse ts
  pushed-three ts m1 m2 m3 t1 t2 t3 e1 e2 e3 = pushed-task m2 m3 t3 e3 ∙ ap (λ zs. t3 ∷ zs) (pushed-two ts m1 m2 t1 t2 e1 e2)

module _ {S C : Type 0} (answer : S → ScalarAnswer) (request : Request S C) (key : Bytes) where
  abbrev left_out_by : Directives S → Bool
  left_out_by = drops_in answer request

  abbrev known : List (Fragment S)
  known = fragments_in request

  abbrev Whole : List (Selection S) → List (Task S) → Type 0
  Whole list ts = KeepsFirst left_out_by known key ((None, list) ∷ []) (lists_left ts)

  -- the list alone
  alone : (list : List (Selection S)) (cs : List (Ahead S)) → Children left_out_by known None list cs → AllHave left_out_by known ((None, list) ∷ []) cs
  alone list cs h = (cs, [], h, refl, sym (append-nil cs))

  pub found-first : (list : List (Selection S)) (ts popped now : List (Task S)) (t : Task S) (searched : List Bytes) (r : Option (LookAheadSelection S C)) (found : LookAheadSelection S C)
      → Whole list (reverse ts) → ts ≡ popped ++ t ∷ [] → r ≡ Some found → Turns answer request key (t ∷ reverse popped) now searched r → IsFirst answer request key list (Some found)
  found-first list ts popped now t searched r found leads e is turns = λ cs h.
      let f : Turns answer request key (t ∷ reverse popped) now searched (Some found) = subst (Turns answer request key (t ∷ reverse popped) now searched) is turns in
      let l = subst (Whole list) (pushed-task popped ts t e) leads cs (alone list cs h) in
      ap (λ q. Some (document_field found, q)) f.1 ∙ sym (ap (option_map (with_request request)) (l.2 ∙ f.0 l.0 l.1))

  pub goes-leads : (list : List (Selection S)) (ts popped now : List (Task S)) (t : Task S) (searched : List Bytes) (r : Option (LookAheadSelection S C))
      → Whole list (reverse ts) → ts ≡ popped ++ t ∷ [] → r ≡ None → Turns answer request key (t ∷ reverse popped) now searched r → Whole list now
  goes-leads list ts popped now t searched r leads e is turns = λ ds h.
      let f : Turns answer request key (t ∷ reverse popped) now searched None = subst (Turns answer request key (t ∷ reverse popped) now searched) is turns in
      let l = subst (Whole list) (pushed-task popped ts t e) leads ds h in
      let m = f.0.leads l.0 l.1 in
      (m.0, m.1, l.2 ∙ m.2)

  pub goes-search : (before now : List (Task S)) (searched : List Bytes) (r : Option (LookAheadSelection S C)) → r ≡ None → Turns answer request key before now searched r
      → IsSearch left_out_by known key now searched
  goes-search before now searched r is turns =
      let f : Turns answer request key before now searched None = subst (Turns answer request key before now searched) is turns in
      f.0.search

  pub none-first : (list : List (Selection S)) (ts : List (Task S)) → Whole list (reverse ts) → ts ≡ [] → IsFirst answer request key list None
  none-first list ts leads e = λ cs h.
      let l = subst (λ (zs : List (Task S)). Whole list (reverse zs)) e leads cs (alone list cs h) in
      sym (ap (option_map (with_request request)) (l.2 ∙ ap (first_child key) l.1))

  -- a list of whose children none is found lacks the key
  pub lacks-none : (list : List (Selection S)) → IsFirst answer request key list None → (cs : List (Ahead S)) → Children left_out_by known None list cs → first_child key cs ≡ None
  lacks-none list first cs h = no-first (first_child key cs) (first cs h)
    where
      no-first : (o : Option (Ahead S)) → None ≡ option_map (with_request request) o → o ≡ None
      no-first None e = refl
      no-first (Some a) e = absurd (some-none e)
        where
          some-none : {A : Type 0} {b : A} → None ≡ Some b → ⊥
          some-none q = subst IsNothing q tt

  module _ (to : Option Bytes) where
    abbrev Has2 : List (Selection S) → List (Ahead S) → Type 0
    Has2 = Children left_out_by known to

    abbrev Split : List (Selection S) → List (Selection S) → List (Ahead S) → Type 0
    Split xs ys cs = (a : List (Ahead S)) × (b : List (Ahead S)) × Has2 xs a × Has2 ys b × (cs ≡ a ++ b)

  -- the children of two lists are those of the one and those of the other one
  pub split : (to : Option Bytes) (zs xs ys : List (Selection S)) (cs : List (Ahead S)) → zs ≡ xs ++ ys → Children left_out_by known to zs cs → Split to xs ys cs
  split to zs [] ys cs e h = ([], cs, no_more to, subst (λ w. Children left_out_by known to w cs) e h, refl)
  split to _ (z ∷ xs) ys cs e (no_more o) = absurd (nil-cons z (xs ++ ys) e)
  split to _ (z ∷ xs) ys cs e (left_out o x rest ds d h) =
      let r = split to rest xs ys cs (ap (drop 1) e) h in
      (r.0, r.1, subst (λ w. Children left_out_by known to (w ∷ xs) r.0) (ap (λ l. get_or l 0 x) e) (left_out to x xs r.0 d r.2), r.3, r.4)
  split to _ (z ∷ xs) ys _ e (of_field o x rest ds d h) =
      let r = split to rest xs ys ds (ap (drop 1) e) h in
      (a_field x to ∷ r.0, r.1, subst (λ w. Children left_out_by known to (w ∷ xs) (a_field x to ∷ r.0)) (ap (λ l. get_or l 0 (selection.Field x)) e) (of_field to x xs r.0 d r.2), r.3, ap (λ l. a_field x to ∷ l) r.4)
  split to _ (z ∷ xs) ys _ e (of_spread o x f rest inner ds d m i h) =
      let r = split to rest xs ys ds (ap (drop 1) e) h in (
        inner ++ r.0,
        r.1,
        subst (λ w. Children left_out_by known to (w ∷ xs) (inner ++ r.0)) (ap (λ l. get_or l 0 (selection.FragmentSpread x)) e) (of_spread to x f xs inner r.0 d m i r.2),
        r.3,
        ap (λ l. inner ++ l) r.4 ∙ sym (append_assoc inner r.0 r.1),
      )
  split to _ (z ∷ xs) ys cs e (of_unknown o x rest ds m h) =
      let r = split to rest xs ys cs (ap (drop 1) e) h in
      (r.0, r.1, subst (λ w. Children left_out_by known to (w ∷ xs) r.0) (ap (λ l. get_or l 0 (selection.FragmentSpread x)) e) (of_unknown to x xs r.0 m r.2), r.3, r.4)
  split to _ (z ∷ xs) ys _ e (of_inline o x rest inner ds d i h) =
      let r = split to rest xs ys ds (ap (drop 1) e) h in (
        inner ++ r.0,
        r.1,
        subst (λ w. Children left_out_by known to (w ∷ xs) (inner ++ r.0)) (ap (λ l. get_or l 0 (selection.InlineFragment x)) e) (of_inline to x xs inner r.0 d i r.2),
        r.3,
        ap (λ l. inner ++ l) r.4 ∙ sym (append_assoc inner r.0 r.1),
      )

  abbrev First : List (Selection S) → Option (LookAheadSelection S C) → Type 0
  First = IsFirst answer request key

  pub first-nil : (list : List (Selection S)) → list ≡ [] → First list None
  first-nil list e = λ cs h. sym (ap (option_map (with_request request)) (ap (first_child key) (parts left_out_by known None [] cs (subst (λ w. Children left_out_by known None w cs) e h))))

  -- behind a list that lacks the key
  pub first-later : (xs ys : List (Selection S)) (r : Option (LookAheadSelection S C)) → First xs None → First ys r → First (xs ++ ys) r
  first-later xs ys r none first = λ cs h.
      let s = split None (xs ++ ys) xs ys cs refl h in
      first s.1 s.3 ∙ sym (ap (option_map (with_request request)) (ap (first_child key) s.4 ∙ first-behind key s.0 s.1 (lacks-none xs none s.0 s.2)))

  -- and before any other list
  pub first-before : (xs ys : List (Selection S)) (f : LookAheadSelection S C) → First xs (Some f) → First (xs ++ ys) (Some f)
  first-before xs ys f first = λ cs h.
      let s = split None (xs ++ ys) xs ys cs refl h in
      first s.0 s.2 ∙ sym (ap (option_map (with_request request)) (ap (first_child key) s.4 ∙ first-append key s.0 s.1 ∙ stays (first_child key s.0) (first_child key s.1) (first s.0 s.2)))
    where
      stays : (o q : Option (Ahead S)) → Some (looked_at f) ≡ option_map (with_request request) o → option_or o q ≡ o
      stays (Some a) q e = refl
      stays None q e = absurd (subst IsNothing (sym e) tt)

  -- among lists
  module _ {A : Type 0} (h : A → List (Selection S)) (xs : List A) (n : ℕ) where
    pub lists-later : (x : A) → n < length xs → x ≡ get_or xs n x → First (flat_map h (take n xs)) None → First (h x) None → First (flat_map h (take (n + 1) xs)) None
    lists-later x lt is before here = subst (λ zs. First zs None)
        (sym (ap (flat_map h) (take_more xs n x lt ∙ ap (λ z. take n xs ++ z ∷ []) (sym is)) ∙ flat_map-append h (take n xs) (x ∷ []) ∙ ap (λ zs. flat_map h (take n xs) ++ zs) (append-nil (h x))))
        (first-later (flat_map h (take n xs)) (h x) None before here)

    pub lists-found : (x : A) (f : LookAheadSelection S C) (list : List (Selection S)) → list ≡ flat_map h xs → n < length xs → x ≡ get_or xs n x → First (flat_map h (take n xs)) None
        → First (h x) (Some f) → First list (Some f)
    lists-found x f list all lt is before here = subst (λ zs. First zs (Some f))
        (sym (all ∙ ap (flat_map h) (sym (take-append-drop n xs)) ∙ flat_map-append h (take n xs) (drop n xs)
        ∙ ap (λ zs. flat_map h (take n xs) ++ flat_map h zs) (drop_more xs n x lt ∙ ap (λ y. y ∷ drop (n + 1) xs) (sym is))))
        (first-later (flat_map h (take n xs)) (h x ++ flat_map h (drop (n + 1) xs)) (Some f) before (first-before (h x) (flat_map h (drop (n + 1) xs)) f here))

    pub lists-none : (list : List (Selection S)) → list ≡ flat_map h xs → length xs ≤ n → First (flat_map h (take n xs)) None → First list None
    lists-none list all le before = subst (λ zs. First zs None) (ap (flat_map h) (take_all n xs le) ∙ sym all) before

  pub first-at : (xs ys : List (Selection S)) (r q : Option (LookAheadSelection S C)) → xs ≡ ys → r ≡ q → First xs r → First ys q
  first-at xs ys r q a b f = subst (λ z. First z q) a (subst (First xs) b f)

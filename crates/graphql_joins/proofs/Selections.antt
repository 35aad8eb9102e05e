-- Two lists of selections in one set, and each in a set of its own.
use Rattle.std.proofs.Common.{◌≡◌, refl, sym, ◌∙◌, ap, subst, Bool, List, [], ◌∷◌, ◌++◌, append-nil, append_assoc, map}
use Rattle.std.proofs.Common.{length, Option, Some, None}
use Rattle.std.specs.List.{flat_map}
use Rattle.std.proofs.lemmas.Grind.{flat_map-append}
use Rattle.std.proofs.lemmas.List.Elements.{All-nil, All-cons}
use Rattle.graphql_names.specs.Names.{Bytes}
use Rattle.graphql_schema.specs.declared.meta.MetaType.{MetaType}
use Rattle.graphql_tree.specs.declared.document.Fragment.{Fragment}
use Rattle.graphql_tree.specs.declared.selection.Selection.{Selection}
use Rattle.graphql_tree.proofs.SelectionInduction.{selection_ind}
use Rattle.graphql_written_out.specs.Trees.{Directives, Tree}
use Rattle.graphql_written_out.specs.Trees as tree
use Rattle.graphql_written_out.specs.Fields.{fields}
use Rattle.graphql_written_out.specs.Groups.{groups}
use Rattle.graphql_written_out.specs.Written.{fragment_meant, listed, written_selection, spread_as, write, written}
use Rattle.graphql_written_out.proofs.Layers.{deep, deep-Field, deep-Spread, deep-Inline, written-cons, written-nil}
use Rattle.graphql_written_out.proofs.Layers.{one-deep, fields-written}
use Rattle.graphql_merging.specs.Members.{Member, Scope, members}
use Rattle.graphql_merging.specs.Merging.{Merging}
use Rattle.graphql_merging.specs.Sets.{Set}
use Rattle.graphql_merging.specs.Chosen.{IsAbove}
use Rattle.graphql_semantics.specs.Engines.{Engine}
use Rattle.graphql_semantics.specs.Outcomes.{together}
use Rattle.graphql_semantics.specs.Evaluation.{evaluate, found_in, keyed}
use Rattle.graphql_semantics.proofs.RepeatLemmas.{adds-all}
use Rattle.graphql_semantics.proofs.RunRepeats.{evaluate-groups}
use Rattle.graphql_joins.specs.Laws.{OutcomesJoin, SelectionsJoin}
use Rattle.graphql_joins.specs.Typed.{IsTyped}
use Rattle.graphql_joins.proofs.JoinedRuns.{sets-joined}

module _ {S C : Type 0} (types : List (MetaType S C)) (fragments : List (Fragment S)) where
  members-spread : (scope : Scope S C) (directives : Directives S) (rest : Tree S) (f : Option (Fragment S))
      → members types scope (spread_as (write (length fragments) fragments) directives rest f)
      ≡ members types scope
      (spread_as (write (length fragments) fragments) directives tree.none f) ++ members types scope rest
  members-spread scope directives rest None = refl
  members-spread scope directives rest (Some f) = rw append-nil refl

  abbrev pub Adds-members : Selection S → Type 0
  Adds-members x =
      (scope : Scope S C) (rest : Tree S) → members types scope (deep fragments x rest) ≡ members types scope
      (deep fragments x tree.none) ++ members types scope rest

  pub members-deep : (x : Selection S) → Adds-members x
  members-deep = selection_ind Adds-members
      (λ x h scope rest. rw (deep-Field fragments x rest, deep-Field fragments x tree.none, append-nil) refl)
      (λ x scope rest. rw (deep-Spread fragments x rest, deep-Spread fragments x tree.none)
      (members-spread scope (listed x.item.directives) rest (fragment_meant fragments x.item.name.item)))
      (λ x h scope rest. rw (deep-Inline fragments x rest, deep-Inline fragments x tree.none, append-nil) refl)

  members-written : (scope : Scope S C) (xs : List (Selection S))
      → members types scope (written fragments xs) ≡ flat_map (λ x. members types scope (written_selection fragments x)) xs
  members-written scope [] = ap (members types scope) (written-nil fragments)
  members-written scope (x ∷ xs) =
      ap (members types scope) (written-cons fragments x xs) ∙ members-deep x scope (written fragments xs)
      ∙ (λ i. members types scope (sym (one-deep fragments x) i) ++ members-written scope xs i)

  members-both : (scope : Scope S C) (xs ys : List (Selection S))
      → members types scope (written fragments (xs ++ ys))
      ≡ members types scope (written fragments xs) ++ members types scope (written fragments ys)
  members-both scope xs ys =
      members-written scope (xs ++ ys) ∙ flat_map-append (λ x. members types scope (written_selection fragments x)) xs ys
      ∙ (λ i. sym (members-written scope xs) i ++ sym (members-written scope ys) i)

  -- ---- what is typed one behind the other is typed apart

  abbrev pub Typed : MetaType S C → Tree S → Type 0
  Typed parent = IsTyped types (Some parent)

  abbrev pub Apart : (Tree S → Tree S) → Type 0
  Apart w =
      (parent : MetaType S C) (rest other : Tree S) → Typed parent (w rest) → Typed parent rest
      × (Typed parent other → Typed parent (w other))

  typed-spread : (directives : Directives S) (f : Option (Fragment S))
      → Apart (λ rest. spread_as (write (length fragments) fragments) directives rest f)
  typed-spread directives None parent rest other h = (h, λ r. r)
  typed-spread directives (Some f) parent rest other h = (h.1, λ r. (h.0, r))

  pub typed-deep : (x : Selection S) → Apart (deep fragments x)
  typed-deep = selection_ind (λ x. Apart (deep fragments x))
      (λ x within parent rest other h.
      let t = subst (Typed parent) (deep-Field fragments x rest) h in
      (t.2, λ r. subst (Typed parent) (sym (deep-Field fragments x other)) (t.0, t.1, r)))
      (λ x parent rest other h.
      let t =
      typed-spread (listed x.item.directives) (fragment_meant fragments x.item.name.item) parent rest other
      (subst (Typed parent) (deep-Spread fragments x rest) h) in
      (t.0, λ r. subst (Typed parent) (sym (deep-Spread fragments x other)) (t.1 r)))
      (λ x within parent rest other h.
      let t = subst (Typed parent) (deep-Inline fragments x rest) h in
      (t.1, λ r. subst (Typed parent) (sym (deep-Inline fragments x other)) (t.0, r)))

  typed-both : (parent : MetaType S C) (xs ys : List (Selection S)) → Typed parent (written fragments (xs ++ ys))
      → Typed parent (written fragments xs) × Typed parent (written fragments ys)
  typed-both parent [] ys h = (subst (Typed parent) (sym (written-nil fragments)) tt, h)
  typed-both parent (x ∷ xs) ys h =
      let t =
      typed-deep x parent (written fragments (xs ++ ys)) (written fragments xs)
      (subst (Typed parent) (written-cons fragments x (xs ++ ys)) h) in
      let rest = typed-both parent xs ys t.0 in
      (subst (Typed parent) (sym (written-cons fragments x xs)) (t.1 rest.0), rest.1)

module _ {S N : Type 0} (e : Engine S N) (fragments : List (Fragment S)) where
  found-both : (object : Bytes) (xs ys : List (Selection S))
      → found_in e object (written fragments (xs ++ ys) ∷ [])
      ≡ found_in e object (written fragments xs ∷ written fragments ys ∷ [])
  found-both object xs ys =
      let d = e.drops in
      let b = e.is_below object in
      ap (λ zs. zs ++ []) (fields-written fragments d b (xs ++ ys)
      ∙ flat_map-append (λ x. fields d b (written_selection fragments x)) xs ys
      ∙ (λ i. sym (fields-written fragments d b xs) i ++ sym (fields-written fragments d b ys) i))
      ∙ append_assoc (fields d b (written fragments xs)) (fields d b (written fragments ys)) []

  same-fields : (path : List Bytes) (object : Bytes) (node : N) (ts us : List (Tree S))
      → found_in e object ts ≡ found_in e object us → evaluate e path object node ts ≡ evaluate e path object node us
  same-fields path object node ts us same =
      sym (evaluate-groups e path object node ts (found_in e object ts) (adds-all [] (found_in e object ts)))
      ∙ ap (λ fs. together (map (keyed e (evaluate e) path object node) (groups fs))) same
      ∙ evaluate-groups e path object node us (found_in e object us) (adds-all [] (found_in e object us))

pub selections-join : (S C N : Type 0) (eq : S → S → Bool) → SelectionsJoin S C N eq
selections-join S C N eq types e sound fragments first second parent path object node above typed merging =
    let scope : Scope S C = Some parent in
    let s : Set S C = record { scope = scope; tree = written fragments first } in
    let r : Set S C = record { scope = scope; tree = written fragments second } in
    let A : Set S C → Type 0 = IsAbove types (e.is_below object) in
    let M : List (Member S C) → Type 0 = λ ms. Merging eq types ms in
    let t = typed-both types fragments parent first second typed in
    subst (OutcomesJoin (evaluate e path object node (written fragments first ∷ []))
    (evaluate e path object node (written fragments second ∷ [])))
    (sym (same-fields e fragments path object node (written fragments (first ++ second) ∷ [])
    (written fragments first ∷ written fragments second ∷ []) (found-both e fragments object first second)))
    (sets-joined eq types e sound path object node (s ∷ []) (r ∷ []) (record {
      above = All-cons A s (r ∷ []) above (All-cons A r [] above (All-nil A));
      typed = (t.0, (t.1, tt));
      merging =
          subst M (members-both types fragments scope first second
          ∙ ap (λ ms. members types scope (written fragments first) ++ ms)
          (sym (append-nil (members types scope (written fragments second))))) merging;
    }))

-- What reading adds.
use Rattle.std.proofs.Common.{◌≡◌, ap, sym, subst, ◌∙◌, ℕ, ◌+◌, ◌<◌, ◌≤◌, arith, Some, Result, Ok, Err, OnOk}
use Rattle.std.proofs.Common.{List, [], ◌∷◌, ◌++◌, map, append-nil, append_assoc, length, get_or, take, slice_get}
use Rattle.std.specs.List.{flat_map}
use Rattle.std.specs.Option.{option_to_list}
use Rattle.std.proofs.lemmas.List.{length-append, length-map, length-take, map-append, take_more, take-append-le}
use Rattle.std.proofs.lemmas.List.Sums.{sum_by_push}
use Rattle.std.proofs.lemmas.Grind.{flat_map-append}
use Rattle.graphql_values.specs.InputValues.{Placed}
use Rattle.graphql_tree.specs.declared.document.Definition.{Definition}
use Rattle.graphql_tree.specs.declared.selection.Field.{Field}
use Rattle.graphql_tree.specs.declared.selection.FragmentSpread.{FragmentSpread}
use Rattle.graphql_tree.specs.declared.selection.InlineFragment.{InlineFragment}
use Rattle.graphql_tree.specs.declared.selection.Selection.{Selection}
use Rattle.graphql_tree.specs.declared.selection.Selection.TheOpen.{Selection-F}
use Rattle.graphql_tree.specs.declared.selection.Selection.TheVariants as selection
use Rattle.graphql_schema.specs.declared.meta.MetaType.{MetaType}
use Rattle.graphql_schema.specs.Declarations.{Declarations}
use Rattle.graphql_written_out.specs.Written.{listed}
use Rattle.graphql_merging.specs.Members.{Scope}
use Rattle.graphql_merging.specs.FieldNodes.{selection_nodes, set_nodes}
use Rattle.graphql_tree.specs.Definitions.{fragments_listed}
use Rattle.graphql_merging.proofs.NodeEquations.{nodes-field, nodes-inline, nodes-more}
use Rattle.graphql_merging.specs.declared.table.WrittenField.{WrittenField}
use Rattle.graphql_merging.specs.declared.table.WrittenSet.{WrittenSet}
use Rattle.graphql_set_table.specs.declared.open_set.OpenSet.{OpenSet}
use Rattle.graphql_written_out.specs.FragmentNumbers.{fragment_number}
use Rattle.graphql_set_table.specs.Numbered.{IsNumberOf, IsFieldOf, IsSetOf, DefinitionsFirst, field_at}
use Rattle.graphql_set_table.specs.Reading.{Extends, AddsItems, ReadsSet, ReadsOnce, nodes_in, set_at, sets_at}
use Rattle.graphql_set_table.specs.SetsAt.{SetAt, FieldAt, own_set, definition_set}
use Rattle.graphql_set_table.specs.SetsAt.{fields_opened, fields_selected, inner_opened, inner_of}
use Rattle.graphql_set_table.proofs.NumberLemmas.{meant-number}
use Rattle.graphql_set_table.proofs.Rows.{zip-append, zip-weaker, slice_get-left, slice_get-last}

module _ {A : Type 0} where
  pub extends-itself : (xs : List A) → Extends xs xs
  extends-itself xs = ([], sym (append-nil xs))

  pub extends-both : (xs ys zs : List A) → Extends xs ys → Extends ys zs → Extends xs zs
  extends-both xs ys zs h k = (h.0 ++ k.0, k.1 ∙ ap (λ l. l ++ k.0) h.1 ∙ append_assoc xs h.0 k.0)

  pub extends-at : (xs ys : List A) → Extends xs ys → (k : ℕ) (x : A)
      → slice_get xs k ≡ Some x → slice_get ys k ≡ Some x
  extends-at xs ys h k x e = ap (λ l. slice_get l k) h.1 ∙ slice_get-left xs h.0 k x e

module _ {A B : Type 0} (R : A → B → Type 0) where
  adds-none : (xs : List A) → AddsItems R xs xs []
  adds-none xs = ([], sym (append-nil xs), tt)

  adds-one : (xs ys : List A) (x : A) (y : B) → ys ≡ xs ++ x ∷ [] → R x y → AddsItems R xs ys (y ∷ [])
  adds-one xs ys x y e r = (x ∷ [], e, (r, tt))

  adds-both : (xs ys zs : List A) (us vs : List B) → AddsItems R xs ys us → AddsItems R ys zs vs → AddsItems R xs zs (us ++ vs)
  adds-both xs ys zs us vs h k =
      let grown = k.1 ∙ ap (λ (l : List A). l ++ k.0) h.1 ∙ append_assoc xs h.0 k.0 in
      (h.0 ++ k.0, grown, zip-append R h.0 us k.0 vs h.2 k.2)

adds-weaker : {A B : Type 0} (R Q : A → B → Type 0) → ((x : A) (y : B) → R x y → Q x y)
    → (xs ys : List A) (us : List B) → AddsItems R xs ys us → AddsItems Q xs ys us
adds-weaker R Q weaker xs ys us h = (h.0, h.1, zip-weaker R Q weaker h.0 us h.2)

module _ {S C : Type 0} (schema : Declarations S C) where
  field-later : (all more : List (SetAt S C)) → Extends all more → (w : WrittenField S C) (f : FieldAt S C)
      → IsFieldOf all schema w f → IsFieldOf more schema w f
  field-later all more h w f r = (r.0, extends-at all more h w.own (own_set schema f) r.1)

  -- what is in a set stays in it
  pub set-later : (document : List (Definition S)) (all more : List (SetAt S C)) → Extends all more
      → (w : WrittenSet S C) (set : SetAt S C) → IsSetOf all schema document w set → IsSetOf more schema document w set
  set-later document all more h w set is = record {
    fields = zip-weaker (IsFieldOf all schema) (IsFieldOf more schema) (field-later all more h) _ _ is.fields;
    inner = zip-weaker (IsNumberOf all) (IsNumberOf more) (λ n s e. extends-at all more h n s e) _ _ is.inner;
  }

  -- the definitions' sets stay first
  pub first-later : (document : List (Definition S)) (all more : List (SetAt S C)) → Extends all more
      → DefinitionsFirst schema document all → DefinitionsFirst schema document more
  first-later document all more h first =
      let sets = map (definition_set schema) document in
      let lengths : length sets ≡ length document = length-map document (definition_set schema) in
      let taken : length (take (length document) all) ≡ length sets = ap (λ xs. length xs) first in
      let enough : length document ≤ length all = omega (arith, lengths, taken, length-take (length document) all) in
      ap (take (length document)) h.1 ∙ take-append-le (length document) all h.0 enough ∙ first

  -- ---- one after the other

  pub reads-nothing : (all : List (SetAt S C)) (w : WrittenSet S C) → ReadsSet schema all all w w [] []
  reads-nothing all w = record {
    numbered = extends-itself all;
    of_fields = adds-none (IsFieldOf all schema) w.fields;
    of_inner = adds-none (IsNumberOf all) w.inner;
  }

  pub reads-both : (all mid more : List (SetAt S C)) (u v w : WrittenSet S C)
      (fs gs : List (FieldAt S C)) (ss ts : List (SetAt S C))
      → ReadsSet schema all mid u v fs ss → ReadsSet schema mid more v w gs ts
      → ReadsSet schema all more u w (fs ++ gs) (ss ++ ts)
  reads-both all mid more u v w fs gs ss ts h k = record {
    numbered = extends-both all mid more h.numbered k.numbered;
    of_fields =
        let later = field-later mid more k.numbered in
        let before =
        adds-weaker (IsFieldOf mid schema) (IsFieldOf more schema) later u.fields v.fields fs h.of_fields in
        adds-both (IsFieldOf more schema) u.fields v.fields w.fields fs gs before k.of_fields;
    of_inner =
        let later : (x : ℕ) (s : SetAt S C) → IsNumberOf mid x s → IsNumberOf more x s
        = λ x s e. extends-at mid more k.numbered x s e in
        let before = adds-weaker (IsNumberOf mid) (IsNumberOf more) later u.inner v.inner ss h.of_inner in
        adds-both (IsNumberOf more) u.inner v.inner w.inner ss ts before k.of_inner;
  }

  -- ---- one selection

  numbered-next : (ahead new : List (OpenSet S C)) (o : OpenSet S C) (set : SetAt S C) → new ≡ ahead ++ o ∷ []
      → set_at o ≡ set → sets_at new ≡ sets_at ahead ++ set ∷ []
  numbered-next ahead new o set e is =
      ap sets_at e ∙ map-append set_at ahead (o ∷ []) ∙ ap (λ s. sets_at ahead ++ s ∷ []) is

  number-next : (ahead new : List (OpenSet S C)) (o : OpenSet S C) (set : SetAt S C) (n : ℕ) → new ≡ ahead ++ o ∷ []
      → set_at o ≡ set → n ≡ length ahead → IsNumberOf (sets_at new) n set
  number-next ahead new o set n e is count =
      let place : n ≡ length (sets_at ahead) = count ∙ sym (length-map ahead set_at) in
      (λ j. slice_get (numbered-next ahead new o set e is j) (place j)) ∙ slice_get-last (sets_at ahead) set

  nodes-next : (ahead new : List (OpenSet S C)) (o : OpenSet S C) (set : SetAt S C) → new ≡ ahead ++ o ∷ []
      → set_at o ≡ set → nodes_in (sets_at new) ≡ nodes_in (sets_at ahead) + set_nodes set.selections
  unfolding nodes_in
  nodes-next ahead new o set e is =
      ap nodes_in (numbered-next ahead new o set e is)
      ∙ sum_by_push (λ (s : SetAt S C). set_nodes s.selections) (sets_at ahead) set

  pub reads-field : (ahead new : List (OpenSet S C)) (o : OpenSet S C) (parent : MetaType S C) (x : Placed (Field S))
      (old : WrittenSet S C) (w : WrittenField S C) (fields : List (WrittenField S C))
      → new ≡ ahead ++ o ∷ [] → set_at o ≡ own_set schema (record { parent = parent; field = x })
      → w.own ≡ length ahead → field_at w.selected ≡ record { parent = parent; field = x }
      → fields ≡ old.fields ++ w ∷ []
      → ReadsSet schema (sets_at ahead) (sets_at new) old (record { fields = fields; inner = old.inner })
      (record { parent = parent; field = x } ∷ []) []
  reads-field ahead new o parent x old w fields e is count same grown =
      let f : FieldAt S C = record { parent = parent; field = x } in
      record {
        numbered = (own_set schema f ∷ [], numbered-next ahead new o (own_set schema f) e is);
        of_fields =
            let own = number-next ahead new o (own_set schema f) w.own e is count in
            adds-one (IsFieldOf (sets_at new) schema) old.fields fields w f grown (same, own);
        of_inner = adds-none (IsNumberOf (sets_at new)) old.inner;
      }

  pub field-once : (ahead new : List (OpenSet S C)) (o : OpenSet S C) (parent : MetaType S C) (x : Placed (Field S))
      (old : WrittenSet S C) (w : WrittenField S C) (fields : List (WrittenField S C))
      → new ≡ ahead ++ o ∷ [] → set_at o ≡ own_set schema (record { parent = parent; field = x })
      → fields ≡ old.fields ++ w ∷ []
      → ReadsOnce (sets_at ahead) (sets_at new) old (record { fields = fields; inner = old.inner })
      (selection_nodes (selection.Field x))
  field-once ahead new o parent x old w fields e is grown =
      let one : length fields ≡ length old.fields + 1
      = ap (λ xs. length xs) grown ∙ length-append old.fields (w ∷ []) in
      let own : nodes_in (sets_at new) ≡ nodes_in (sets_at ahead) + set_nodes (listed x.item.selection_set)
      = nodes-next ahead new o (own_set schema (record { parent = parent; field = x })) e is in
      omega (arith, one, own, nodes-field x)

  pub reads-inline : (ahead new : List (OpenSet S C)) (o : OpenSet S C) (scope : Scope S C)
      (x : Placed (InlineFragment S)) (old : WrittenSet S C) (number : ℕ) (inner : List ℕ)
      → new ≡ ahead ++ o ∷ [] → set_at o ≡ record { scope = scope; selections = x.item.selection_set }
      → number ≡ length ahead → inner ≡ old.inner ++ number ∷ []
      → ReadsSet schema (sets_at ahead) (sets_at new) old (record { fields = old.fields; inner = inner })
      [] (record { scope = scope; selections = x.item.selection_set } ∷ [])
  reads-inline ahead new o scope x old number inner e is count grown =
      let set : SetAt S C = record { scope = scope; selections = x.item.selection_set } in
      record {
        numbered = (set ∷ [], numbered-next ahead new o set e is);
        of_fields = adds-none (IsFieldOf (sets_at new) schema) old.fields;
        of_inner =
            let own = number-next ahead new o set number e is count in
            adds-one (IsNumberOf (sets_at new)) old.inner inner number set grown own;
      }

  pub inline-once : (ahead new : List (OpenSet S C)) (o : OpenSet S C) (scope : Scope S C)
      (x : Placed (InlineFragment S)) (old : WrittenSet S C) (inner : List ℕ)
      → new ≡ ahead ++ o ∷ [] → set_at o ≡ record { scope = scope; selections = x.item.selection_set }
      → ReadsOnce (sets_at ahead) (sets_at new) old (record { fields = old.fields; inner = inner })
      (selection_nodes (selection.InlineFragment x))
  inline-once ahead new o scope x old inner e is =
      let set : SetAt S C = record { scope = scope; selections = x.item.selection_set } in
      let one : nodes_in (sets_at new) ≡ nodes_in (sets_at ahead) + set_nodes x.item.selection_set
      = nodes-next ahead new o set e is in
      omega (arith, one, nodes-inline x)

  module _ (document : List (Definition S)) (parent : MetaType S C) where
    pub reads-spread : (all : List (SetAt S C)) (old new : WrittenSet S C) (x : Selection S)
        (spread : Placed (FragmentSpread S)) → DefinitionsFirst schema document all
        → x ≡ selection.FragmentSpread spread → new.fields ≡ old.fields
        → new.inner ≡ old.inner ++ option_to_list (fragment_number document spread.item.name.item)
        → ReadsSet schema all all old new (fields_selected parent x) (inner_of schema (fragments_listed document) parent x)
    reads-spread all old new x spread first is same grown = record {
      numbered = extends-itself all;
      of_fields =
          let none : [] ≡ fields_selected parent x =
          sym (ap (fields_selected parent) is ∙ ap (fields_opened parent) (selection.outs-FragmentSpread spread)) in
          subst (AddsItems (IsFieldOf all schema) old.fields new.fields) none ([], same ∙ sym (append-nil old.fields), tt);
      of_inner =
          let name = spread.item.name.item in
          let meant = fragments_listed document in
          let opened = inner_opened schema meant parent (Selection-F.FragmentSpread spread) in
          let same : opened ≡ inner_of schema meant parent x
          = sym (ap (inner_of schema meant parent) is
          ∙ ap (inner_opened schema meant parent) (selection.outs-FragmentSpread spread)) in
          subst (AddsItems (IsNumberOf all) old.inner new.inner) same
          (option_to_list (fragment_number document name), grown, meant-number schema document all first name);
    }

    -- one selection more
    pub reads-more : (all mid more : List (SetAt S C)) (u v w : WrittenSet S C) (xs : List (Selection S)) (i : ℕ)
        (x : Selection S) → i < length xs → x ≡ get_or xs i x
        → ReadsSet schema all mid u v (flat_map (fields_selected parent) (take i xs))
        (flat_map (inner_of schema (fragments_listed document) parent) (take i xs))
        → ReadsSet schema mid more v w (fields_selected parent x) (inner_of schema (fragments_listed document) parent x)
        → ReadsSet schema all more u w (flat_map (fields_selected parent) (take (i + 1) xs))
        (flat_map (inner_of schema (fragments_listed document) parent) (take (i + 1) xs))
    reads-more all mid more u v w xs i x within is h k =
        let grown : take (i + 1) xs ≡ take i xs ++ x ∷ []
        = take_more xs i x within ∙ ap (λ y. take i xs ++ y ∷ []) (sym is) in
        let inner_in = inner_of schema (fragments_listed document) parent in
        let fields = one-more (fields_selected parent) (take i xs) x (take (i + 1) xs) grown in
        let inner = one-more inner_in (take i xs) x (take (i + 1) xs) grown in
        let both =
        reads-both all mid more u v w (flat_map (fields_selected parent) (take i xs)) (fields_selected parent x)
        (flat_map inner_in (take i xs)) (inner_in x) h k in
        record {
          numbered = both.numbered;
          of_fields = subst (AddsItems (IsFieldOf more schema) u.fields w.fields) fields both.of_fields;
          of_inner = subst (AddsItems (IsNumberOf more) u.inner w.inner) inner both.of_inner;
        }
      where
        one-more : {X Y : Type 0} (f : X → List Y) (xs : List X) (x : X) (more : List X) → more ≡ xs ++ x ∷ []
            → flat_map f xs ++ f x ≡ flat_map f more
        one-more f xs x more e =
            sym (ap (flat_map f) e ∙ flat_map-append f xs (x ∷ []) ∙ ap (λ ys. flat_map f xs ++ ys) (append-nil (f x)))

module _ {S C : Type 0} where
  pub spread-once : (all : List (SetAt S C)) (old new : WrittenSet S C) (n : ℕ) → new.fields ≡ old.fields
      → ReadsOnce all all old new n
  spread-once all old new n same =
      let count : length new.fields ≡ length old.fields = ap (λ xs. length xs) same in
      omega (arith, count)

  pub once-nothing : (all : List (SetAt S C)) (w : WrittenSet S C) → ReadsOnce all all w w (set_nodes {S = S} [])
  once-nothing all w = omega arith

  -- one selection more
  pub once-selection : (all mid more : List (SetAt S C)) (u v w : WrittenSet S C) (xs : List (Selection S)) (i : ℕ)
      (x : Selection S) → i < length xs → x ≡ get_or xs i x → ReadsOnce all mid u v (set_nodes (take i xs))
      → ReadsOnce mid more v w (selection_nodes x) → ReadsOnce all more u w (set_nodes (take (i + 1) xs))
  once-selection all mid more u v w xs i x within is h k =
      let grown : take (i + 1) xs ≡ take i xs ++ x ∷ []
      = take_more xs i x within ∙ ap (λ y. take i xs ++ y ∷ []) (sym is) in
      let nodes : set_nodes (take (i + 1) xs) ≡ set_nodes (take i xs) + selection_nodes x
      = ap set_nodes grown ∙ nodes-more (take i xs) x in
      omega (arith, h, k, nodes)

pub both-ok : {A E : Type 0} (P Q R : Type 0) (r : Result A E) → (P → Q → R) → OnOk r P → OnOk r Q → OnOk r R
both-ok P Q R (Ok x) f h k = f h k
both-ok P Q R (Err e) f h k = tt

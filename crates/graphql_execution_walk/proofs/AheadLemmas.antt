-- What is looked at where an executor stands.
use Rattle.std.proofs.Common.{◌≡◌, refl, sym, ◌∙◌, ap, ℕ, suc, zero, ◌+◌, ◌-◌, arith, Bool, true, false, cond, List, [], ◌∷◌, ◌++◌, length, length-append, slice_get, Option, Some, None}
use Rattle.std.specs.Borrow.{Bor}
use Rattle.std.specs.List.{Contains}
use Rattle.std.specs.Option.{option_map, option_or}
use Rattle.std.specs.Str.{bytes_eq}
use Rattle.std.proofs.lemmas.List.{get_or_push}
use Rattle.std.proofs.lemmas.List.Elements.{Contains-append_right}
use Rattle.std.proofs.lemmas.Option.{slice_get_read}
use Rattle.std.proofs.lemmas.Slice.Eq.{bytes_eq-Decides}
use Rattle.graphql_names.specs.Names.{Bytes}
use Rattle.graphql_text.specs.declared.position.SourcePosition.{SourcePosition}
use Rattle.graphql_values.specs.InputValues.{Placed}
use Rattle.graphql_tree.proofs.SelectionInduction.{selection_ind}
use Rattle.graphql_tree.specs.declared.selection.Field.{Field}
use Rattle.graphql_tree.specs.declared.selection.Selection.{Selection, out-Selection}
use Rattle.graphql_tree.specs.declared.selection.Selection.TheVariants as selection
use Rattle.graphql_written_out.specs.Written.{head_of}
use Rattle.graphql_look_ahead.specs.Children.{Ahead, Opened}
use Rattle.graphql_look_ahead.specs.Selections.{field_or_key, first_of_key, none_or, opened_of_key, selections_of}
use Rattle.graphql_look_ahead.specs.Told.{looked_at, document_field, with_request}
use Rattle.graphql_look_ahead.specs.declared.selection.LookAheadSelection.{LookAheadSelection}
use Rattle.graphql_execution_walk.proofs.KeyLemmas.{contains-at}
use Rattle.graphql_execution_walk.specs.declared.executor.Executor.{Executor}
use Rattle.graphql_execution_walk.specs.FieldPaths.{keys_layer, keys_of, own_key}
use Rattle.graphql_execution_walk.specs.declared.field_path.FieldPath.{FieldPath, fold-roll-FieldPath}
use Rattle.graphql_execution_walk.specs.declared.field_path.FieldPath.TheOpen.{FieldPath-F}
use Rattle.graphql_execution_walk.specs.declared.field_path.FieldPath.TheVariants as field_path
use Rattle.graphql_execution_walk.specs.LookedAhead.{FindsField, ahead_of, looked_ahead}

module _ {X : Type 0} where
  pub slice_get-last : (xs : List X) (x : X) → slice_get (xs ++ x ∷ []) (length (xs ++ x ∷ []) - 1) ≡ Some x
  slice_get-last xs x =
      let long : length (xs ++ x ∷ []) ≡ length xs + 1 = length-append xs (x ∷ []) in
      let before : length (xs ++ x ∷ []) - 1 ≡ length xs = omega (arith, long) in
      ap (λ n. slice_get (xs ++ x ∷ []) n) before
      ∙ slice_get_read (xs ++ x ∷ []) (length (xs ++ x ∷ [])) (length xs) x refl (omega (arith, long)) (sym (get_or_push xs x x (length xs) refl))

keys-Field : (key : Bor Bytes) (place : SourcePosition) (above : Bor FieldPath) → keys_of (field_path.Field key place above) ≡ keys_of above.now ++ key.now ∷ []
keys-Field key place above =
    ap keys_of (sym (field_path.rolls-Field key place above)) ∙ fold-roll-FieldPath (List Bytes) keys_layer (FieldPath-F.Field key place above)

pub own-Field : (path : FieldPath) (key : Bor Bytes) (place : SourcePosition) (above : Bor FieldPath) → path ≡ field_path.Field key place above
    → own_key path ≡ Some key.now
own-Field path key place above is =
    ap own_key is ∙ ap (λ (ks : List Bytes). slice_get ks (length ks - 1)) (keys-Field key place above) ∙ slice_get-last (keys_of above.now) key.now

module _ {S : Type 0} (key : Bytes) where
  -- the selection is this field, which is of the key
  abbrev IsKeyed : Selection S → Placed (Field S) → Type 0
  IsKeyed y x = (y ≡ selection.Field x) × ((head_of x).key ≡ key)

  abbrev Tells : Selection S → Type 0
  Tells y = (x : Placed (Field S)) → opened_of_key key (out-Selection S y) ≡ Some x → IsKeyed y x

  from_test : (f x : Placed (Field S)) (same : Bool) → (same ≡ true → (head_of f).key ≡ key) → cond same (Some f) None ≡ Some x → IsKeyed (selection.Field f) x
  from_test f x true is e =
      let one : f ≡ x = (let q : Some f ≡ Some x = e in cc) in
      (ap (λ z. selection.Field z) one, ap (λ (z : Placed (Field S)). (head_of z).key) (sym one) ∙ is refl)
  from_test f x false is e = (let q : None ≡ Some x = e in cc)

  tells : (y : Selection S) → Tells y
  tells = selection_ind Tells
      (λ f _ x e. from_test f x (bytes_eq (head_of f).key key) (bytes_eq-Decides (head_of f).key key).0 (ap (λ (o : Opened S). opened_of_key key o) (sym (selection.outs-Field f)) ∙ e))
      (λ f x e. (let q : None ≡ Some x = ap (λ (o : Opened S). opened_of_key key o) (sym (selection.outs-FragmentSpread f)) ∙ e in cc))
      (λ f _ x e. (let q : None ≡ Some x = ap (λ (o : Opened S). opened_of_key key o) (sym (selection.outs-InlineFragment f)) ∙ e in cc))

  told_at : (y : Selection S) (f : Placed (Field S)) → y ≡ selection.Field f → (head_of f).key ≡ key → opened_of_key key (out-Selection S y) ≡ Some f
  told_at y f is same =
      ap (λ (z : Selection S). opened_of_key key (out-Selection S z)) is
      ∙ ap (λ (o : Opened S). opened_of_key key o) (selection.outs-Field f)
      ∙ ap (λ b. cond b (Some f) None) ((bytes_eq-Decides (head_of f).key key).1 same)

  -- what is found first is of the key and stands in the list
  abbrev Finds : List (Selection S) → Type 0
  Finds xs = (x : Placed (Field S)) × (first_of_key key xs ≡ Some x) × ((head_of x).key ≡ key) × Contains xs (selection.Field x)

  finds-here : (y : Selection S) (ys : List (Selection S)) (x : Placed (Field S)) → opened_of_key key (out-Selection S y) ≡ Some x → IsKeyed y x → Finds (y ∷ ys)
  finds-here y ys x e is = (x, ap (λ o. option_or o (first_of_key key ys)) e, is.1, contains-at (y ∷ ys) 0 (selection.Field x) (ap (λ z. Some z) is.0))

  finds-behind : (y : Selection S) (ys : List (Selection S)) (o : Option (Placed (Field S))) → opened_of_key key (out-Selection S y) ≡ o → Finds ys → Finds (y ∷ ys)
  finds-behind y ys (Some x) e rest = finds-here y ys x e (tells y x e)
  finds-behind y ys None e rest =
      (rest.0, ap (λ o. option_or o (first_of_key key ys)) e ∙ rest.1, rest.2, Contains-append_right (y ∷ []) ys (selection.Field rest.0) rest.3)

  -- where a field of the key stands
  finds : (xs : List (Selection S)) (k : ℕ) (f : Placed (Field S)) → slice_get xs k ≡ Some (selection.Field f) → (head_of f).key ≡ key → Finds xs
  finds [] k f at same = (let q : None ≡ Some (selection.Field f) = at in cc)
  finds (y ∷ ys) zero f at same =
      let is : y ≡ selection.Field f = (let q : Some y ≡ Some (selection.Field f) = at in cc) in
      finds-here y ys f (told_at y f is same) (is, same)
  finds (y ∷ ys) (suc k) f at same = finds-behind y ys (opened_of_key key (out-Selection S y)) refl (finds ys k f at same)

module _ {S C Context : Type 0} (executor : Executor Context S C) where
  pub ahead-told : (key : Bytes) (s : LookAheadSelection S C) → own_key executor.path ≡ Some key → document_field s ≡ ahead_of executor key
      → s.request.now ≡ executor.request.now → option_map looked_at (Some s) ≡ looked_ahead executor
  ahead-told key s is tells of =
      (λ i. Some (tells i, of i)) ∙ ap (option_map (λ (k : Bytes). with_request executor.request.now (ahead_of executor k))) (sym is)

  pub ahead-none : own_key executor.path ≡ None → option_map looked_at None ≡ looked_ahead executor
  ahead-none is = ap (option_map (λ (k : Bytes). with_request executor.request.now (ahead_of executor k))) (sym is)

  told-of : (o : Option (LookAheadSelection S C)) → option_map document_field o ≡ option_map (λ p. p.0) (option_map looked_at o)
  told-of None = refl
  told-of (Some s) = refl

  pub ahead-found : (o : Option (LookAheadSelection S C)) → option_map looked_at o ≡ looked_ahead executor → FindsField executor o
  ahead-found o is = λ object field place.
      let key = (head_of field).key in
      let last : own_key executor.path ≡ Some key = ap (λ ks. slice_get ks (length ks - 1)) place.leads ∙ slice_get-last place.above key in
      let list = none_or executor.among in
      let at = place.stands in
      let found = finds key list at.0 field (slice_get_read list (length list) at.0 (selection.Field field) refl at.1 (sym at.2)) refl in
      record {
        first = found.0;
        is = told-of o ∙ ap (option_map (λ (p : Ahead S × _). p.0)) is
            ∙ ap (λ k. option_map (λ (p : Ahead S × _). p.0) (option_map (λ (k : Bytes). with_request executor.request.now (ahead_of executor k)) k)) last
            ∙ ap (λ x. Some (field_or_key x key (selections_of executor.selected))) found.1;
        keyed = found.2;
        stands = found.3;
      }

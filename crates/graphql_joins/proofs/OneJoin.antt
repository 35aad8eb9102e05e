-- Two values have one join at most.
use Rattle.std.proofs.Common.{◌≡◌, refl, sym, ◌∙◌, ap, subst, List, [], ◌∷◌, Option, Some, None}
use Rattle.graphql_output_values.specs.Objects.{Pair, field_value}
use Rattle.graphql_output_values.specs.declared.object.Object.{Object}
use Rattle.graphql_output_values.specs.declared.value.Value.{Value, out-Value}
use Rattle.graphql_output_values.specs.declared.value.Value.TheOpen.{Value-F}
use Rattle.graphql_output_values.specs.declared.value.Value.TheVariants as value
use Rattle.graphql_semantics.specs.Completion.{Members}
use Rattle.graphql_joins.specs.Joins.{IsJoin, null_first, null_second, same_scalar, lists, objects, ItemsJoin, no_items}
use Rattle.graphql_joins.specs.Joins.{more_items, MembersJoin, new_keys, key_of_both, key_of_first, without}
use Rattle.graphql_joins.specs.Laws.{JoinsAreOne}

abbrev Out : Type 0 → Type 0
Out S = Value-F S (Value S) (Object S)

module _ {S : Type 0} where
  -- ---- what a join is, by the first layers of both

  abbrev Level : Out S → Out S → Value S → Type 0
  Level Value-F.Null y z = z ≡ value.Null
  Level (Value-F.Scalar s) Value-F.Null z = z ≡ value.Null
  Level (Value-F.Scalar s) (Value-F.Scalar t) z = z ≡ value.Scalar s
  Level (Value-F.Scalar s) (Value-F.List ys) z = ⊥
  Level (Value-F.Scalar s) (Value-F.Object q) z = ⊥
  Level (Value-F.List xs) Value-F.Null z = z ≡ value.Null
  Level (Value-F.List xs) (Value-F.Scalar t) z = ⊥
  Level (Value-F.List xs) (Value-F.List ys) z = (zs : List (Value S)) × ItemsJoin xs ys zs × (z ≡ value.List zs)
  Level (Value-F.List xs) (Value-F.Object q) z = ⊥
  Level (Value-F.Object p) Value-F.Null z = z ≡ value.Null
  Level (Value-F.Object p) (Value-F.Scalar t) z = ⊥
  Level (Value-F.Object p) (Value-F.List ys) z = ⊥
  Level (Value-F.Object p) (Value-F.Object q) z =
      (zs : Members S) × MembersJoin p.fields q.fields zs × (z ≡ value.Object (record { fields = zs }))

  null-level : (x : Out S) → Level x Value-F.Null value.Null
  null-level Value-F.Null = refl
  null-level (Value-F.Scalar s) = refl
  null-level (Value-F.List xs) = refl
  null-level (Value-F.Object p) = refl

  is-null : (x : Out S) (z : Value S) → Level x Value-F.Null z → z ≡ value.Null
  is-null Value-F.Null z h = h
  is-null (Value-F.Scalar s) z h = h
  is-null (Value-F.List xs) z h = h
  is-null (Value-F.Object p) z h = h

  at : (x y : Value S) (l m : Out S) (z : Value S) → out-Value S x ≡ l → out-Value S y ≡ m → Level l m z
      → Level (out-Value S x) (out-Value S y) z
  at x y l m z e f h = subst (λ k. Level k (out-Value S y) z) (sym e) (subst (λ k. Level l k z) (sym f) h)

  from : (x y : Value S) (l m : Out S) (z : Value S) → out-Value S x ≡ l → out-Value S y ≡ m
      → Level (out-Value S x) (out-Value S y) z → Level l m z
  from x y l m z e f h = subst (λ k. Level l k z) f (subst (λ k. Level k (out-Value S y) z) e h)

  level-of : (x y z : Value S) → IsJoin x y z → Level (out-Value S x) (out-Value S y) z
  level-of _ _ _ (null_first y) = at value.Null y Value-F.Null (out-Value S y) value.Null value.outs-Null refl refl
  level-of _ _ _ (null_second x) =
      at x value.Null (out-Value S x) Value-F.Null value.Null refl value.outs-Null (null-level (out-Value S x))
  level-of _ _ _ (same_scalar s) =
      at (value.Scalar s) (value.Scalar s) (Value-F.Scalar s) (Value-F.Scalar s) (value.Scalar s) (value.outs-Scalar s)
      (value.outs-Scalar s) refl
  level-of _ _ _ (lists xs ys zs h) =
      at (value.List xs) (value.List ys) (Value-F.List xs) (Value-F.List ys) (value.List zs) (value.outs-List xs)
      (value.outs-List ys) (zs, h, refl)
  level-of _ _ _ (objects xs ys zs h) =
      at (value.Object (record { fields = xs })) (value.Object (record { fields = ys }))
      (Value-F.Object (record { fields = xs })) (Value-F.Object (record { fields = ys }))
      (value.Object (record { fields = zs }))
      (value.outs-Object (record { fields = xs })) (value.outs-Object (record { fields = ys })) (zs, h, refl)

  abbrev ItemsLevel : List (Value S) → List (Value S) → List (Value S) → Type 0
  ItemsLevel [] [] zs = zs ≡ []
  ItemsLevel [] (y ∷ ys) zs = ⊥
  ItemsLevel (x ∷ xs) [] zs = ⊥
  ItemsLevel (x ∷ xs) (y ∷ ys) zs =
      (z : Value S) × (us : List (Value S)) × IsJoin x y z × ItemsJoin xs ys us × (zs ≡ z ∷ us)

  items-level : (xs ys zs : List (Value S)) → ItemsJoin xs ys zs → ItemsLevel xs ys zs
  items-level _ _ _ no_items = refl
  items-level _ _ _ (more_items x y z xs ys zs j rest) = (z, zs, j, rest, refl)

  abbrev KeyLevel : Option (Value S) → Pair (Value S) → Members S → Members S → Members S → Type 0
  KeyLevel None p xs ys zs = (us : Members S) × MembersJoin xs ys us × (zs ≡ p ∷ us)
  KeyLevel (Some y) p xs ys zs =
      (z : Value S) × (us : Members S) × IsJoin p.1 y z × MembersJoin xs (without p.0 ys) us × (zs ≡ (p.0, z) ∷ us)

  abbrev MembersLevel : Members S → Members S → Members S → Type 0
  MembersLevel [] ys zs = zs ≡ ys
  MembersLevel (p ∷ xs) ys zs = KeyLevel (field_value ys p.0) p xs ys zs

  members-level : (xs ys zs : Members S) → MembersJoin xs ys zs → MembersLevel xs ys zs
  members-level _ _ _ (new_keys ys) = refl
  members-level _ _ _ (key_of_both key x y z xs ys zs e j rest) =
      subst (λ o. KeyLevel o (key, x) xs ys ((key, z) ∷ zs)) (sym e) (z, zs, j, rest, refl)
  members-level _ _ _ (key_of_first key x xs ys zs e rest) =
      subst (λ o. KeyLevel o (key, x) xs ys ((key, x) ∷ zs)) (sym e) (zs, rest, refl)

  -- ---- so it is one

  mutual
    pub one-join : (x y z w : Value S) → IsJoin x y z → IsJoin x y w → z ≡ w
    one-join _ _ _ w (null_first y) k =
        sym (from value.Null y Value-F.Null (out-Value S y) w value.outs-Null refl (level-of value.Null y w k))
    one-join _ _ _ w (null_second x) k =
        sym (is-null (out-Value S x) w
        (from x value.Null (out-Value S x) Value-F.Null w refl value.outs-Null (level-of x value.Null w k)))
    one-join _ _ _ w (same_scalar s) k =
        sym (from (value.Scalar s) (value.Scalar s) (Value-F.Scalar s) (Value-F.Scalar s) w (value.outs-Scalar s)
        (value.outs-Scalar s) (level-of (value.Scalar s) (value.Scalar s) w k))
    one-join _ _ _ w (lists xs ys zs h) k =
        let l =
        from (value.List xs) (value.List ys) (Value-F.List xs) (Value-F.List ys) w (value.outs-List xs)
        (value.outs-List ys) (level-of (value.List xs) (value.List ys) w k) in
        ap value.List (one-items xs ys zs l.0 h l.1) ∙ sym l.2
    one-join _ _ _ w (objects xs ys zs h) k =
        let p : Object S = record { fields = xs } in
        let q : Object S = record { fields = ys } in
        let l =
        from (value.Object p) (value.Object q) (Value-F.Object p) (Value-F.Object q) w (value.outs-Object p)
        (value.outs-Object q) (level-of (value.Object p) (value.Object q) w k) in
        ap (λ (fs : Members S). value.Object (record { fields = fs })) (one-members xs ys zs l.0 h l.1) ∙ sym l.2

    one-items : (xs ys zs ws : List (Value S)) → ItemsJoin xs ys zs → ItemsJoin xs ys ws → zs ≡ ws
    one-items _ _ _ ws no_items k = sym (items-level [] [] ws k)
    one-items _ _ _ ws (more_items x y z xs ys zs j rest) k =
        let l = items-level (x ∷ xs) (y ∷ ys) ws k in
        (λ i. one-join x y z l.0 j l.2 i ∷ one-items xs ys zs l.1 rest l.3 i) ∙ sym l.4

    one-members : (xs ys zs ws : Members S) → MembersJoin xs ys zs → MembersJoin xs ys ws → zs ≡ ws
    one-members _ _ _ ws (new_keys ys) k = sym (members-level [] ys ws k)
    one-members _ _ _ ws (key_of_both key x y z xs ys zs e j rest) k =
        let l = subst (λ o. KeyLevel o (key, x) xs ys ws) e (members-level ((key, x) ∷ xs) ys ws k) in
        (λ i. (key, one-join x y z l.0 j l.2 i) ∷ one-members xs (without key ys) zs l.1 rest l.3 i) ∙ sym l.4
    one-members _ _ _ ws (key_of_first key x xs ys zs e rest) k =
        let l = subst (λ o. KeyLevel o (key, x) xs ys ws) e (members-level ((key, x) ∷ xs) ys ws k) in
        (λ i. (key, x) ∷ one-members xs ys zs l.0 rest l.1 i) ∙ sym l.2

pub joins-are-one : (S : Type 0) → JoinsAreOne S
joins-are-one S x y z w j k = one-join x y z w j k

-- The steps of a join: what is joined so far, and what differs where one part differs.
use Rattle.std.proofs.Common.{◌≡◌, ◌<◌, ◌≤◌, ◌+◌, ℕ, Bool, true, false, not, is_some, cond, List, [], ◌∷◌, ◌++◌, append-nil, append_assoc, get_or, length, take, Option, Some, None, Result, Err, ap, sym, subst, refl, ◌∙◌, add-one}
use Rattle.std.specs.Prelude.{IfSome, IsErrAnd, slice_get}
use Rattle.std.specs.List.{All, Contains, sum_by}
use Rattle.std.specs.Map.{keys_of, values_of}
use Rattle.std.specs.Cmp.Lexicographic.{nat_list_eq_equiv}
use Rattle.std.proofs.Math.Seq.{take-suc}
use Rattle.std.proofs.lemmas.List.{map-append, take_all}
use Rattle.std.proofs.lemmas.List.Elements.{All-push, Contains-get_or, filter-append}
use Rattle.std.proofs.lemmas.List.Sums.{get_or-le-sum_by}
use Rattle.std.proofs.lemmas.Map.Views.{lookup-from_Contains}
use Rattle.std.proofs.lemmas.Option.{slice_get-get_or}
use Rattle.std.proofs.lemmas.Result.{err_from_is_err_and}
use Rattle.graphql_names.specs.Names.{Bytes}
use Rattle.graphql_output_values.specs.DistinctKeys.{HasDistinctKeysThroughout, ObjectHasDistinctKeysThroughout}
use Rattle.graphql_output_values.specs.EqualityEquations.{out_scalar, out_list, out_object}
use Rattle.graphql_output_values.specs.Objects.{Pair, HasDistinctKeys, field_value}
use Rattle.graphql_output_values.specs.ValueInduction.{value_ind}
use Rattle.graphql_output_values.specs.declared.object.Object.{Object}
use Rattle.graphql_output_values.specs.declared.value.Value.{Value, out-Value}
use Rattle.graphql_output_values.specs.declared.value.Value.TheOpen.{Value-F}
use Rattle.graphql_output_values.specs.declared.value.Value.TheVariants as value
use Rattle.graphql_output_values.specs.Counts.{value_count}
use Rattle.graphql_output_values.proofs.CountEquations.{count-list, count-object, field_count}
use Rattle.graphql_output_values.proofs.DistinctKeyLaws.{by_forms, under_keys}
use Rattle.graphql_joins.specs.Joins.{IsJoin, ItemsJoin, MembersJoin, lists, null_first, null_second, objects, same_scalar}
use Rattle.graphql_joined_data.specs.Differences.{Apart, DifferAt, here, in_items, under_key}
use Rattle.graphql_joined_data.specs.Joining.{FieldJoinsOrDiffers, HaveNoJoin, JoinsOrDiffers, JoinsWith, new_fields}
use Rattle.graphql_joined_data.specs.declared.join_fault.JoinFault.{JoinFault}
use Rattle.graphql_joined_data.specs.declared.join_fault.JoinFault.TheVariants as fault
use Rattle.graphql_joined_data.proofs.Differing.{differing}
use Rattle.graphql_joined_data.proofs.JoinedFields.{EachJoined, Members, distinct-joined, members-joined, one-more, one-more-item, under-keys, values-joined}

module _ {A : Type 0} where
  pub take-more : (xs : List A) (i : ℕ) (x : A) → i < length xs → x ≡ get_or xs i x → take (i + 1) xs ≡ take i xs ++ x ∷ []
  take-more xs i x h e = ap (λ n. take n xs) (add-one i) ∙ take-suc xs i x h ∙ ap (λ y. take i xs ++ y ∷ []) (sym e)

  pub get-at : (xs : List A) (i : ℕ) (x : A) → i < length xs → x ≡ get_or xs i x → slice_get xs i ≡ Some x
  get-at xs i x h e = slice_get-get_or xs i x h ∙ ap Some (sym e)

module _ {A : Type 0} where
  -- the fields that are new among one more
  pub new-more : (others fields : List (Pair A)) (i : ℕ) (field : Pair A) (old new : List (Pair A)) (b : Bool) → i < length fields
      → field ≡ get_or fields i field → is_some (field_value others field.0) ≡ b → new ≡ cond b old (old ++ field ∷ [])
      → (done : List (Pair A)) → old ≡ done ++ new_fields others (take i fields) → new ≡ done ++ new_fields others (take (i + 1) fields)
  new-more others fields i field old new b h e there is done so_far =
      let isnt = λ (f : Pair A). not (is_some (field_value others f.0)) in
      is ∙ by_test b ∙ ap (λ ws. done ++ ws) (ap (λ ws. new_fields others (take i fields) ++ ws) (alone b there)
      ∙ sym (filter-append isnt (take i fields) (field ∷ [])) ∙ ap (new_fields others) (sym (take-more fields i field h e)))
    where
      by_test : (q : Bool) → cond q old (old ++ field ∷ []) ≡ done ++ (new_fields others (take i fields) ++ cond q [] (field ∷ []))
      by_test true = so_far ∙ ap (λ ws. done ++ ws) (sym (append-nil (new_fields others (take i fields))))
      by_test false = ap (λ ws. ws ++ field ∷ []) so_far ∙ append_assoc done (new_fields others (take i fields)) (field ∷ [])

      alone : (q : Bool) → is_some (field_value others field.0) ≡ q → cond q [] (field ∷ []) ≡ new_fields others (field ∷ [])
      alone true t = ap (λ p. cond (not p) (field ∷ []) []) (sym t)
      alone false t = ap (λ p. cond (not p) (field ∷ []) []) (sym t)

module _ {S : Type 0} where
  pub null-joins-first : (x y : Value S) → x ≡ value.Null → IsJoin x y value.Null
  null-joins-first x y e = subst (λ v. IsJoin v y value.Null) (sym e) (null_first y)

  pub null-joins-second : (x y : Value S) → y ≡ value.Null → IsJoin x y value.Null
  null-joins-second x y e = subst (λ v. IsJoin x v value.Null) (sym e) (null_second x)

  pub scalars-join : (s t u : S) → u ≡ s → s ≡ t → IsJoin (value.Scalar s) (value.Scalar t) (value.Scalar u)
  scalars-join s t u e f =
      subst (λ v. IsJoin (value.Scalar s) (value.Scalar t) (value.Scalar v)) (sym e)
      (subst (λ v. IsJoin (value.Scalar s) (value.Scalar v) (value.Scalar s)) f (same_scalar s))

  pub objects-join : (o p q : Object S) → MembersJoin o.fields p.fields q.fields → IsJoin (value.Object o) (value.Object p) (value.Object q)
  objects-join o p q h = objects o.fields p.fields q.fields h

  -- ---- distinct keys

  pub distinct-items : (v : Value S) (xs : List (Value S)) → v ≡ value.List xs → HasDistinctKeysThroughout v → All HasDistinctKeysThroughout xs
  distinct-items v xs e d = ((by_forms {S = S}).2 xs).0 (subst HasDistinctKeysThroughout e d)

  pub distinct-list : (xs : List (Value S)) → All HasDistinctKeysThroughout xs → HasDistinctKeysThroughout (value.List xs)
  distinct-list xs all = ((by_forms {S = S}).2 xs).1 all

  pub distinct-object : (o : Object S) (fields : Members S) → o.fields ≡ fields → HasDistinctKeys fields
      → All HasDistinctKeysThroughout (values_of fields) → HasDistinctKeysThroughout (value.Object o)
  distinct-object o fields e d all =
      ((by_forms {S = S}).3 o).1 (subst HasDistinctKeys (sym e) d, subst (λ fs. All HasDistinctKeysThroughout (values_of fs)) (sym e) all)

  pub distinct-at : (xs : List (Value S)) (i : ℕ) (x : Value S) → i < length xs → x ≡ get_or xs i x → All HasDistinctKeysThroughout xs
      → HasDistinctKeysThroughout x
  distinct-at xs i x h e all = subst HasDistinctKeysThroughout (sym e) (all i x h)

  pub distinct-under : (fields : Members S) (i : ℕ) (field : Pair (Value S)) → i < length fields → field ≡ get_or fields i field
      → All HasDistinctKeysThroughout (values_of fields) → HasDistinctKeysThroughout field.1
  distinct-under fields i field h e all = subst (λ (p : Pair (Value S)). HasDistinctKeysThroughout p.1) (sym e) (under-keys fields all i field h)

  pub distinct-found : (o : Object S) (key : Bytes) (found : Option (Value S)) → found ≡ field_value o.fields key
      → ObjectHasDistinctKeysThroughout o → IfSome found HasDistinctKeysThroughout
  distinct-found o key found e d = subst (λ p. IfSome p HasDistinctKeysThroughout) (sym e) (under_keys o key d)

  pub distinct-fields : (v : Value S) (o : Object S) → v ≡ value.Object o → HasDistinctKeysThroughout v → ObjectHasDistinctKeysThroughout o
  distinct-fields v o e d = ((by_forms {S = S}).3 o).0 (subst HasDistinctKeysThroughout e d)

  -- the field at a place is the one of its key
  pub field-at : (fields : Members S) (i : ℕ) (field : Pair (Value S)) → i < length fields → field ≡ get_or fields i field → HasDistinctKeys fields
      → field_value fields field.0 ≡ Some field.1
  field-at fields i field h e distinct =
      lookup-from_Contains nat_list_eq_equiv field.0 field.1 fields distinct (subst (Contains fields) (sym e) (Contains-get_or fields i field h))

  -- ---- what is joined so far, and one more

  pub items-more : (xs ys zs new : List (Value S)) (i : ℕ) (x y z : Value S) → i < length xs → i < length ys
      → x ≡ get_or xs i x → y ≡ get_or ys i y → new ≡ zs ++ z ∷ [] → ItemsJoin (take i xs) (take i ys) zs → IsJoin x y z
      → ItemsJoin (take (i + 1) xs) (take (i + 1) ys) new
  items-more xs ys zs new i x y z hx hy ex ey n so_far j =
      subst (λ us. ItemsJoin us (take (i + 1) ys) new) (sym (take-more xs i x hx ex))
      (subst (λ us. ItemsJoin (take i xs ++ x ∷ []) us new) (sym (take-more ys i y hy ey))
      (subst (ItemsJoin (take i xs ++ x ∷ []) (take i ys ++ y ∷ [])) (sym n) (one-more-item (take i xs) (take i ys) zs x y z so_far j)))

  pub more-distinct : (zs new : List (Value S)) (z : Value S) → new ≡ zs ++ z ∷ [] → All HasDistinctKeysThroughout zs → HasDistinctKeysThroughout z
      → All HasDistinctKeysThroughout new
  more-distinct zs new z n all d = subst (All HasDistinctKeysThroughout) (sym n) (All-push HasDistinctKeysThroughout zs z all d)

  pub each-more : (ys items zs new : Members S) (i : ℕ) (field it : Pair (Value S)) (other : Option (Value S)) → i < length items
      → field ≡ get_or items i field → new ≡ zs ++ it ∷ [] → other ≡ field_value ys field.0 → EachJoined ys (take i items) zs
      → it.0 ≡ field.0 → JoinsWith field.1 other it.1 → EachJoined ys (take (i + 1) items) new
  each-more ys items zs new i field it other h e n o each k j =
      subst (λ xs. EachJoined ys xs new) (sym (take-more items i field h e))
      (subst (EachJoined ys (take i items ++ field ∷ [])) (sym n)
      (one-more ys (take i items) zs field it each k (subst (λ p. JoinsWith field.1 p it.1) o j)))

  pub keys-more : (items zs new : Members S) (i : ℕ) (field it : Pair (Value S)) → i < length items → field ≡ get_or items i field
      → new ≡ zs ++ it ∷ [] → it.0 ≡ field.0 → keys_of zs ≡ keys_of (take i items) → keys_of new ≡ keys_of (take (i + 1) items)
  keys-more items zs new i field it h e n k so_far =
      ap keys_of n ∙ map-append (λ (p : Pair (Value S)). p.0) zs (it ∷ []) ∙ (λ j. so_far j ++ k j ∷ [])
      ∙ sym (map-append (λ (p : Pair (Value S)). p.0) (take i items) (field ∷ [])) ∙ ap keys_of (sym (take-more items i field h e))

  pub values-more : (zs new : Members S) (it : Pair (Value S)) → new ≡ zs ++ it ∷ [] → All HasDistinctKeysThroughout (values_of zs)
      → HasDistinctKeysThroughout it.1 → All HasDistinctKeysThroughout (values_of new)
  values-more zs new it n all d =
      more-distinct (values_of zs) (values_of new) it.1 (ap values_of n ∙ map-append (λ (p : Pair (Value S)). p.1) zs (it ∷ [])) all d

  -- ---- the join of all

  pub made-list : (xs ys zs : List (Value S)) (i : ℕ) → length xs ≤ i → length ys ≤ i → ItemsJoin (take i xs) (take i ys) zs
      → IsJoin (value.List xs) (value.List ys) (value.List zs)
  made-list xs ys zs i hx hy so_far =
      lists xs ys zs (subst (λ us. ItemsJoin us ys zs) (take_all i xs hx) (subst (λ us. ItemsJoin (take i xs) us zs) (take_all i ys hy) so_far))

  pub made-keys : (xs items ys zs new : Members S) (i : ℕ) → items ≡ xs → length items ≤ i → HasDistinctKeys xs → HasDistinctKeys ys
      → keys_of zs ≡ keys_of (take i items) → new ≡ zs ++ new_fields xs ys → HasDistinctKeys new
  made-keys xs items ys zs new i is h d e k n =
      subst HasDistinctKeys (sym n) (distinct-joined xs ys zs d e (k ∙ ap keys_of (take_all i items h ∙ is)))

  pub made-object : (o p q : Object S) (items zs new : Members S) (i : ℕ) → items ≡ o.fields → length items ≤ i → HasDistinctKeys o.fields
      → EachJoined p.fields (take i items) zs → new ≡ zs ++ new_fields o.fields p.fields → q.fields ≡ new
      → IsJoin (value.Object o) (value.Object p) (value.Object q)
  made-object o p q items zs new i is h d each n f =
      objects-join o p q (subst (MembersJoin o.fields p.fields) (sym (f ∙ n))
      (members-joined o.fields p.fields zs d (subst (λ xs. EachJoined p.fields xs zs) (take_all i items h ∙ is) each)))

  pub made-distinct : (o p q : Object S) (zs new : Members S) → All HasDistinctKeysThroughout (values_of p.fields)
      → All HasDistinctKeysThroughout (values_of zs) → HasDistinctKeys new → new ≡ zs ++ new_fields o.fields p.fields → q.fields ≡ new
      → HasDistinctKeysThroughout (value.Object q)
  made-distinct o p q zs new theirs ours d n f =
      distinct-object q new f d
      (subst (λ fs. All HasDistinctKeysThroughout (values_of fs)) (sym n) (values-joined o.fields p.fields zs theirs ours))

  module _ (same : S → S → Bool) (reflexive : (s : S) → same s s ≡ true) where
    abbrev pub Differ : List Bytes → Value S → Value S → Type 0
    Differ path x y = DifferAt same path x y × HaveNoJoin x y

    differ : (path : List Bytes) (x y : Value S) → DifferAt same path x y → Differ path x y
    differ path x y d = (d, differing same reflexive path x y d)

    differ-here : (path : List Bytes) (x y : Value S) → path ≡ [] → Apart same (out-Value S x) (out-Value S y) → Differ path x y
    differ-here path x y e h = differ path x y (subst (λ p. DifferAt same p x y) (sym e) (here x y h))

    first-at : (x y : Value S) (l : Value-F S (Value S) (Object S)) → out-Value S x ≡ l → Apart same l (out-Value S y)
        → Apart same (out-Value S x) (out-Value S y)
    first-at x y l e h = subst (λ k. Apart same k (out-Value S y)) (sym e) h

    -- values of two kinds
    pub no-scalar : (path : List Bytes) (x y : Value S) (s : S) → path ≡ [] → x ≡ value.Scalar s → (y ≡ value.Null → ⊥)
        → ((t : S) → y ≡ value.Scalar t → ⊥) → Differ path x y
    no-scalar path x y s e is not_null not_one =
        differ-here path x y e (first-at x y (Value-F.Scalar s) (ap (out-Value S) is ∙ out_scalar s) (value_ind
        (λ w. (w ≡ value.Null → ⊥) → ((t : S) → w ≡ value.Scalar t → ⊥) → Apart same (Value-F.Scalar s) (out-Value S w))
        (λ n h. absurd (n refl)) (λ t n h. absurd (h t refl))
        (λ ys all n h. subst (Apart same (Value-F.Scalar s)) (sym (out_list ys)) tt)
        (λ q all n h. subst (Apart same (Value-F.Scalar s)) (sym (out_object q)) tt) y not_null not_one))

    pub no-list : (path : List Bytes) (x y : Value S) (xs : List (Value S)) → path ≡ [] → x ≡ value.List xs → (y ≡ value.Null → ⊥)
        → ((ys : List (Value S)) → y ≡ value.List ys → ⊥) → Differ path x y
    no-list path x y xs e is not_null not_one =
        differ-here path x y e (first-at x y (Value-F.List xs) (ap (out-Value S) is ∙ out_list xs) (value_ind
        (λ w. (w ≡ value.Null → ⊥) → ((ys : List (Value S)) → w ≡ value.List ys → ⊥) → Apart same (Value-F.List xs) (out-Value S w))
        (λ n h. absurd (n refl)) (λ t n h. subst (Apart same (Value-F.List xs)) (sym (out_scalar t)) tt)
        (λ ys all n h. absurd (h ys refl))
        (λ q all n h. subst (Apart same (Value-F.List xs)) (sym (out_object q)) tt) y not_null not_one))

    pub no-object : (path : List Bytes) (x y : Value S) (o : Object S) → path ≡ [] → x ≡ value.Object o → (y ≡ value.Null → ⊥)
        → ((q : Object S) → y ≡ value.Object q → ⊥) → Differ path x y
    no-object path x y o e is not_null not_one =
        differ-here path x y e (first-at x y (Value-F.Object o) (ap (out-Value S) is ∙ out_object o) (value_ind
        (λ w. (w ≡ value.Null → ⊥) → ((q : Object S) → w ≡ value.Object q → ⊥) → Apart same (Value-F.Object o) (out-Value S w))
        (λ n h. absurd (n refl)) (λ t n h. subst (Apart same (Value-F.Object o)) (sym (out_scalar t)) tt)
        (λ ys all n h. subst (Apart same (Value-F.Object o)) (sym (out_list ys)) tt)
        (λ q all n h. absurd (h q refl)) y not_null not_one))

    -- two of one kind
    pub scalars-differ : (path : List Bytes) (s t : S) → path ≡ [] → same s t ≡ false → Differ path (value.Scalar s) (value.Scalar t)
    scalars-differ path s t e h =
        differ-here path (value.Scalar s) (value.Scalar t) e (first-at (value.Scalar s) (value.Scalar t) (Value-F.Scalar s) (out_scalar s)
        (subst (Apart same (Value-F.Scalar s)) (sym (out_scalar t)) h))

    pub lengths-differ : (path : List Bytes) (xs ys : List (Value S)) → path ≡ [] → (length xs ≡ length ys → ⊥)
        → Differ path (value.List xs) (value.List ys)
    lengths-differ path xs ys e h =
        differ-here path (value.List xs) (value.List ys) e (first-at (value.List xs) (value.List ys) (Value-F.List xs) (out_list xs)
        (subst (Apart same (Value-F.List xs)) (sym (out_list ys)) h))

    -- a fault that is handed on
    items-fault : (why : JoinFault) (xs ys : List (Value S)) (place : ℕ) (x y : Value S) → slice_get xs place ≡ Some x
        → slice_get ys place ≡ Some y → JoinsOrDiffers same x y (Err why) → JoinsOrDiffers same (value.List xs) (value.List ys) (Err why)
    items-fault (fault.Disagree path) xs ys place x y e f d =
        differ path (value.List xs) (value.List ys) (in_items path xs ys place x y e f d.0)
    items-fault fault.Memory xs ys place x y e f d = tt

    pub items-differ : (r : Result (Value S) JoinFault) (why : JoinFault) → IsErrAnd r (λ e. e ≡ why) → (xs ys : List (Value S)) (place : ℕ)
        (x y : Value S) → slice_get xs place ≡ Some x → slice_get ys place ≡ Some y → JoinsOrDiffers same x y (Err why)
        → JoinsOrDiffers same (value.List xs) (value.List ys) r
    items-differ r why h xs ys place x y e f d =
        let told = err_from_is_err_and r h in
        subst (JoinsOrDiffers same (value.List xs) (value.List ys)) (sym (told.1 ∙ ap Err told.2)) (items-fault why xs ys place x y e f d)

    fields-fault : (why : JoinFault) (o p : Object S) (key : Bytes) (x : Value S) (found other : Option (Value S))
        → field_value o.fields key ≡ Some x → found ≡ field_value p.fields key → other ≡ found → FieldJoinsOrDiffers same key x other (Err why)
        → JoinsOrDiffers same (value.Object o) (value.Object p) (Err why)
    fields-fault (fault.Disagree path) o p key x found None e f k d = absurd d
    fields-fault (fault.Disagree path) o p key x found (Some y) e f k d =
        differ path (value.Object o) (value.Object p) (subst (λ q. DifferAt same q (value.Object o) (value.Object p)) (sym d.1)
        (under_key d.0 key o.fields p.fields x y e (sym f ∙ sym k) d.2))
    fields-fault fault.Memory o p key x found None e f k d = tt
    fields-fault fault.Memory o p key x found (Some y) e f k d = tt

    pub fields-differ : (r : Result (Value S) JoinFault) (why : JoinFault) → IsErrAnd r (λ e. e ≡ why) → (o p : Object S) (key : Bytes)
        (x : Value S) (other : Option (Value S)) → field_value o.fields key ≡ Some x → other ≡ field_value p.fields key
        → FieldJoinsOrDiffers same key x other (Err why) → JoinsOrDiffers same (value.Object o) (value.Object p) r
    fields-differ r why h o p key x other e f d =
        let told = err_from_is_err_and r h in
        subst (JoinsOrDiffers same (value.Object o) (value.Object p)) (sym (told.1 ∙ ap Err told.2)) (fields-fault why o p key x other other e f refl d)

-- ---- how much a join takes: what is joined stands in what is left

module _ {S : Type 0} where
  pub count-of-list : (v : Value S) (items : List (Value S)) → v ≡ value.List items → value_count v ≡ 1 + sum_by value_count items
  count-of-list v items e = ap value_count e ∙ count-list items

  pub count-of-object : (v : Value S) (o : Object S) → v ≡ value.Object o → value_count v ≡ 1 + sum_by field_count o.fields
  count-of-object v o e = ap value_count e ∙ count-object o

  pub item-within : (xs : List (Value S)) (i : ℕ) (x : Value S) → i < length xs → x ≡ get_or xs i x → value_count x ≤ sum_by value_count xs
  item-within xs i x h e = subst (λ n. n ≤ sum_by value_count xs) (ap value_count (sym e)) (get_or-le-sum_by value_count xs i x h)

  pub field-within : (fields items : Members S) (i : ℕ) (field : Pair (Value S)) → items ≡ fields → i < length items
      → field ≡ get_or items i field → value_count field.1 ≤ sum_by field_count fields
  field-within fields items i field is h e =
      subst (λ fs. value_count field.1 ≤ sum_by field_count fs) is
      (subst (λ n. n ≤ sum_by field_count items) (ap field_count (sym e)) (get_or-le-sum_by field_count items i field h))

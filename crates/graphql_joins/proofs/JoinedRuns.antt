-- Sets that merge give together the join of what they give apart.
use Rattle.std.proofs.Common.{◌≡◌, refl, sym, ◌∙◌, ap, subst, arith, ℕ, zero, suc, ◌≤◌, Bool, true, false, List, []}
use Rattle.std.proofs.Common.{◌∷◌, ◌++◌, append-nil, map, Option, Some, None, Result, cond, reverse}
use Rattle.std.specs.List.{Contains, filter}
use Rattle.std.specs.Str.{bytes_eq}
use Rattle.std.proofs.lemmas.List.{map-append}
use Rattle.std.proofs.lemmas.Grind.{flat_map-append}
use Rattle.std.proofs.lemmas.List.Elements.{filter-append, Contains-append_left, Contains-append_right}
use Rattle.graphql_names.specs.Names.{Bytes}
use Rattle.graphql_schema.specs.Types.{TypeOf}
use Rattle.graphql_schema.specs.declared.meta.MetaType.{MetaType}
use Rattle.graphql_output_values.specs.declared.value.Value.{Value}
use Rattle.graphql_field_results.specs.declared.field_error.FieldError.{FieldError}
use Rattle.graphql_field_results.specs.declared.resolved.Resolved.{Resolved}
use Rattle.graphql_written_out.specs.Trees.{Tree}
use Rattle.graphql_written_out.specs.Fields.{Found}
use Rattle.graphql_written_out.specs.Groups.{keys, under, groups}
use Rattle.graphql_merging.specs.Members.{Member}
use Rattle.graphql_merging.specs.Merging.{SameField}
use Rattle.graphql_merging.specs.Sets.{Set}
use Rattle.graphql_merging.specs.Chosen.{found_of, under_key, own_set, chosen_of, chosen_of_all, IsAbove}
use Rattle.graphql_merging.proofs.ChosenMembers.{from-sets}
use Rattle.graphql_merging.proofs.OneObject.{one-field, own-sets-merge, under-has}
use Rattle.graphql_semantics.specs.Engines.{Engine}
use Rattle.graphql_semantics.specs.Outcomes.{Outcome, together}
use Rattle.graphql_semantics.specs.Completion.{Members, blame_at, is_required}
use Rattle.graphql_semantics.specs.Evaluation.{RunOfSets, sets_below, at_declared, group, keyed, found_in, run, highest}
use Rattle.graphql_semantics.specs.Evaluation.{evaluate}
use Rattle.graphql_semantics.proofs.Depths.{evaluate-run}
use Rattle.graphql_joins.specs.Laws.{trees, FitTogether, KeepsSchema, OutcomesJoin, OwnSetsFitTogether, SetsJoin}
use Rattle.graphql_joins.specs.Joins.{both_there, new_keys}
use Rattle.graphql_joins.specs.Typed.{HasDistinctArguments}
use Rattle.graphql_joins.proofs.JoinedAnswers.{ValuesJoin, ObjectsJoin, place-joined, null-joined}
use Rattle.graphql_joins.proofs.JoinKeys.{has, lacks, some_in, keys-append, keys_after-once, has-keys, under-append}
use Rattle.graphql_joins.proofs.JoinedMembers.{has-In, AtBoth, AtFirst, AtSecond, seq, consed, pair, seq-joined}
use Rattle.graphql_joins.proofs.TypedSets.{TypedMember, typed-left, typed-right, typed-own, above-own, collected-all}
use Rattle.graphql_joins.proofs.TypedSets.{typed-all}

module _ {S C : Type 0} where
  found-under : (ms : List (Member S C)) (key : Bytes) → map found_of (under_key key ms) ≡ under (map found_of ms) key
  found-under [] key = refl
  found-under (m ∷ ms) key =
      elim (bytes_eq key m.head.key) as (λ q. map found_of (cond q (m ∷ under_key key ms) (under_key key ms)) ≡ cond q
      (found_of m ∷ under (map found_of ms) key) (under (map found_of ms) key))
      [ true ↦ ap (λ xs. found_of m ∷ xs) (found-under ms key) | false ↦ found-under ms key ]

module _ {S C N : Type 0} (eq : S → S → Bool) (types : List (MetaType S C)) (e : Engine S N)
    (sound : KeepsSchema eq types e) where
  abbrev Ms : Type 0
  Ms = List (Member S C)

  belows-trees : (ms : Ms) → sets_below (map found_of ms) ≡ trees (map (own_set types) ms)
  belows-trees [] = refl
  belows-trees (m ∷ ms) = ap (λ ts. m.below ∷ ts) (belows-trees ms)

  belows-both : (xs ys : Ms)
      → sets_below (map found_of xs ++ map found_of ys) ≡ trees (map (own_set types) xs ++ map (own_set types) ys)
  belows-both [] ys = belows-trees ys
  belows-both (x ∷ xs) ys = ap (λ ts. x.below ∷ ts) (belows-both xs ys)

  abbrev Good : Ms → Type 0
  Good xs = (x : Member S C) → Contains xs x → HasDistinctArguments x.head

  -- what sets give on each node that a field of an object type can be
  abbrev BelowFrom : RunOfSets S N → List Bytes → Bytes → Bytes → List (Tree S) → List (Tree S) → List (Tree S) → Type 0
  BelowFrom r here object name ss ts us =
      (type : TypeOf) → e.declared object name ≡ Some type → (m : N) → e.is_possible type.name (e.concrete m) ≡ true
      → ObjectsJoin (r here (e.concrete m) m ss).value (r here (e.concrete m) m ts).value
      (r here (e.concrete m) m us).value

  group-joined : (r : RunOfSets S N) (path : List Bytes) (object : Bytes) (node : N) (key : Bytes) (x y : Member S C)
      (xs ys : Ms) → HasDistinctArguments x.head → HasDistinctArguments y.head → SameField eq types x y
      → BelowFrom r (path ++ key ∷ []) object x.head.name (sets_below (map found_of (x ∷ xs)))
      (sets_below (map found_of (y ∷ ys))) (sets_below (map found_of (x ∷ xs) ++ map found_of (y ∷ ys)))
      → ValuesJoin (group e r path object node key (map found_of (x ∷ xs))).value
      (group e r path object node key (map found_of (y ∷ ys))).value
      (group e r path object node key (map found_of (x ∷ xs) ++ map found_of (y ∷ ys))).value
  group-joined r path object node key x y xs ys gx gy f h =
      let here : List Bytes = path ++ key ∷ [] in
      let rb : N → Outcome S (Members S) =
      λ m. r here (e.concrete m) m (sets_below (map found_of (x ∷ xs) ++ map found_of (y ∷ ys))) in
      let rx : N → Outcome S (Members S) = λ m. r here (e.concrete m) m (sets_below (map found_of (x ∷ xs))) in
      let ry : N → Outcome S (Members S) = λ m. r here (e.concrete m) m (sets_below (map found_of (y ∷ ys))) in
      let answered : Member S C → Result (Resolved S N) (FieldError S) =
      λ m. e.answer node object m.head.name (e.arguments object m.head) in
      let same : answered x ≡ answered y = sound.alike node object x.head y.head gx gy f.0 f.1 in
      let first =
      at_declared e (e.declared object x.head.name) rx (blame_at here x.head.place) (answered x) in
      let whole =
      at_declared e (e.declared object x.head.name) rb (blame_at here x.head.place) (answered x) in
      subst (λ (o : Outcome S (Value S)). ValuesJoin first.value o.value whole.value)
      (λ i. at_declared e (e.declared object (f.0 i)) ry (blame_at here y.head.place) (same i))
      (of-type here rx ry rb (e.declared object x.head.name) (λ type p. h type p) (answered x))
    where
      of-type : (here : List Bytes) (rx ry rb : N → Outcome S (Members S)) (o : Option TypeOf)
          → ((type : TypeOf) → o ≡ Some type → (m : N) → e.is_possible type.name (e.concrete m) ≡ true
          → ObjectsJoin (rx m).value (ry m).value (rb m).value)
          → (a : Result (Resolved S N) (FieldError S))
          → ValuesJoin (at_declared e o rx (blame_at here x.head.place) a).value
          (at_declared e o ry (blame_at here y.head.place) a).value
          (at_declared e o rb (blame_at here x.head.place) a).value
      of-type here rx ry rb None h a = null-joined
      of-type here rx ry rb (Some type) h a =
          place-joined rx ry rb (blame_at here x.head.place) (blame_at here y.head.place)
          (blame_at here x.head.place) type.name (e.is_leaf type.name) (λ m. e.is_possible type.name (e.concrete m))
          (h type refl) (is_required (reverse type.modifiers)) (reverse type.modifiers) a

  abbrev Below : RunOfSets S N → List Bytes → Bytes → Bytes → Ms → Ms → Type 0
  Below r path object key xs ys = (x : Member S C) → Contains xs x
      → BelowFrom r (path ++ key ∷ []) object x.head.name (sets_below (map found_of xs)) (sets_below (map found_of ys))
      (sets_below (map found_of xs ++ map found_of ys))

  key-joined : (r : RunOfSets S N) (path : List Bytes) (object : Bytes) (node : N) (key : Bytes) (xs ys : Ms)
      → some_in (map found_of xs) ≡ true → some_in (map found_of ys) ≡ true → Good xs → Good ys
      → ((x y : Member S C) → Contains xs x → Contains ys y → SameField eq types x y) → Below r path object key xs ys
      → ValuesJoin (group e r path object node key (map found_of xs)).value
      (group e r path object node key (map found_of ys)).value
      (group e r path object node key (map found_of xs ++ map found_of ys)).value
  key-joined r path object node key [] ys h k gx gy f b = cc
  key-joined r path object node key (x ∷ xs) [] h k gx gy f b = cc
  key-joined r path object node key (x ∷ xs) (y ∷ ys) h k gx gy f b =
      group-joined r path object node key x y xs ys (gx x (0, omega arith, refl)) (gy y (0, omega arith, refl))
      (f x y (0, omega arith, refl) (0, omega arith, refl)) (b x (0, omega arith, refl))

  first-alone : (r : RunOfSets S N) (path : List Bytes) (object : Bytes) (node : N) (key : Bytes) (xs ys : List (Found S))
      → some_in ys ≡ false
      → (group e r path object node key (xs ++ ys)).value ≡ (group e r path object node key xs).value
  first-alone r path object node key xs [] h = ap (λ zs. (group e r path object node key zs).value) (append-nil xs)
  first-alone r path object node key xs (y ∷ ys) h = cc

  second-alone : (r : RunOfSets S N) (path : List Bytes) (object : Bytes) (node : N) (key : Bytes) (xs ys : List (Found S))
      → some_in xs ≡ false
      → (group e r path object node key (xs ++ ys)).value ≡ (group e r path object node key ys).value
  second-alone r path object node key [] ys h = refl
  second-alone r path object node key (x ∷ xs) ys h = cc

  seq-together : (r : RunOfSets S N) (path : List Bytes) (object : Bytes) (node : N) (fs : List (Found S)) (ks : List Bytes)
      → (together (map (keyed e r path object node) (map (λ key. (key, under fs key)) ks))).value
      ≡ seq (λ key. (group e r path object node key (under fs key)).value) ks
  seq-together r path object node fs [] = refl
  seq-together r path object node fs (k ∷ ks) =
      ap (consed (pair k (group e r path object node k (under fs k)).value)) (seq-together r path object node fs ks)

  abbrev Fit : Bytes → List (Set S C) → Type 0
  Fit object sets = FitTogether eq types (e.is_below object) sets

  -- ---- the own sets of all fields of a key

  module _ (object : Bytes) (sets : List (Set S C)) (fit : Fit object sets) where
    abbrev chosen : Ms
    chosen = chosen_of_all types e.drops (e.is_below object) sets

    member-of : (key : Bytes) (x : Member S C) → Contains (under_key key chosen) x
        → Contains chosen x × (key ≡ x.head.key)
    member-of key x i = under-has key chosen x i

    same-field : (key : Bytes) (x y : Member S C) → Contains (under_key key chosen) x
        → Contains (under_key key chosen) y → SameField eq types x y
    same-field key x y i j =
        let p = member-of key x i in
        let q = member-of key y j in
        one-field S C eq types e.drops (e.is_below object) object sets
        (sound.one_object object) fit.above fit.merging x y p.0 q.0 (sym p.1 ∙ q.1)

    typed-of : (key : Bytes) (x : Member S C) → Contains (under_key key chosen) x → TypedMember types x
    typed-of key x i = typed-all types e.drops (e.is_below object) sets fit.typed x (member-of key x i).0

    own-fit : (key concrete : Bytes) (x : Member S C) (type : TypeOf) → Contains (under_key key chosen) x
        → e.declared object x.head.name ≡ Some type → e.is_possible type.name concrete ≡ true
        → Fit concrete (map (own_set types) (under_key key chosen))
    own-fit key concrete x type i declared possible =
        let up : (q : Member S C) → Contains (under_key key chosen) q
        → IsAbove types (e.is_below concrete) (own_set types q) =
        λ q j. sound.covariant object concrete q.head.name q.parent type
        (from-sets types e.drops (e.is_below object) sets fit.above q (member-of key q j).0).1
        (ap (e.declared object) (same-field key q x j i).0 ∙ declared) possible in
        record {
          above = above-own types (e.is_below concrete) (under_key key chosen) up;
          typed = typed-own types (under_key key chosen) (typed-of key);
          merging =
              own-sets-merge S C eq types e.drops (e.is_below object) object key sets
              (sound.one_object object) fit.above fit.merging;
        }

  abbrev Joined : RunOfSets S N → Type 0
  Joined r =
      (path : List Bytes) (object : Bytes) (node : N) (ss ts : List (Set S C)) → Fit object (ss ++ ts)
      → OutcomesJoin (r path object node (trees ss)) (r path object node (trees ts))
      (r path object node (trees (ss ++ ts)))

  module _ (r : RunOfSets S N) (ih : Joined r) (path : List Bytes) (object : Bytes) (node : N) (ss ts : List (Set S C))
      (fit : Fit object (ss ++ ts)) where
    abbrev all : Ms
    all = chosen_of_all types e.drops (e.is_below object) (ss ++ ts)

    abbrev ms : Ms
    ms = chosen_of_all types e.drops (e.is_below object) ss

    abbrev ns : Ms
    ns = chosen_of_all types e.drops (e.is_below object) ts

    both-key : (key : Bytes) → under_key key all ≡ under_key key ms ++ under_key key ns
    both-key key =
        ap (under_key key) (flat_map-append (chosen_of types e.drops (e.is_below object)) ss ts)
        ∙ filter-append (λ (m : Member S C). bytes_eq key m.head.key) ms ns

    in-left : (key : Bytes) (x : Member S C) → Contains (under_key key ms) x → Contains (under_key key all) x
    in-left key x i =
        subst (λ (zs : Ms). Contains zs x) (sym (both-key key))
        (Contains-append_left (under_key key ms) (under_key key ns) x i)

    in-right : (key : Bytes) (y : Member S C) → Contains (under_key key ns) y → Contains (under_key key all) y
    in-right key y i =
        subst (λ (zs : Ms). Contains zs y) (sym (both-key key))
        (Contains-append_right (under_key key ms) (under_key key ns) y i)

    abbrev own : Ms → List (Set S C)
    own = map (own_set types)

    both-sets : (key : Bytes) → own (under_key key all) ≡ own (under_key key ms) ++ own (under_key key ns)
    both-sets key = ap own (both-key key) ∙ map-append (own_set types) (under_key key ms) (under_key key ns)

    below : (key : Bytes) → Below r path object key (under_key key ms) (under_key key ns)
    below key x i type declared m possible =
        let xs = under_key key ms in
        let ys = under_key key ns in
        let here : List Bytes = path ++ key ∷ [] in
        let joined = ih here (e.concrete m) m (own xs) (own ys)
        (subst (Fit (e.concrete m)) (both-sets key)
        (own-fit object (ss ++ ts) fit key (e.concrete m) x type (in-left key x i) declared possible)) in
        let J : List (Tree S) → List (Tree S) → List (Tree S) → Type 0 =
        λ us vs ws. OutcomesJoin (r here (e.concrete m) m us) (r here (e.concrete m) m vs)
        (r here (e.concrete m) m ws) in
        subst (λ us. J us (sets_below (map found_of ys)) (sets_below (map found_of xs ++ map found_of ys)))
        (sym (belows-trees xs))
        (subst (λ vs. J (trees (own xs)) vs (sets_below (map found_of xs ++ map found_of ys))) (sym (belows-trees ys))
        (subst (λ ws. J (trees (own xs)) (trees (own ys)) ws) (sym (belows-both xs ys)) joined))

    abbrev fs : List (Found S)
    fs = map found_of ms

    abbrev gs : List (Found S)
    gs = map found_of ns

    abbrev at : List (Found S) → Bytes → Option (Value S)
    at xs key = (group e r path object node key (under xs key)).value

    abbrev given : List (Found S) → Bytes → Option (Value S)
    given xs key = (group e r path object node key xs).value

    some-under : (xs : Ms) (key : Bytes) → has key (keys (map found_of xs)) ≡ true
        → some_in (map found_of (under_key key xs)) ≡ true
    some-under xs key h = ap some_in (found-under xs key) ∙ sym (has-keys key (map found_of xs)) ∙ h

    at-both : AtBoth (at (fs ++ gs)) (at fs) (at gs) (keys fs) (keys gs)
    at-both key i h =
        let us = map found_of (under_key key ms) in
        let vs = map found_of (under_key key ns) in
        let joined =
        key-joined r path object node key (under_key key ms) (under_key key ns)
        (some-under ms key (has-In key (keys fs) i)) (some-under ns key h)
        (λ x j. (typed-of object (ss ++ ts) fit key x (in-left key x j)).0)
        (λ y j. (typed-of object (ss ++ ts) fit key y (in-right key y j)).0)
        (λ x y j k. same-field object (ss ++ ts) fit key x y (in-left key x j) (in-right key y k)) (below key) in
        subst (λ (zs : List (Found S)). ValuesJoin (at fs key) (at gs key) (given zs key))
        (sym (under-append fs gs key))
        (subst (λ (zs : List (Found S)). ValuesJoin (given zs key) (at gs key) (given (zs ++ under gs key) key))
        (found-under ms key)
        (subst (λ (zs : List (Found S)). ValuesJoin (given us key) (given zs key) (given (us ++ zs) key))
        (found-under ns key) joined))

    at-first : AtFirst (at (fs ++ gs)) (at fs) (at gs) (keys fs) (keys gs)
    at-first key i h =
        ap (λ zs. given zs key) (under-append fs gs key)
        ∙ first-alone r path object node key (under fs key) (under gs key) (sym (has-keys key gs) ∙ h)

    at-second : AtSecond (at (fs ++ gs)) (at fs) (at gs) (keys fs) (keys gs)
    at-second key i h =
        ap (λ zs. given zs key) (under-append fs gs key)
        ∙ second-alone r path object node key (under fs key) (under gs key) (sym (has-keys key fs) ∙ h)

    found-both : found_in e object (trees (ss ++ ts)) ≡ fs ++ gs
    found-both =
        sym (collected-all types e.drops (e.is_below object) (ss ++ ts) fit.typed)
        ∙ ap (map found_of) (flat_map-append (chosen_of types e.drops (e.is_below object)) ss ts)
        ∙ map-append found_of ms ns

    abbrev over : List (Found S) → Outcome S (Members S)
    over zs = together (map (keyed e r path object node) (groups zs))

    over-is : (zs : List (Found S)) → seq (at zs) (keys zs) ≡ (over zs).value
    over-is zs = sym (seq-together r path object node zs (keys zs))

    step-joined : OutcomesJoin (over (found_in e object (trees ss))) (over (found_in e object (trees ts)))
        (over (found_in e object (trees (ss ++ ts))))
    step-joined =
        let left : fs ≡ found_in e object (trees ss) =
        collected-all types e.drops (e.is_below object) ss (typed-left types ss ts fit.typed) in
        let right : gs ≡ found_in e object (trees ts) =
        collected-all types e.drops (e.is_below object) ts (typed-right types ss ts fit.typed) in
        let joined =
        seq-joined (at (fs ++ gs)) (at fs) (at gs) (keys fs) (keys gs) at-both at-first at-second
        (keys_after-once [] fs) in
        let last : seq (at (fs ++ gs)) (keys fs ++ filter (lacks (keys fs)) (keys gs))
        ≡ (over (found_in e object (trees (ss ++ ts)))).value =
        ap (seq (at (fs ++ gs))) (sym (keys-append fs gs)) ∙ over-is (fs ++ gs)
        ∙ ap (λ zs. (over zs).value) (sym found-both) in
        subst (λ (o : Option (Members S)). ObjectsJoin o
        (over (found_in e object (trees ts))).value (over (found_in e object (trees (ss ++ ts)))).value)
        (over-is fs ∙ ap (λ zs. (over zs).value) left)
        (subst (λ (o : Option (Members S)). ObjectsJoin (seq (at fs) (keys fs)) o
        (over (found_in e object (trees (ss ++ ts)))).value) (over-is gs ∙ ap (λ zs. (over zs).value) right)
        (subst (λ (o : Option (Members S)). ObjectsJoin (seq (at fs) (keys fs)) (seq (at gs) (keys gs)) o) last joined))

  run-joined : (n : ℕ) → Joined (run e n)
  run-joined zero path object node ss ts fit = both_there [] [] [] (new_keys [])
  run-joined (suc n) path object node ss ts fit = step-joined (run e n) (run-joined n) path object node ss ts fit

  higher-left : (ss ts : List (Set S C)) → highest (trees ss) ≤ highest (trees (ss ++ ts))
  higher-left [] ts = omega arith
  higher-left (s ∷ ss) ts = let ih : highest (trees ss) ≤ highest (trees (ss ++ ts)) = higher-left ss ts in omega arith

  higher-right : (ss ts : List (Set S C)) → highest (trees ts) ≤ highest (trees (ss ++ ts))
  higher-right [] ts = omega arith
  higher-right (s ∷ ss) ts =
      let ih : highest (trees ts) ≤ highest (trees (ss ++ ts)) = higher-right ss ts in omega arith

  pub sets-joined : Joined (evaluate e)
  sets-joined path object node ss ts fit =
      let n : ℕ = highest (trees (ss ++ ts)) in
      let whole : Outcome S (Members S) = evaluate e path object node (trees (ss ++ ts)) in
      subst (λ (o : Outcome S (Members S)). OutcomesJoin o (evaluate e path object node (trees ts)) whole)
      (evaluate-run e n path object node (trees ss) (higher-left ss ts))
      (subst (λ (o : Outcome S (Members S)). OutcomesJoin (run e n path object node (trees ss)) o whole)
      (evaluate-run e n path object node (trees ts) (higher-right ss ts))
      (run-joined n path object node ss ts fit))

pub sets-join : (S C N : Type 0) (eq : S → S → Bool) → SetsJoin S C N eq
sets-join S C N eq types e sound = sets-joined eq types e sound

pub own-sets-fit-together : (S C N : Type 0) (eq : S → S → Bool) → OwnSetsFitTogether S C N eq
own-sets-fit-together S C N eq types e sound object key concrete sets fit x type i declared possible =
    own-fit eq types e sound object sets fit key concrete x type i declared possible

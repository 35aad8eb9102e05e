-- What stands at each of two lists of keys, joined.
use Rattle.std.proofs.Common.{◌≡◌, refl, sym, ◌∙◌, ap, subst, Bool, true, false, not, ◌||◌, List, [], ◌∷◌, ◌++◌, Option}
use Rattle.std.proofs.Common.{Some, None, cond, ◌⊎◌, inl, inr}
use Rattle.std.specs.List.{filter}
use Rattle.std.specs.Option.{option_map}
use Rattle.std.specs.Str.{bytes_eq}
use Rattle.std.proofs.lemmas.Slice.Eq.{bytes_eq-Decides}
use Rattle.std.proofs.lemmas.Bool.{or_left, or_parts, or_right}
use Rattle.graphql_names.specs.Names.{Bytes}
use Rattle.graphql_names.proofs.NameLemmas.{eq_either_way}
use Rattle.graphql_output_values.specs.Objects.{Pair, field_value}
use Rattle.graphql_output_values.specs.declared.value.Value.{Value}
use Rattle.graphql_semantics.specs.Completion.{Members}
use Rattle.graphql_semantics.specs.Outcomes.{both}
use Rattle.graphql_joins.specs.Joins.{IsJoin, MembersJoin, new_keys, key_of_both, key_of_first, JoinsIfThere}
use Rattle.graphql_joins.specs.Joins.{none_first, none_second, both_there, without}
use Rattle.graphql_joins.proofs.JoinKeys.{has, lacks, Once}

abbrev pub In : Bytes → List Bytes → Type 0
In k [] = ⊥
In k (j ∷ ks) = (k ≡ j) ⊎ In k ks

pub has-In : (k : Bytes) (ks : List Bytes) → In k ks → has k ks ≡ true
has-In k [] i = absurd i
has-In k (j ∷ ks) (inl e) = or_left (bytes_eq k j) (has k ks) ((bytes_eq-Decides k j).1 e)
has-In k (j ∷ ks) (inr i) = or_right (bytes_eq k j) (has k ks) (has-In k ks i)

pub In-has : (k : Bytes) (ks : List Bytes) → has k ks ≡ true → In k ks
In-has k [] h = cc
In-has k (j ∷ ks) h = cases (bytes_eq k j) refl h (In-has k ks)
  where
    cases : (q : Bool) → bytes_eq k j ≡ q → (q || has k ks) ≡ true → (has k ks ≡ true → In k ks) → In k (j ∷ ks)
    cases true e h r = inl ((bytes_eq-Decides k j).0 e)
    cases false e h r = inr (r h)

-- a key among these is not one that they lack
apart : (k j : Bytes) (ks : List Bytes) → In j ks → has k ks ≡ false → bytes_eq j k ≡ false
apart k j [] i h = absurd i
apart k j (l ∷ ks) (inl e) h = eq_either_way j k ∙ ap (bytes_eq k) e ∙ (or_parts (bytes_eq k l) (has k ks) h).0
apart k j (l ∷ ks) (inr i) h = apart k j ks i (or_parts (bytes_eq k l) (has k ks) h).1

-- ---- all keys but one

abbrev other : Bytes → Bytes → Bool
other k l = not (bytes_eq l k)

lacks-step : (l : Bytes) (ks : List Bytes) (x : Bool) (A B : List Bytes) → A ≡ filter (lacks ks) B
    → cond (not (x || has l ks)) (l ∷ A) A ≡ filter (lacks ks) (cond (not x) (l ∷ B) B)
lacks-step l ks true A B e = e
lacks-step l ks false A B e = ap (λ Z. cond (not (has l ks)) (l ∷ Z) Z) e

filter-lacks : (k : Bytes) (ks ls : List Bytes) → filter (lacks (k ∷ ks)) ls ≡ filter (lacks ks) (filter (other k) ls)
filter-lacks k ks [] = refl
filter-lacks k ks (l ∷ ls) =
    lacks-step l ks (bytes_eq l k) (filter (lacks (k ∷ ks)) ls) (filter (other k) ls) (filter-lacks k ks ls)

other-all : (k : Bytes) (ls : List Bytes) → has k ls ≡ false → filter (other k) ls ≡ ls
other-all k [] h = refl
other-all k (l ∷ ls) h =
    let n = or_parts (bytes_eq k l) (has k ls) h in
    ap (λ q. cond (not q) (l ∷ filter (other k) ls) (filter (other k) ls)) (eq_either_way l k ∙ n.0)
    ∙ ap (λ zs. l ∷ zs) (other-all k ls n.1)

-- another key is among them exactly where it was
has-other : (k j : Bytes) → bytes_eq j k ≡ false → (ls : List Bytes) → has j (filter (other k) ls) ≡ has j ls
has-other k j h [] = refl
has-other k j h (l ∷ ls) = cases (bytes_eq l k) refl (has-other k j h ls)
  where
    cases : (q : Bool) → bytes_eq l k ≡ q → has j (filter (other k) ls) ≡ has j ls
        → has j (cond (not q) (l ∷ filter (other k) ls) (filter (other k) ls)) ≡ (bytes_eq j l || has j ls)
    cases false e ih = ap (λ z. bytes_eq j l || z) ih
    cases true e ih = ih ∙ ap (λ z. z || has j ls) (sym (ap (bytes_eq j) ((bytes_eq-Decides l k).0 e) ∙ h))

In-other : (k j : Bytes) (ls : List Bytes) → In j (filter (other k) ls) → In j ls × (bytes_eq j k ≡ false)
In-other k j [] i = absurd i
In-other k j (l ∷ ls) i = cases (bytes_eq l k) refl i (In-other k j ls)
  where
    cases : (q : Bool) → bytes_eq l k ≡ q → In j (cond (not q) (l ∷ filter (other k) ls) (filter (other k) ls))
        → (In j (filter (other k) ls) → In j ls × (bytes_eq j k ≡ false)) → In j (l ∷ ls) × (bytes_eq j k ≡ false)
    cases true e i r = (let n = r i in (inr n.0, n.1))
    cases false e (inl p) r = (inl p, ap (λ z. bytes_eq z k) p ∙ e)
    cases false e (inr i) r = (let n = r i in (inr n.0, n.1))

some-of : {X : Type 0} (x y : X) → ◌≡◌ {A = Option X} (Some x) (Some y) → y ≡ x
some-of x y e = cc

-- ---- an object's members, each a key's

module _ {V : Type 0} where
  abbrev pub pair : Bytes → Option V → Option (Pair V)
  pair k = option_map (λ x. (k, x))

  abbrev pub consed : Option (Pair V) → Option (List (Pair V)) → Option (List (Pair V))
  consed = both (λ x xs. x ∷ xs)

  abbrev pub seq : (Bytes → Option V) → List Bytes → Option (List (Pair V))
  seq g [] = Some []
  seq g (k ∷ ks) = consed (pair k (g k)) (seq g ks)

  abbrev Split : Bytes → Option V → Option (List (Pair V)) → List (Pair V) → Type 0
  Split k a b xs = (v : V) × (ys : List (Pair V)) × (a ≡ Some v) × (b ≡ Some ys) × (xs ≡ (k, v) ∷ ys)

  split : (k : Bytes) (a : Option V) (b : Option (List (Pair V))) (xs : List (Pair V)) → consed (pair k a) b ≡ Some xs
      → Split k a b xs
  split k None b xs e = cc
  split k (Some v) None xs e = cc
  split k (Some v) (Some ys) xs e = (v, ys, refl, refl, some-of ((k, v) ∷ ys) xs e)

  seq-none : (g : Bytes → Option V) (ks : List Bytes) (k : Bytes) → In k ks → g k ≡ None → seq g ks ≡ None
  seq-none g [] k i e = absurd i
  seq-none g (j ∷ ks) k (inl q) e = ap (λ o. consed (pair j o) (seq g ks)) (ap g (sym q) ∙ e)
  seq-none g (j ∷ ks) k (inr i) e = ap (λ o. consed (pair j (g j)) o) (seq-none g ks k i e) ∙ ends (pair j (g j))
    where
      ends : (o : Option (Pair V)) → consed o None ≡ None
      ends None = refl
      ends (Some x) = refl

  none-seq : (g : Bytes → Option V) (ks : List Bytes) → seq g ks ≡ None → (k : Bytes) × In k ks × (g k ≡ None)
  none-seq g [] e = cc
  none-seq g (j ∷ ks) e = cases (g j) (seq g ks) refl refl e (none-seq g ks)
    where
      cases : (a : Option V) (b : Option (List (Pair V))) → g j ≡ a → seq g ks ≡ b → consed (pair j a) b ≡ None
          → (seq g ks ≡ None → (k : Bytes) × In k ks × (g k ≡ None)) → (k : Bytes) × In k (j ∷ ks) × (g k ≡ None)
      cases None b p q e r = (j, inl refl, p)
      cases (Some v) None p q e r = (let s = r q in (s.0, inr s.1, s.2))
      cases (Some v) (Some ys) p q e r = cc

  seq-field : (g : Bytes → Option V) (ks : List Bytes) (xs : List (Pair V)) → seq g ks ≡ Some xs → (k : Bytes)
      → field_value xs k ≡ cond (has k ks) (g k) None
  seq-field g [] xs e k = ap (λ zs. field_value zs k) (some-of [] xs e)
  seq-field g (j ∷ ks) xs e k =
      let s = split j (g j) (seq g ks) xs e in
      ap (λ zs. field_value zs k) s.4 ∙ cases (bytes_eq k j) refl s.0 s.2 (field_value s.1 k) (seq-field g ks s.1 s.3 k)
    where
      cases : (q : Bool) → bytes_eq k j ≡ q → (v : V) → g j ≡ Some v → (o : Option V) → o ≡ cond (has k ks) (g k) None
          → cond q (Some v) o ≡ cond (q || has k ks) (g k) None
      cases true p v e o f = sym e ∙ ap g (sym ((bytes_eq-Decides k j).0 p))
      cases false p v e o f = f

  seq-some : (g : Bytes → Option V) (ks : List Bytes) (xs : List (Pair V)) → seq g ks ≡ Some xs → (k : Bytes) → In k ks
      → (v : V) × (g k ≡ Some v)
  seq-some g [] xs e k i = absurd i
  seq-some g (j ∷ ks) xs e k (inl q) = let s = split j (g j) (seq g ks) xs e in (s.0, ap g q ∙ s.2)
  seq-some g (j ∷ ks) xs e k (inr i) = let s = split j (g j) (seq g ks) xs e in seq-some g ks s.1 s.3 k i

  -- those of the keys that pass
  seq-passing : (g h : Bytes → Option V) (p : Bytes → Bool) (ks : List Bytes) (ys : List (Pair V)) → seq h ks ≡ Some ys
      → ((k : Bytes) → In k ks → p k ≡ true → g k ≡ h k)
      → seq g (filter p ks) ≡ Some (filter (λ y. p y.0) ys)
  seq-passing g h p [] ys e s = ap (λ zs. Some (filter (λ y. p y.0) zs)) (sym (some-of [] ys e))
  seq-passing g h p (k ∷ ks) ys e s =
      let r = split k (h k) (seq h ks) ys e in
      cases (p k) refl r.0 r.2 r.1 (seq-passing g h p ks r.1 r.3 (λ j i. s j (inr i)))
      ∙ ap (λ zs. Some (filter (λ y. p y.0) zs)) (sym r.4)
    where
      cases : (q : Bool) → p k ≡ q → (v : V) → h k ≡ Some v → (zs : List (Pair V))
          → seq g (filter p ks) ≡ Some (filter (λ y. p y.0) zs)
          → seq g (cond q (k ∷ filter p ks) (filter p ks))
          ≡ Some (cond q ((k, v) ∷ filter (λ y. p y.0) zs) (filter (λ y. p y.0) zs))
      cases true t v f zs ih = λ i. consed (pair k ((s k (inl refl) t ∙ f) i)) (ih i)
      cases false t v f zs ih = ih

  all-kept : (ps : List (Pair V)) → filter (λ p. lacks [] p.0) ps ≡ ps
  all-kept [] = refl
  all-kept (p ∷ ps) = ap (λ qs. p ∷ qs) (all-kept ps)

-- ---- what is there, or not

abbrev There : {A : Type 0} → (A → A → A → Type 0) → A → A → Option A → Type 0
There {A} R x y r = (z : A) × (r ≡ Some z) × R x y z

module _ {A : Type 0} {R : A → A → A → Type 0} where
  there : {o p r : Option A} → JoinsIfThere R o p r → (x y : A) → o ≡ Some x → p ≡ Some y → There R x y r
  there (none_first p) x y e f = absurd (cc)
  there (none_second o) x y e f = absurd (cc)
  there (both_there u w z j) x y e f =
      (z, refl, subst (λ t. R t y z) (sym (some-of u x e)) (subst (λ t. R u t z) (sym (some-of w y f)) j))

  none-of-first : {o p r : Option A} → JoinsIfThere R o p r → o ≡ None → r ≡ None
  none-of-first (none_first p) e = refl
  none-of-first (none_second o) e = refl
  none-of-first (both_there u w z j) e = absurd (cc)

  none-of-second : {o p r : Option A} → JoinsIfThere R o p r → p ≡ None → r ≡ None
  none-of-second (none_first p) e = refl
  none-of-second (none_second o) e = refl
  none-of-second (both_there u w z j) e = absurd (cc)

-- ---- objects join key by key

module _ {S : Type 0} (g a b : Bytes → Option (Value S)) where
  -- of the keys of both, of those of the first alone and of the second alone
  abbrev pub AtBoth : List Bytes → List Bytes → Type 0
  AtBoth ks ls = (k : Bytes) → In k ks → has k ls ≡ true → JoinsIfThere IsJoin (a k) (b k) (g k)

  abbrev pub AtFirst : List Bytes → List Bytes → Type 0
  AtFirst ks ls = (k : Bytes) → In k ks → has k ls ≡ false → g k ≡ a k

  abbrev pub AtSecond : List Bytes → List Bytes → Type 0
  AtSecond ks ls = (k : Bytes) → In k ls → has k ks ≡ false → g k ≡ b k

  abbrev Both : List Bytes → List Bytes → List Bytes
  Both ks ls = ks ++ filter (lacks ks) ls

  abbrev Joined : List Bytes → List Bytes → Members S → Members S → Type 0
  Joined ks ls xs ys = (zs : Members S) × (seq g (Both ks ls) ≡ Some zs) × MembersJoin xs ys zs

  members-joined : (ks ls : List Bytes) (xs ys : Members S) → Once ks → AtBoth ks ls → AtFirst ks ls → AtSecond ks ls
      → seq a ks ≡ Some xs → seq b ls ≡ Some ys → Joined ks ls xs ys
  members-joined [] ls xs ys once both first second e f = (
    ys,
    seq-passing g b (lacks []) ls ys f (λ k i h. second k i refl) ∙ ap (λ zs. Some zs) (all-kept ys),
    subst (λ ws. MembersJoin ws ys ys) (sym (some-of [] xs e)) (new_keys ys),
  )
  members-joined (k ∷ ks) ls xs ys once both first second e f =
      let s = split k (a k) (seq a ks) xs e in
      let v = s.0 in
      let us = s.1 in
      of-key v us s.2 s.4 (has k ls) refl
      (λ h. members-joined ks (filter (other k) ls) us (without k ys) once.1
      (λ j i t. both j (inr i) (sym (has-other k j (apart k j ks i once.0) ls) ∙ t))
      (λ j i t. first j (inr i) (sym (has-other k j (apart k j ks i once.0) ls) ∙ t))
      (λ j i t. let n = In-other k j ls i in second j n.0 (ap (λ q. q || has j ks) n.1 ∙ t))
      s.3 (seq-passing b b (other k) ls ys f (λ j i t. refl)))
      (λ h. members-joined ks ls us ys once.1 (λ j i. both j (inr i)) (λ j i. first j (inr i))
      (λ j i t. second j i (ap (λ q. q || has j ks) (apart k j ls i h) ∙ t)) s.3 f)
    where
      of-key : (v : Value S) (us : Members S) → a k ≡ Some v → xs ≡ (k, v) ∷ us → (q : Bool) → has k ls ≡ q
          → (has k ls ≡ true → Joined ks (filter (other k) ls) us (without k ys))
          → (has k ls ≡ false → Joined ks ls us ys) → Joined (k ∷ ks) ls xs ys
      of-key v us p is true h with_rest rest =
          let w = seq-some b ls ys f k (In-has k ls h) in
          let one = there (both k (inl refl) h) v w.0 p w.1 in
          let m = with_rest h in (
            (k, one.0) ∷ m.0,
            (λ i. consed (pair k (one.1 i)) (seq g (ks ++ filter-lacks k ks ls i)))
                ∙ ap (λ zs. consed (pair k (Some one.0)) zs) m.1,
            subst (λ ws. MembersJoin ws ys ((k, one.0) ∷ m.0)) (sym is)
                (key_of_both k v w.0 one.0 us ys m.0 (seq-field b ls ys f k ∙ ap (λ q. cond q (b k) None) h
                ∙ w.1) one.2 m.2),
          )
      of-key v us p is false h with_rest rest =
          let m = rest h in (
            (k, v) ∷ m.0,
            (λ i. consed (pair k ((first k (inl refl) h ∙ p) i))
                (seq g (ks ++ (filter-lacks k ks ls ∙ ap (filter (lacks ks)) (other-all k ls h)) i)))
                ∙ ap (λ zs. consed (pair k (Some v)) zs) m.1,
            subst (λ ws. MembersJoin ws ys ((k, v) ∷ m.0)) (sym is)
                (key_of_first k v us ys m.0 (seq-field b ls ys f k ∙ ap (λ q. cond q (b k) None) h) m.2),
          )

  module _ (ks ls : List Bytes) (both_joined : AtBoth ks ls) (first_kept : AtFirst ks ls)
      (second_kept : AtSecond ks ls) where
    In-filter : (k : Bytes) (js : List Bytes) → In k js → lacks ks k ≡ true → In k (filter (lacks ks) js)
    In-filter k [] i e = absurd i
    In-filter k (j ∷ js) (inl q) e =
        subst (λ z. In k (cond z (j ∷ filter (lacks ks) js) (filter (lacks ks) js))) (sym (ap (lacks ks) (sym q) ∙ e))
        (inl q)
    In-filter k (j ∷ js) (inr i) e =
        elim (lacks ks j) as (λ z. In k (cond z (j ∷ filter (lacks ks) js)
        (filter (lacks ks) js))) [ true ↦ inr (In-filter k js i e) | false ↦ In-filter k js i e ]

    left-in : (k : Bytes) (xs ys : List Bytes) → In k xs → In k (xs ++ ys)
    left-in k [] ys i = absurd i
    left-in k (x ∷ xs) ys (inl e) = inl e
    left-in k (x ∷ xs) ys (inr i) = inr (left-in k xs ys i)

    right-in : (k : Bytes) (xs ys : List Bytes) → In k ys → In k (xs ++ ys)
    right-in k [] ys i = i
    right-in k (x ∷ xs) ys i = inr (right-in k xs ys i)

    none-at-first : (k : Bytes) → In k ks → a k ≡ None → (q : Bool) → has k ls ≡ q → g k ≡ None
    none-at-first k i e true h = none-of-first (both_joined k i h) e
    none-at-first k i e false h = first_kept k i h ∙ e

    none-at-second : (k : Bytes) → In k ls → b k ≡ None → (q : Bool) → has k ks ≡ q → seq g (Both ks ls) ≡ None
    none-at-second k i e true h =
        let here = In-has k ks h in
        seq-none g (Both ks ls) k (left-in k ks (filter (lacks ks) ls) here)
        (none-of-second (both_joined k here (has-In k ls i)) e)
    none-at-second k i e false h =
        seq-none g (Both ks ls) k (right-in k ks (filter (lacks ks) ls) (In-filter k ls i (ap not h)))
        (second_kept k i h ∙ e)

    pub seq-joined : Once ks → JoinsIfThere MembersJoin (seq a ks) (seq b ls) (seq g (Both ks ls))
    seq-joined once = cases (seq a ks) (seq b ls) refl refl
      where
        cases : (o p : Option (Members S)) → seq a ks ≡ o → seq b ls ≡ p
            → JoinsIfThere MembersJoin o p (seq g (Both ks ls))
        cases None p e f =
            let n = none-seq a ks e in
            subst (JoinsIfThere MembersJoin None p)
            (sym (seq-none g (Both ks ls) n.0 (left-in n.0 ks (filter (lacks ks) ls) n.1)
            (none-at-first n.0 n.1 n.2 (has n.0 ls) refl))) (none_first p)
        cases (Some xs) None e f =
            let n = none-seq b ls f in
            subst (JoinsIfThere MembersJoin (Some xs) None) (sym (none-at-second n.0 n.1 n.2 (has n.0 ks) refl))
            (none_second (Some xs))
        cases (Some xs) (Some ys) e f =
            let m = members-joined ks ls xs ys once both_joined first_kept second_kept e f in
            subst (JoinsIfThere MembersJoin (Some xs) (Some ys)) (sym m.1) (both_there xs ys m.0 m.2)

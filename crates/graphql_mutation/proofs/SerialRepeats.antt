-- Groups of a mutation's root that differ by repeats.
use Rattle.std.proofs.Common.{◌≡◌, refl, sym, ◌∙◌, ap, List, [], ◌∷◌, ◌++◌, map, Option, Some, None}
use Rattle.std.specs.Str.{bytes_eq}
use Rattle.std.proofs.lemmas.List.{map-append}
use Rattle.std.proofs.lemmas.Option.{same_Some}
use Rattle.graphql_names.specs.Names.{Bytes}
use Rattle.graphql_written_out.specs.Trees.{Head, Tree}
use Rattle.graphql_written_out.specs.Fields.{Found}
use Rattle.graphql_written_out.specs.Groups.{groups, keys, under}
use Rattle.graphql_written_out.specs.Repeats.{Repeats}
use Rattle.graphql_schema.specs.Types.{TypeOf}
use Rattle.graphql_semantics.specs.Completion.{Members, blame_at}
use Rattle.graphql_semantics.specs.Evaluation.{at_type, found_in, sets_below}
use Rattle.graphql_semantics.proofs.GroupRepeats.{adds-keys}
use Rattle.graphql_semantics.proofs.RepeatLemmas.{adds-filter, adds-first, adds-map, first}
use Rattle.graphql_semantics.proofs.RunRepeats.{evaluate-repeats}
use Rattle.graphql_mutation.specs.Laws.{RepeatsChangeNothing}
use Rattle.graphql_mutation.specs.Serial.{AfterBeginning, Mutation, Run, declared_step, root_group, serially, step_of, unless_null}

-- a front of what a function makes of a list
split-map : {A B : Type 0} (f : A → B) (ks : List A) (done others : List B) → map f ks ≡ done ++ others
    → (front : List A) × (back : List A) × (ks ≡ front ++ back) × (done ≡ map f front)
split-map f ks [] others e = ([], ks, refl, refl)
split-map f [] (d ∷ done) others e = cc
split-map f (k ∷ ks) (d ∷ done) others e =
    let head : f k ≡ d = cc in
    let tail : map f ks ≡ done ++ others = cc in
    let r = split-map f ks done others tail in
    (k ∷ r.0, r.1, ap (λ zs. k ∷ zs) r.2, λ i. sym head i ∷ r.3 i)

module _ {S N X : Type 0} (m : Mutation S N X) (object : Bytes) where
  sets-repeats : (c : X) (key : Bytes) (head : Head S) (ts us : List (Tree S)) → Repeats ts us → (d : Option TypeOf)
      → declared_step m object key ts head c d ≡ declared_step m object key us head c d
  sets-repeats c key head ts us r None = refl
  sets-repeats c key head ts us r (Some type) =
      let step = step_of m object c head in
      let e = m.engine step.after in
      λ i. record {
        outcome =
            at_type e (λ n. evaluate-repeats e (key ∷ []) (e.concrete n) n ts us r i) (blame_at (key ∷ []) head.place)
            type step.answer;
        after = step.after;
      }

  -- a group hangs on its first field and on the sets below
  group-depends : (c : X) (key : Bytes) (xs ys : List (Found S)) → first xs ≡ first ys
      → Repeats (sets_below xs) (sets_below ys)
      → root_group m object c key xs ≡ root_group m object c key ys
  group-depends c key [] [] f r = refl
  group-depends c key [] (y ∷ ys) f r = cc
  group-depends c key (x ∷ xs) [] f r = cc
  group-depends c key (x ∷ xs) (y ∷ ys) f r =
      let p : x ≡ y = same_Some x y f in
      ap (λ (z : Found S).
      declared_step m object key (sets_below (x ∷ xs)) z.head c ((m.engine c).declared object z.head.name)) p
      ∙ sets-repeats c key y.head (sets_below (x ∷ xs)) (sets_below (y ∷ ys)) r
      ((m.engine c).declared object y.head.name)

  module _ (xs ys : List (Found S)) (repeats : Repeats ys xs) where
    group-repeats : (c : X) (key : Bytes)
        → root_group m object c key (under ys key) ≡ root_group m object c key (under xs key)
    group-repeats c key =
        let below : Repeats (under ys key) (under xs key) =
        adds-filter (λ (x : Found S). bytes_eq key x.head.key) repeats in
        group-depends c key (under ys key) (under xs key) (adds-first below) (adds-map (λ (x : Found S). x.below) below)

    -- the groups of any keys
    keys-repeats : (ks : List Bytes) (c : X)
        → serially m object c (map (λ key. (key, under ys key)) ks)
        ≡ serially m object c (map (λ key. (key, under xs key)) ks)
    keys-repeats [] c = refl
    keys-repeats (k ∷ ks) c =
        let one : root_group m object c k (under ys k) ≡ root_group m object c k (under xs k) = group-repeats c k in
        λ i. unless_null k (one i) (one i).outcome.value (keys-repeats ks (one i).after i)

    pub serially-repeats : (c : X) → serially m object c (groups ys) ≡ serially m object c (groups xs)
    serially-repeats c =
        keys-repeats (keys ys) c
        ∙ ap (λ ks. serially m object c (map (λ key. (key, under xs key)) ks)) (adds-keys [] repeats)

    -- a beginning of the groups with repeats left out is one of all
    pub beginning-repeats : (c new : X) → AfterBeginning m object c (groups ys) new
        → AfterBeginning m object c (groups xs) new
    beginning-repeats c new b =
        let r = split-map (λ key. (key, under ys key)) (keys ys) b.done b.others b.is in
        let all : keys xs ≡ r.0 ++ r.1 = sym (adds-keys [] repeats) ∙ r.2 in
        record {
          done = map (λ key. (key, under xs key)) r.0;
          others = map (λ key. (key, under xs key)) r.1;
          is = ap (map (λ key. (key, under xs key))) all ∙ map-append (λ key. (key, under xs key)) r.0 r.1;
          after =
              b.after ∙ ap (λ gs. (serially m object c gs).after) r.3
              ∙ ap (λ (run : Run S X (Members S)). run.after) (keys-repeats r.0 c);
        }

pub repeats-change-nothing : (S N X : Type 0) → RepeatsChangeNothing S N X
repeats-change-nothing S N X m object c sets ys repeats =
    serially-repeats m object (found_in (m.engine c) object sets) ys repeats c

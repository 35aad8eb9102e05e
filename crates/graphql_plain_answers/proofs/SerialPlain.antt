-- A mutation's plain sets change what the sets do.
use Rattle.std.proofs.Common.{◌≡◌, refl, sym, ◌∙◌, ap, Bool, List, [], ◌∷◌, ◌++◌, map, Option, Some, None}
use Rattle.std.proofs.lemmas.List.{map-append}
use Rattle.graphql_names.specs.Names.{Bytes}
use Rattle.graphql_schema.specs.Types.{TypeOf}
use Rattle.graphql_written_out.specs.Trees.{Directives, Tree}
use Rattle.graphql_written_out.specs.Fields.{Found, fields}
use Rattle.graphql_written_out.specs.Groups.{keys, under, groups}
use Rattle.graphql_semantics.specs.Completion.{blame_at}
use Rattle.graphql_semantics.specs.Engines.{Engine}
use Rattle.graphql_semantics.specs.Evaluation.{at_type, evaluate, found_in, sets_below}
use Rattle.graphql_mutation.specs.Serial.{Mutation, declared_step, mutate, root_group, serially, step_of, unless_null}
use Rattle.graphql_plain_tree.specs.Laws.{Fit, plain_found}
use Rattle.graphql_plain_tree.specs.Plain.{plain}
use Rattle.graphql_plain_tree.proofs.PlainFields.{fields-plain}
use Rattle.graphql_plain_laws.proofs.PlainRuns.{evaluate-plain}
use Rattle.graphql_plain_answers.specs.AlikeSets.{EachAlike}
use Rattle.graphql_plain_answers.specs.Laws.{PlainChangeTheSame}
use Rattle.graphql_plain_answers.proofs.AlikeFields.{keys-alike, under-alike}

module _ {S : Type 0} (drops : Directives S → Bool) (stand_in : Directives S) where
  -- a field, and the field with its set plain
  abbrev IsItsPlain : Found S → Found S → Type 0
  IsItsPlain x y = y ≡ plain_found drops stand_in x

  each-plain : (xs : List (Found S)) → EachAlike IsItsPlain xs (map (plain_found drops stand_in) xs)
  each-plain [] = tt
  each-plain (x ∷ xs) = (refl, each-plain xs)

  below-plain : (xs ys : List (Found S)) → EachAlike IsItsPlain xs ys
      → sets_below ys ≡ map (plain drops stand_in) (sets_below xs)
  below-plain [] [] a = refl
  below-plain [] (y ∷ ys) a = absurd a
  below-plain (x ∷ xs) [] a = absurd a
  below-plain (x ∷ xs) (y ∷ ys) a = λ i. (a.0 i).below ∷ below-plain xs ys a.1 i

  module _ (fit : Fit drops stand_in) {N : Type 0} (e : Engine S N) (same : e.drops ≡ drops) where
    -- by the engine that leaves out so, written with `drops`
    abbrev by : Engine S N
    by = record e { drops = drops }

    by-is : e ≡ by
    by-is = λ i. record e { drops = same i }

    found-plain : (object : Bytes) (ts : List (Tree S))
        → found_in by object (map (plain drops stand_in) ts)
        ≡ map (plain_found drops stand_in) (found_in by object ts)
    found-plain object [] = refl
    found-plain object (t ∷ ts) =
        let first = fields-plain drops stand_in fit (e.is_below object) t in
        let rest = found-plain object ts in
        (λ i. first i ++ rest i)
        ∙ sym (map-append (plain_found drops stand_in) (fields drops (e.is_below object) t)
        (found_in by object ts))

    evaluated : (path : List Bytes) (object : Bytes) (node : N) (ts : List (Tree S))
        → evaluate e path object node (map (plain drops stand_in) ts)
        ≡ evaluate e path object node ts
    evaluated path object node ts =
        ap (λ (g : Engine S N). evaluate g path object node (map (plain drops stand_in) ts)) by-is
        ∙ evaluate-plain by stand_in fit path object node ts
        ∙ ap (λ (g : Engine S N). evaluate g path object node ts) (sym by-is)

  module _ (fit : Fit drops stand_in) {N X : Type 0} (m : Mutation S N X)
      (all : (c : X) → (m.engine c).drops ≡ drops) (object : Bytes) where
    declared-plain : (key : Bytes) (x : Found S) (ts : List (Tree S)) (c : X) (o : Option TypeOf)
        → declared_step m object key (map (plain drops stand_in) ts) x.head c o
        ≡ declared_step m object key ts x.head c o
    declared-plain key x ts c None = refl
    declared-plain key x ts c (Some type) =
        let step = step_of m object c x.head in
        let e : Engine S N = m.engine step.after in
        let path : List Bytes = key ∷ [] in
        λ i. record {
          outcome =
              at_type e (λ k. evaluated fit e (all step.after) path (e.concrete k) k ts i)
              (blame_at path x.head.place) type step.answer;
          after = step.after;
        }

    group-plain : (c : X) (key : Bytes) (xs ys : List (Found S)) → EachAlike IsItsPlain xs ys
        → root_group m object c key ys ≡ root_group m object c key xs
    group-plain c key [] [] a = refl
    group-plain c key [] (y ∷ ys) a = absurd a
    group-plain c key (x ∷ xs) [] a = absurd a
    group-plain c key (x ∷ xs) (y ∷ ys) a =
        (λ i. declared_step m object key (below-plain (x ∷ xs) (y ∷ ys) a i) (a.0 i).head c
        ((m.engine c).declared object (a.0 i).head.name))
        ∙ declared-plain key x (sets_below (x ∷ xs)) c ((m.engine c).declared object x.head.name)

    serially-plain : (f g : Bytes → List (Found S))
        → ((key : Bytes) → EachAlike IsItsPlain (f key) (g key)) → (ks : List Bytes) (c : X)
        → serially m object c (map (λ key. (key, g key)) ks)
        ≡ serially m object c (map (λ key. (key, f key)) ks)
    serially-plain f g a [] c = refl
    serially-plain f g a (k ∷ ks) c =
        let first = group-plain c k (f k) (g k) (a k) in
        λ i. unless_null k (first i) (first i).outcome.value
        (serially-plain f g a ks (first i).after i)

    mutate-plain : (c : X) (ts : List (Tree S))
        → mutate m object c (map (plain drops stand_in) ts) ≡ mutate m object c ts
    mutate-plain c ts =
        let e : Engine S N = m.engine c in
        let g : Engine S N = by fit e (all c) in
        let xs : List (Found S) = found_in g object ts in
        let ys : List (Found S) = map (plain_found drops stand_in) xs in
        let same-key : (x y : Found S) → IsItsPlain x y → x.head.key ≡ y.head.key =
        λ x y is. ap (λ (z : Found S). z.head.key) (sym is) in
        ap (λ (h : Engine S N). serially m object c
        (groups (found_in h object (map (plain drops stand_in) ts)))) (by-is fit e (all c))
        ∙ ap (λ zs. serially m object c (groups zs)) (found-plain fit e (all c) object ts)
        ∙ ap (λ ks. serially m object c (map (λ key. (key, under ys key)) ks))
        (sym (keys-alike IsItsPlain same-key [] xs ys (each-plain xs)))
        ∙ serially-plain (under xs) (under ys)
        (λ key. under-alike IsItsPlain same-key xs ys key (each-plain xs)) (keys xs) c
        ∙ ap (λ (h : Engine S N). serially m object c (groups (found_in h object ts)))
        (sym (by-is fit e (all c)))

pub plain-change-the-same : {S N X : Type 0} → PlainChangeTheSame S N X
plain-change-the-same m drops stand_in fit all object c sets =
    mutate-plain drops stand_in fit m all object c sets

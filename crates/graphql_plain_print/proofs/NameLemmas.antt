-- Names that stand in both of two lists, or in neither.
use Rattle.std.proofs.Common.{◌≡◌, refl, sym, ◌∙◌, ap, subst, ℕ, ◌+◌, ◌<◌, append-nil, length, get_or, take, Bool, true, false, not, ◌||◌, List, [], ◌∷◌, ◌++◌, MatchBool, IsPermutation, append_assoc, Result, Ok, Err, OnOk}
use Rattle.std.specs.List.{filter}
use Rattle.std.specs.Str.{bytes_eq}
use Rattle.std.proofs.Math.Bool.{or-false}
use Rattle.std.proofs.lemmas.Bool.{false≢true}
use Rattle.std.proofs.lemmas.Grind.{flat_map-append}
use Rattle.std.proofs.lemmas.List.{take_more}
use Rattle.std.proofs.lemmas.List.Folds.{list_any-append}
use Rattle.std.proofs.lemmas.List.Sorted.{list_any-IsPermutation}
use Rattle.graphql_names.specs.Names.{Bytes, is_one_of}
use Rattle.graphql_names.proofs.NameLemmas.{same_bytes}
use Rattle.graphql_values.specs.Variables.{names_of_variables}
use Rattle.graphql_tree.specs.Arguments.{Argument}
use Rattle.graphql_plain_tree.specs.PlainOperations.{variables_given}
use Rattle.graphql_plain_print.specs.NameSets.{AreSame}

pub same-refl : (xs : List Bytes) → AreSame xs xs
same-refl xs = record { same = λ q. refl }

pub same-trans : (xs ys zs : List Bytes) → AreSame xs ys → AreSame ys zs → AreSame xs zs
same-trans xs ys zs a b = record { same = λ q. a.same q ∙ b.same q }

pub same-as : (xs ys zs : List Bytes) → AreSame xs ys → ys ≡ zs → AreSame xs zs
same-as xs ys zs a e = subst (λ l. AreSame xs l) e a

-- with the same names behind them
pub same-append : (xs ys zs : List Bytes) → AreSame xs ys → AreSame (xs ++ zs) (ys ++ zs)
same-append xs ys zs a = record {
  same = λ q. list_any-append (bytes_eq q) xs zs ∙ ap (λ b. b || is_one_of zs q) (a.same q) ∙ sym (list_any-append (bytes_eq q) ys zs);
}

or_swapped : (a b : Bool) → (a || b) ≡ (b || a)
or_swapped true true = refl
or_swapped true false = refl
or_swapped false true = refl
or_swapped false false = refl

-- a name put among others
pub same-put : (name : Bytes) (old new : List Bytes) (added : Bool) → added ≡ not (is_one_of old name) → MatchBool added (IsPermutation (name ∷ old) new) (new ≡ old)
    → AreSame new (old ++ name ∷ [])
same-put name old new true was puts = record {
  same = λ q.
      sym (list_any-IsPermutation (bytes_eq q) (name ∷ old) new puts) ∙ or_swapped (bytes_eq q name) (is_one_of old q)
      ∙ ap (λ b. is_one_of old q || b) (sym (or-false (bytes_eq q name))) ∙ sym (list_any-append (bytes_eq q) old (name ∷ []));
}
same-put name old new false was puts = record {
  same = λ q.
      ap (λ names. is_one_of names q) puts
      ∙ either (is_one_of old q) (bytes_eq q name) (λ same. ap (is_one_of old) (same_bytes q name same) ∙ there (is_one_of old name) was)
      ∙ ap (λ b. is_one_of old q || b) (sym (or-false (bytes_eq q name))) ∙ sym (list_any-append (bytes_eq q) old (name ∷ []));
}
  where
    there : (b : Bool) → false ≡ not b → b ≡ true
    there true e = refl
    there false e = absurd (false≢true e)

    either : (a b : Bool) → (b ≡ true → a ≡ true) → a ≡ (a || b)
    either true b h = refl
    either false true h = h refl
    either false false h = refl

-- those that pass a test pass one that agrees with it
pub filter-same : {A : Type 0} (name_of : A → Bytes) (xs ys : List Bytes) → AreSame xs ys → (items : List A)
    → filter (λ a. is_one_of xs (name_of a)) items ≡ filter (λ a. is_one_of ys (name_of a)) items
filter-same name_of xs ys same [] = refl
filter-same name_of xs ys same (a ∷ items) = rw (same.same (name_of a), filter-same name_of xs ys same items) refl

-- where a call gives a value: the names that it leaves, behind those that were added before
pub same-behind : {A E : Type 0} (result : Result A E) (xs us vs : List Bytes) → OnOk result (us ≡ vs) → OnOk result (AreSame (xs ++ us) (xs ++ vs))
same-behind (Ok x) xs us vs e = same-as (xs ++ us) (xs ++ us) (xs ++ vs) (same-refl (xs ++ us)) (ap (λ l. xs ++ l) e)
same-behind (Err x) xs us vs e = tt

pub same-added : {A E : Type 0} (result : Result A E) (old given now used us vs : List Bytes) → AreSame used (old ++ given) → OnOk result (us ≡ now ++ vs)
    → OnOk result (AreSame (used ++ us) (old ++ ((given ++ now) ++ vs)))
same-added (Ok x) old given now used us vs a e =
    same-as (used ++ us) ((old ++ given) ++ us) (old ++ ((given ++ now) ++ vs)) (same-append used (old ++ given) us a)
    (append_assoc old given us ∙ ap (λ l. old ++ l) (ap (λ l. given ++ l) e ∙ sym (append_assoc given now vs)))
same-added (Err x) old given now used us vs a e = tt

-- after one turn more of a loop that adds names
pub same-next : (start used new done more after : List Bytes) → AreSame used (start ++ done) → AreSame new (used ++ more) → done ++ more ≡ after
    → AreSame new (start ++ after)
same-next start used new done more after a b e =
    same-as new ((start ++ done) ++ more) (start ++ after) (same-trans new (used ++ more) ((start ++ done) ++ more) b (same-append used (start ++ done) more a))
    (append_assoc start done more ∙ ap (λ l. start ++ l) e)

-- the names in one argument more
pub given-more : {S : Type 0} (xs : List (Argument S)) (k : ℕ) (x : Argument S) → k < length xs → x ≡ get_or xs k x
    → variables_given (take (k + 1) xs) ≡ variables_given (take k xs) ++ names_of_variables x.1.item
given-more xs k x within is =
    ap variables_given (take_more xs k x within ∙ ap (λ z. take k xs ++ z ∷ []) (sym is)) ∙ flat_map-append (λ a. names_of_variables a.1.item) (take k xs) (x ∷ [])
    ∙ ap (λ l. variables_given (take k xs) ++ l) (append-nil (names_of_variables x.1.item))

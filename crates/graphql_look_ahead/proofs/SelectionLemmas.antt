-- Fields of a response key, children that are kept, and the request of which they are.
use Rattle.std.proofs.Common.{◌≡◌, refl, sym, ◌∙◌, ap, ℕ, ◌+◌, ◌<◌, Bool, true, false, List, [], ◌∷◌, ◌++◌, map, drop, take, get_or, length, Option, Some, None, cond, append-nil}
use Rattle.std.proofs.lemmas.List.{drop_all, drop_more, take_all, take_more}
use Rattle.std.proofs.lemmas.List.Elements.{All-cons, All-nil, filter_more}
use Rattle.std.specs.List.{All, filter, flat_map}
use Rattle.std.specs.Option.{option_or}
use Rattle.std.specs.Str.{bytes_eq}
use Rattle.graphql_names.specs.Names.{Bytes}
use Rattle.graphql_values.specs.InputValues.{Placed}
use Rattle.graphql_tree.specs.declared.selection.Field.{Field}
use Rattle.graphql_tree.specs.declared.selection.Selection.{Selection, out-Selection}
use Rattle.graphql_tree.specs.declared.selection.Selection.TheOpen.{Selection-F}
use Rattle.graphql_tree.specs.declared.selection.Selection.TheVariants as selection
use Rattle.graphql_written_out.specs.Written.{response_key}
use Rattle.graphql_collected.specs.declared.request.Request.{Request}
use Rattle.graphql_look_ahead.specs.Children.{Ahead}
use Rattle.graphql_look_ahead.specs.Selections.{first_of_key, opened_of_key}
use Rattle.graphql_look_ahead.specs.Told.{IsOfRequest, looked_at, with_request}
use Rattle.graphql_look_ahead.specs.declared.selection.LookAheadSelection.{LookAheadSelection}

or-or : {A : Type 0} (f g h : Option A) → option_or f (option_or g h) ≡ option_or (option_or f g) h
or-or (Some a) g h = refl
or-or None g h = refl

module _ {S : Type 0} (key : Bytes) where
  -- the first of two lists
  pub first-both : (xs ys : List (Selection S)) → first_of_key key (xs ++ ys) ≡ option_or (first_of_key key xs) (first_of_key key ys)
  first-both [] ys = refl
  first-both (x ∷ xs) ys = ap (option_or (opened_of_key key (out-Selection S x))) (first-both xs ys) ∙ or-or (opened_of_key key (out-Selection S x)) (first_of_key key xs) (first_of_key key ys)

  -- behind a selection that is no field of the key
  pub first-on : (list : List (Selection S)) (n : ℕ) (x : Selection S) → n < length list → x ≡ get_or list n x → opened_of_key key (out-Selection S x) ≡ None
      → first_of_key key (drop n list) ≡ first_of_key key (drop (n + 1) list)
  first-on list n x lt is none =
      ap (first_of_key key) (drop_more list n x lt ∙ ap (λ y. y ∷ drop (n + 1) list) (sym is)) ∙ ap (λ o. option_or o (first_of_key key (drop (n + 1) list))) none

  pub first-here : (list : List (Selection S)) (n : ℕ) (x : Selection S) (f : Placed (Field S)) → n < length list → x ≡ get_or list n x → opened_of_key key (out-Selection S x) ≡ Some f
      → first_of_key key (drop n list) ≡ Some f
  first-here list n x f lt is some =
      ap (first_of_key key) (drop_more list n x lt ∙ ap (λ y. y ∷ drop (n + 1) list) (sym is)) ∙ ap (λ o. option_or o (first_of_key key (drop (n + 1) list))) some

  pub opened-field : (x : Selection S) (f : Placed (Field S)) (same : Bool) → x ≡ selection.Field f → bytes_eq (response_key f.item.alias f.item.name) key ≡ same
      → opened_of_key key (out-Selection S x) ≡ cond same (Some f) None
  opened-field x f same is e = ap (λ z. opened_of_key key (out-Selection S z)) is ∙ ap (opened_of_key key) (selection.outs-Field f) ∙ ap (λ q. cond q (Some f) None) e

  -- the same of the lists of fields
  module _ {A : Type 0} (h : A → List (Selection S)) (xs : List A) (n : ℕ) (x : A) (lt : n < length xs) (is : x ≡ get_or xs n x) where
    first-lists : first_of_key key (flat_map h (drop n xs)) ≡ option_or (first_of_key key (h x)) (first_of_key key (flat_map h (drop (n + 1) xs)))
    first-lists = ap (λ zs. first_of_key key (flat_map h zs)) (drop_more xs n x lt ∙ ap (λ y. y ∷ drop (n + 1) xs) (sym is)) ∙ first-both (h x) (flat_map h (drop (n + 1) xs))

    pub lists-on : first_of_key key (h x) ≡ None → first_of_key key (flat_map h (drop n xs)) ≡ first_of_key key (flat_map h (drop (n + 1) xs))
    lists-on none = first-lists ∙ ap (λ o. option_or o (first_of_key key (flat_map h (drop (n + 1) xs)))) none

    pub lists-here : (f : Placed (Field S)) → first_of_key key (h x) ≡ Some f → first_of_key key (flat_map h (drop n xs)) ≡ Some f
    lists-here f some = first-lists ∙ ap (λ o. option_or o (first_of_key key (flat_map h (drop (n + 1) xs)))) some

shown-one : {A B : Type 0} (b : Bool) (h : A → B) (x : A) (ys : List A) → map h (cond b (x ∷ ys) ys) ≡ cond b (h x ∷ map h ys) (map h ys)
shown-one true h x ys = refl
shown-one false h x ys = refl

-- what is kept of a list, shown otherwise
filter-shown : {A B : Type 0} (q : B → Bool) (h : A → B) (xs : List A) → map h (filter (λ x. q (h x)) xs) ≡ filter q (map h xs)
filter-shown q h [] = refl
filter-shown q h (x ∷ xs) = shown-one (q (h x)) h x (filter (λ y. q (h y)) xs) ∙ ap (λ zs. cond (q (h x)) (h x ∷ zs) zs) (filter-shown q h xs)

-- two lists that are shown alike are alike in what is kept of them
pub kept-alike : {A B X : Type 0} (q : X → Bool) (h : A → X) (k : B → X) (xs : List A) (ys : List B) → map h xs ≡ map k ys
    → map h (filter (λ x. q (h x)) xs) ≡ map k (filter (λ y. q (k y)) ys)
kept-alike q h k xs ys e = filter-shown q h xs ∙ ap (filter q) e ∙ sym (filter-shown q k ys)

-- one item more
pub kept-more : {A : Type 0} (p : A → Bool) (xs : List A) (i : ℕ) (x : A) (ys : List A) (b : Bool) → i < length xs → x ≡ get_or xs i x → p x ≡ b → ys ≡ filter p (take i xs)
    → ys ++ cond b (x ∷ []) [] ≡ filter p (take (i + 1) xs)
kept-more p xs i x ys b lt is e k =
    ap (λ zs. zs ++ cond b (x ∷ []) []) k ∙ ap (λ q. filter p (take i xs) ++ cond q (x ∷ []) []) (sym e)
    ∙ ap (λ z. filter p (take i xs) ++ cond (p z) (z ∷ []) []) is ∙ sym (filter_more p xs i x lt)

pub kept-none : {A : Type 0} (p : A → Bool) (xs : List A) (i : ℕ) (x : A) (ys : List A) → i < length xs → x ≡ get_or xs i x → p x ≡ false → ys ≡ filter p (take i xs)
    → ys ≡ filter p (take (i + 1) xs)
kept-none p xs i x ys lt is e k = sym (append-nil ys) ∙ kept-more p xs i x ys false lt is e k

module _ {S C : Type 0} (request : Request S C) where
  -- of which request the first is, if there is one
  abbrev first : List (Ahead S × Request S C) → Request S C
  first [] = request
  first (x ∷ xs) = x.1

  abbrev rest : List (Ahead S × Request S C) → List (Ahead S × Request S C)
  rest [] = []
  rest (x ∷ xs) = xs

  -- what is told within a request is of it
  pub all-of : (found : List (LookAheadSelection S C)) (children : List (Ahead S)) → map looked_at found ≡ map (with_request request) children → All (IsOfRequest request) found
  all-of [] children same = All-nil (IsOfRequest request)
  all-of (x ∷ xs) [] same = All-cons (IsOfRequest request) x xs (ap first same) (all-of xs [] (ap rest same))
  all-of (x ∷ xs) (a ∷ children) same = All-cons (IsOfRequest request) x xs (ap first same) (all-of xs children (ap rest same))

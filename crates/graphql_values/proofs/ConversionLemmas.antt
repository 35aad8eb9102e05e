-- Readings of lists, item by item.
use Rattle.std.proofs.Common.{◌≡◌, ◌≢◌, ℕ, ◌+◌, ◌<◌, Option, Some, None, Result, Ok, Err, MatchResult, List, [], ◌∷◌, ◌++◌, map, take, drop, length, get_or, subst, sym, ap, refl, ◌∙◌}
use Rattle.std.specs.Option.{IsSomeAnd}
use Rattle.std.specs.List.{AllZip}
use Rattle.std.proofs.lemmas.List.{take_more, drop_more, take-append-drop, map-append}
use Rattle.std.proofs.lemmas.Slice.Zip.{all_zipped_more, AllZip-long}
use Rattle.graphql_values.specs.declared.input_value.InputValue.{InputValue}
use Rattle.graphql_values.specs.declared.input_value.InputValue.TheOpen.{InputValue-F}
use Rattle.graphql_values.specs.declared.input_value.InputValue.TheVariants as value
use Rattle.graphql_values.specs.declared.conversions.arrays.FromInputValueArrayError.{FromInputValueArrayError}
use Rattle.graphql_values.specs.declared.conversions.arrays.FromInputValueArrayError.TheVariants as array_error
use Rattle.graphql_values.specs.InputValues.{Placed}
use Rattle.graphql_text.specs.Memory.{Answers}
use Rattle.graphql_values.specs.ConversionsOfLists.{items_layer, items_of, IsRefusedFirst, MeansItems, RefusesItem}
use Rattle.graphql_values.specs.ConversionsOfArrays.{ListHas, MeansExactly, RefusesExactly}
use Rattle.graphql_values.specs.ConversionLaws.{out_form, items_of-list}
use Rattle.graphql_values.proofs.InputValueInduction.{value_ind}

module _ {S : Type 0} where
  abbrev IsSingle : InputValue S → Type 0
  IsSingle v = v ≢ value.Null → ((items : List (Placed (InputValue S))) → v ≢ value.List items) → items_of v ≡ Some (v ∷ [])

  -- a value that is neither null nor a list gives itself as the only item
  pub items_of-single : (v : InputValue S) → IsSingle v
  items_of-single = value_ind IsSingle
      (λ not_null not_list. absurd (not_null refl))
      (λ s not_null not_list. ap (items_layer (value.Scalar s)) (out_form (value.Scalar s) (InputValue-F.Scalar s) (value.rolls-Scalar s)))
      (λ n not_null not_list. ap (items_layer (value.Enum n)) (out_form (value.Enum n) (InputValue-F.Enum n) (value.rolls-Enum n)))
      (λ n not_null not_list. ap (items_layer (value.Variable n)) (out_form (value.Variable n) (InputValue-F.Variable n) (value.rolls-Variable n)))
      (λ items of_items not_null not_list. absurd (not_list items refl))
      (λ pairs of_pairs not_null not_list. ap (items_layer (value.Object pairs)) (out_form (value.Object pairs) (InputValue-F.Object pairs) (value.rolls-Object pairs)))

  item_values : List (Placed (InputValue S)) → List (InputValue S)
  item_values items = map (λ (x : Placed (InputValue S)). x.item) items

module _ {S T : Type 0} (means : InputValue S → T → Type 0) where
  -- the meaning of a value that stands alone
  pub MeansItems-single : (v : InputValue S) (y : T) → v ≢ value.Null → ((items : List (Placed (InputValue S))) → v ≢ value.List items) → means v y → MeansItems means v (y ∷ [])
  MeansItems-single v y not_null not_list meant =
      subst (λ items. IsSomeAnd items (λ xs. AllZip means xs (y ∷ []))) (sym (items_of-single v not_null not_list)) (meant, tt)

  -- the meanings of a list's items
  pub MeansItems-list : (items : List (Placed (InputValue S))) (ys : List T) → AllZip means (map (λ x. x.item) items) ys → MeansItems means (value.List items) ys
  MeansItems-list items ys meant = subst (λ given. IsSomeAnd given (λ xs. AllZip means xs ys)) (sym (items_of-list items)) meant

  -- one item more has been read
  pub read_more :
      (items : List (Placed (InputValue S))) (i : ℕ) (x : Placed (InputValue S)) (ys : List T) (y : T) → i < length items → x ≡ get_or items i x
      → AllZip means (map (λ x. x.item) (take i items)) ys → means x.item y
      → AllZip means (map (λ x. x.item) (take (i + 1) items)) (ys ++ y ∷ [])
  read_more items i x ys y inside is meant one =
      subst (λ xs. AllZip means xs (ys ++ y ∷ []))
      (sym (ap (map (λ x. x.item)) (take_more items i x inside ∙ ap (λ d. take i items ++ d ∷ []) (sym is)) ∙ map-append (λ x. x.item) (take i items) (x ∷ [])))
      (all_zipped_more means (map (λ x. x.item) (take i items)) ys x.item y meant one)

module _ {S T E : Type 0} (means : InputValue S → T → Type 0) (refuses : InputValue S → E → Type 0) where
  -- a refused value that stands alone
  pub RefusesItem-single : (v : InputValue S) (e : E) → v ≢ value.Null → ((items : List (Placed (InputValue S))) → v ≢ value.List items) → refuses v e → RefusesItem means refuses v e
  RefusesItem-single v e not_null not_list refused =
      subst (λ items. IsSomeAnd items (λ xs. IsRefusedFirst means refuses xs e)) (sym (items_of-single v not_null not_list))
      (record { before = []; read = []; refused = v; behind = []; parts = refl; before_mean = tt; refused_is = refused })

  -- the item behind those that have been read is refused
  pub RefusesItem-list :
      (items : List (Placed (InputValue S))) (i : ℕ) (x : Placed (InputValue S)) (ys : List T) (e : E) → i < length items → x ≡ get_or items i x
      → AllZip means (map (λ x. x.item) (take i items)) ys → refuses x.item e
      → RefusesItem means refuses (value.List items) e
  RefusesItem-list items i x ys e inside is meant refused =
      let parts : items ≡ take i items ++ x ∷ drop (i + 1) items = sym (ap (λ xs. take i items ++ xs) (ap (λ d. d ∷ drop (i + 1) items) is ∙ sym (drop_more items i x inside)) ∙ take-append-drop i items) in
      subst (λ given. IsSomeAnd given (λ xs. IsRefusedFirst means refuses xs e)) (sym (items_of-list items))
      (record {
        before = map (λ x. x.item) (take i items);
        read = ys;
        refused = x.item;
        behind = map (λ x. x.item) (drop (i + 1) items);
        parts = ap (map (λ x. x.item)) parts ∙ map-append (λ x. x.item) (take i items) (x ∷ drop (i + 1) items);
        before_mean = meant;
        refused_is = refused;
      })

module _ {S T E : Type 0} (n : ℕ) (means : InputValue S → T → Type 0) (refuses : InputValue S → E → Type 0) where
  has_items : (v : InputValue S) (items : Option (List (InputValue S))) (ys : List T) → IsSomeAnd items (λ xs. AllZip means xs ys) → IsSomeAnd items (λ xs. (length xs ≡ length ys) × (ListHas n v → (zs : List T) × AllZip means xs zs))
  has_items v None ys meant = meant
  has_items v (Some xs) ys meant = (sym (AllZip-long means xs ys meant), λ has. (ys, meant))

  -- a list of meanings, once it is known to be as long as wanted or not
  pub Answers-exactly :
      (is_memory : FromInputValueArrayError T S E → Type 0) (v : InputValue S) (ys : List T) (r : Result (List T) (FromInputValueArrayError T S E)) → ListHas n v → MeansItems means v ys
      → MatchResult r (λ array. (array ≡ ys) × (length ys ≡ n)) (λ e. (e ≡ array_error.WrongCount (length ys) n) × (length ys ≢ n))
      → Answers (MeansExactly n means v) (RefusesExactly n means refuses v) is_memory r
  Answers-exactly is_memory v ys (Ok array) has meant is = subst (MeansExactly n means v) (sym is.0) (meant, is.1)
  Answers-exactly is_memory v ys (Err e) has meant is = λ other. subst (RefusesExactly n means refuses v) (sym is.0) (refl, is.1, has_items v (items_of v) ys meant)

-- What a literal becomes depends on places in its own places alone, and on the values of its own
-- variables.
use Rattle.std.proofs.Common.{◌≡◌, refl, sym, ◌∙◌, ap, subst, suc, arith, List, [], ◌∷◌, ◌++◌, map, Option, Some, None}
use Rattle.std.specs.List.{Contains, cons_option, filter_map, flat_map}
use Rattle.std.specs.Option.{option_map}
use Rattle.std.proofs.lemmas.List.Elements.{Contains-append_left, Contains-append_right}
use Rattle.graphql_names.specs.Names.{Bytes}
use Rattle.graphql_values.specs.InputValues.{Placed, Pair, unplaced, unplaced_pair, unlocated, unlocated_layer}
use Rattle.graphql_values.specs.Variables.{given_pair, names_of_variables, variables_layer}
use Rattle.graphql_values.specs.declared.input_value.InputValue.{InputValue}
use Rattle.graphql_values.specs.declared.input_value.InputValue.TheVariants as value
use Rattle.graphql_values.proofs.InputValueEquations.{fold_null, fold_scalar, fold_enum, fold_variable, unlocated_list, unlocated_object}
use Rattle.graphql_values.proofs.InputValueInduction.{value_ind, HoldsOfItems, HoldsOfPairs}
use Rattle.graphql_values.proofs.SamePlaces.{unlocated_item, unlocated_pair}
use Rattle.graphql_values.proofs.VariableLemmas.{variables_in_list, variables_in_object}
use Rattle.graphql_written_out.specs.Filled.{filled, filled_item, filled_layer, filled_pair, value_or_null}
use Rattle.graphql_written_out.proofs.FilledEquations.{filled_list, filled_object}
use Rattle.graphql_plain_answers.specs.AgreeingValues.{AgreeOn, Values}

module _ {S : Type 0} where
  or-null : (o : Option (InputValue S))
      → unlocated (value_or_null o) ≡ value_or_null (option_map unlocated o)
  or-null None = fold_null unlocated_layer
  or-null (Some v) = refl

  one-pair : (a b : Option (InputValue S)) (p : Pair (InputValue S))
      → option_map unlocated a ≡ option_map unlocated b
      → (qs rs : List (Pair (InputValue S))) → map unlocated_pair qs ≡ map unlocated_pair rs
      → map unlocated_pair (cons_option (given_pair (unplaced p.0.item, unplaced a)) qs)
      ≡ map unlocated_pair
      (cons_option (given_pair (p.0, record { item = b; span = p.1.span })) rs)
  one-pair None None p same qs rs rest = rest
  one-pair None (Some b) p same qs rs rest = absurd (cc)
  one-pair (Some a) None p same qs rs rest = absurd (cc)
  one-pair (Some a) (Some b) p same qs rs rest =
      let is : unlocated a ≡ unlocated b = cc in
      λ i. unplaced_pair (p.0.item, is i) ∷ rest i

  module _ (given other : Values S) where
    -- to agree on all is to agree on each part
    pub agree-left : (xs ys : List Bytes) → AgreeOn given other (xs ++ ys) → AgreeOn given other xs
    agree-left xs ys agree name i = agree name (Contains-append_left xs ys name i)

    pub agree-right : (xs ys : List Bytes) → AgreeOn given other (xs ++ ys) → AgreeOn given other ys
    agree-right xs ys agree name i = agree name (Contains-append_right xs ys name i)

    abbrev Alike : InputValue S → Type 0
    Alike v =
        AgreeOn given other (names_of_variables v)
        → option_map unlocated (filled given (unlocated v)) ≡ option_map unlocated (filled other v)

    -- a literal that has no places of its own
    leaf-alike : (v : InputValue S) → unlocated v ≡ v
        → option_map unlocated (filled given v) ≡ option_map unlocated (filled other v)
        → option_map unlocated (filled given (unlocated v)) ≡ option_map unlocated (filled other v)
    leaf-alike v is same = ap (λ w. option_map unlocated (filled given w)) is ∙ same

    variable-alike : (n : Bytes) → Alike (value.Variable n)
    variable-alike n agree =
        leaf-alike (value.Variable n) (fold_variable unlocated_layer n)
        (ap (option_map unlocated) (fold_variable (filled_layer given) n)
        ∙ agree n
        (subst (λ names. Contains names n) (sym (fold_variable variables_layer n))
        (0, omega arith, refl))
        ∙ sym (ap (option_map unlocated) (fold_variable (filled_layer other) n)))

    item-alike : (x : Placed (InputValue S))
        → option_map unlocated (filled given (unlocated x.item))
        ≡ option_map unlocated (filled other x.item)
        → unlocated_item (filled_item given (unlocated_item x))
        ≡ unlocated_item (filled_item other x)
    item-alike x same =
        ap unplaced
        (or-null (filled given (unlocated x.item)) ∙ ap value_or_null same
        ∙ sym (or-null (filled other x.item)))

    items-alike : (xs : List (Placed (InputValue S))) → HoldsOfItems Alike xs
        → AgreeOn given other (flat_map (λ x. names_of_variables x.item) xs)
        → map unlocated_item (map (filled_item given) (map unlocated_item xs))
        ≡ map unlocated_item (map (filled_item other) xs)
    items-alike [] each agree = refl
    items-alike (x ∷ xs) each agree =
        let names = names_of_variables x.item in
        let behind = flat_map (λ (y : Placed (InputValue S)). names_of_variables y.item) xs in
        let first = item-alike x (each 0 x (omega arith) (agree-left names behind agree)) in
        let rest = items-alike xs (λ k d within. each (suc k) d (omega arith))
        (agree-right names behind agree) in
        λ i. first i ∷ rest i

    pairs-alike : (ps : List (Pair (InputValue S))) → HoldsOfPairs Alike ps
        → AgreeOn given other (flat_map (λ p. names_of_variables p.1.item) ps)
        → map unlocated_pair (filter_map (filled_pair given) (map unlocated_pair ps))
        ≡ map unlocated_pair (filter_map (filled_pair other) ps)
    pairs-alike [] each agree = refl
    pairs-alike (p ∷ ps) each agree =
        let names = names_of_variables p.1.item in
        let behind = flat_map (λ (q : Pair (InputValue S)). names_of_variables q.1.item) ps in
        one-pair (filled given (unlocated p.1.item)) (filled other p.1.item) p
        (each 0 p (omega arith) (agree-left names behind agree)) _ _
        (pairs-alike ps (λ k d within. each (suc k) d (omega arith))
        (agree-right names behind agree))

    list-alike : (xs : List (Placed (InputValue S))) → HoldsOfItems Alike xs → Alike (value.List xs)
    list-alike xs each agree =
        let names = subst (AgreeOn given other) (variables_in_list xs) agree in
        ap (λ v. option_map unlocated (filled given v)) (unlocated_list xs)
        ∙ ap (option_map unlocated) (filled_list given (map unlocated_item xs))
        ∙ ap Some (unlocated_list (map (filled_item given) (map unlocated_item xs)))
        ∙ ap (λ ys. Some (value.List ys)) (items-alike xs each names)
        ∙ sym (ap (option_map unlocated) (filled_list other xs)
        ∙ ap Some (unlocated_list (map (filled_item other) xs)))

    object-alike : (ps : List (Pair (InputValue S))) → HoldsOfPairs Alike ps
        → Alike (value.Object ps)
    object-alike ps each agree =
        let names = subst (AgreeOn given other) (variables_in_object ps) agree in
        ap (λ v. option_map unlocated (filled given v)) (unlocated_object ps)
        ∙ ap (option_map unlocated) (filled_object given (map unlocated_pair ps))
        ∙ ap Some (unlocated_object (filter_map (filled_pair given) (map unlocated_pair ps)))
        ∙ ap (λ qs. Some (value.Object qs)) (pairs-alike ps each names)
        ∙ sym (ap (option_map unlocated) (filled_object other ps)
        ∙ ap Some (unlocated_object (filter_map (filled_pair other) ps)))

    -- a literal without its places becomes by the one what the literal becomes by the other
    pub filled-alike : (v : InputValue S) → Alike v
    filled-alike = value_ind Alike
        (λ agree. leaf-alike value.Null (fold_null unlocated_layer)
        (ap (option_map unlocated)
        (fold_null (filled_layer given) ∙ sym (fold_null (filled_layer other)))))
        (λ s agree. leaf-alike (value.Scalar s) (fold_scalar unlocated_layer s)
        (ap (option_map unlocated)
        (fold_scalar (filled_layer given) s ∙ sym (fold_scalar (filled_layer other) s))))
        (λ n agree. leaf-alike (value.Enum n) (fold_enum unlocated_layer n)
        (ap (option_map unlocated)
        (fold_enum (filled_layer given) n ∙ sym (fold_enum (filled_layer other) n))))
        variable-alike list-alike object-alike

-- The same arguments give the same at each path of names, so what is answered by that is the same.
use Rattle.std.specs.Prelude.{◌≡◌, refl, List, [], ◌∷◌, Bool, true, false, cond, map, Option, Some, None}
use Rattle.std.specs.List.{filter, find}
use Rattle.std.specs.Option.{option_and_then, option_map}
use Rattle.std.specs.Str.{bytes_eq}
use Rattle.std.proofs.Common.{sym, subst, ◌∙◌, ap}
use Rattle.graphql_names.specs.Names.{Bytes}
use Rattle.graphql_scalars.specs.contracts.default_scalar.DefaultScalarValuePartialEq.TheImpl.{ghosts}
use Rattle.graphql_scalars.specs.declared.default_scalar.DefaultScalarValue.{DefaultScalarValue}
use Rattle.graphql_values.specs.InputValues.{Pair, Placed}
use Rattle.graphql_values.specs.SameValue.{SameFields, SameItems, SameValue, more_items, no_items, same_enum, same_list, same_null, same_object, same_scalar, same_variable, values_named}
use Rattle.graphql_values.specs.declared.input_value.InputValue.{InputValue}
use Rattle.graphql_values.specs.declared.input_value.InputValue.TheVariants as value
use Rattle.graphql_arguments.specs.ArgumentValues.{Given, value_named}
use Rattle.graphql_arguments.specs.SameArguments.{SameArguments, SameGiven, SameInOrder}
use Rattle.graphql_arguments.proofs.SameOrders.{in-order-same}
use Rattle.graphql_resolvers.specs.Inputs.{Input, field_layer, field_named, input_field, input_layer, read_input, inputs_named, inputs_of, items, leaf, leaf_layer, leaf_of, leaves_of, input_at}
use Rattle.graphql_resolvers.proofs.ExactScalars.{exact}

abbrev pub S : Type 0
S = DefaultScalarValue

abbrev Same : InputValue S → InputValue S → Type 0
Same = SameValue S ghosts.eq

same-leaf : (v w : InputValue S) → Same v w → leaf_of v ≡ leaf_of w
same-leaf v w same_null = refl
same-leaf v w (same_scalar a b h) =
    ap leaf_layer (value.outs-Scalar a) ∙ ap Some (exact a b h) ∙ sym (ap leaf_layer (value.outs-Scalar b))
same-leaf v w (same_enum name) = refl
same-leaf v w (same_variable name) = refl
same-leaf v w (same_list xs ys h) = ap leaf_layer (value.outs-List xs) ∙ sym (ap leaf_layer (value.outs-List ys))
same-leaf v w (same_object ps qs h) = ap leaf_layer (value.outs-Object ps) ∙ sym (ap leaf_layer (value.outs-Object qs))

same-leaves-in : (xs ys : List (Placed (InputValue S))) → SameItems S ghosts.eq xs ys → leaves_of xs ≡ leaves_of ys
same-leaves-in _ _ no_items = refl
same-leaves-in _ _ (more_items x y xs ys here rest) =
    ap (λ l. l ∷ leaves_of xs) (same-leaf x.item y.item here) ∙ ap (λ ls. leaf_of y.item ∷ ls) (same-leaves-in xs ys rest)

same-input : (v w : InputValue S) → Same v w → read_input v ≡ read_input w
same-input v w same_null = refl
same-input v w (same_scalar a b h) =
    ap input_layer (value.outs-Scalar a) ∙ ap leaf (exact a b h) ∙ sym (ap input_layer (value.outs-Scalar b))
same-input v w (same_enum name) = refl
same-input v w (same_variable name) = refl
same-input v w (same_list xs ys h) =
    ap input_layer (value.outs-List xs) ∙ ap items (same-leaves-in xs ys h) ∙ sym (ap input_layer (value.outs-List ys))
same-input v w (same_object ps qs h) = ap input_layer (value.outs-Object ps) ∙ sym (ap input_layer (value.outs-Object qs))

-- ---- the first field of a name

abbrev first : List (Placed (InputValue S)) → Option (InputValue S)
first [] = None
first (x ∷ xs) = Some x.item

abbrev value_or : Bool → Pair (InputValue S) → List (Pair (InputValue S)) → List (Pair (InputValue S)) → Option (Pair (InputValue S)) → Type 0
value_or is p ps others found =
    option_map (λ q. q.1.item) (cond is (Some p) found) ≡ first (map (λ q. q.1) (cond is (p ∷ others) others))

first-or : (is : Bool) (p : Pair (InputValue S)) (ps others : List (Pair (InputValue S))) (found : Option (Pair (InputValue S)))
    → option_map (λ q. q.1.item) found ≡ first (map (λ q. q.1) others) → value_or is p ps others found
first-or true p ps others found h = refl
first-or false p ps others found h = h

first-under : (ps : List (Pair (InputValue S))) (name : Bytes) → field_named ps name ≡ first (values_named name ps)
first-under [] name = refl
first-under (p ∷ ps) name =
    first-or (bytes_eq p.0.item name) p ps (filter (λ q. bytes_eq q.0.item name) ps) (find (λ q. bytes_eq q.0.item name) ps) (first-under ps name)

same-first : (xs ys : List (Placed (InputValue S))) → SameItems S ghosts.eq xs ys → SameGiven ghosts.eq (first xs) (first ys)
same-first _ _ no_items = tt
same-first _ _ (more_items x y xs ys here rest) = here

same-fields : (ps qs : List (Pair (InputValue S))) → SameFields S ghosts.eq ps qs → (name : Bytes) → SameGiven ghosts.eq (field_named ps name) (field_named qs name)
same-fields ps qs h name =
    subst (λ u. SameGiven ghosts.eq u (field_named qs name)) (sym (first-under ps name))
    (subst (λ u. SameGiven ghosts.eq (first (values_named name ps)) u) (sym (first-under qs name)) (same-first (values_named name ps) (values_named name qs) (h name)))

abbrev named_alike : (Bytes → Option (InputValue S)) → (Bytes → Option (InputValue S)) → Type 0
named_alike a b = (name : Bytes) → SameGiven ghosts.eq (a name) (b name)

none-alike : (a b : Bytes → Option (InputValue S)) → a ≡ (λ name. None) → b ≡ (λ name. None) → named_alike a b
none-alike a b p q = subst (λ f. named_alike f b) (sym p) (subst (λ f. named_alike (λ name. None) f) (sym q) (λ name. tt))

same-field : (v w : InputValue S) → Same v w → named_alike (input_field v) (input_field w)
same-field v w same_null = none-alike _ _ (ap field_layer value.outs-Null) (ap field_layer value.outs-Null)
same-field v w (same_scalar a b h) = none-alike _ _ (ap field_layer (value.outs-Scalar a)) (ap field_layer (value.outs-Scalar b))
same-field v w (same_enum name) = none-alike _ _ (ap field_layer (value.outs-Enum name)) (ap field_layer (value.outs-Enum name))
same-field v w (same_variable name) = none-alike _ _ (ap field_layer (value.outs-Variable name)) (ap field_layer (value.outs-Variable name))
same-field v w (same_list xs ys h) = none-alike _ _ (ap field_layer (value.outs-List xs)) (ap field_layer (value.outs-List ys))
same-field v w (same_object ps qs h) =
    subst (λ f. named_alike f (input_field (value.Object qs))) (sym (ap field_layer (value.outs-Object ps)))
    (subst (λ f. named_alike (field_named ps) f) (sym (ap field_layer (value.outs-Object qs))) (same-fields ps qs h))

-- ---- at each path

same-or-absent : (reads : InputValue S → Option Input) → ((v w : InputValue S) → Same v w → reads v ≡ reads w)
    → (u v : Option (InputValue S)) → SameGiven ghosts.eq u v → option_and_then reads u ≡ option_and_then reads v
same-or-absent reads alike None None h = refl
same-or-absent reads alike (Some v) (Some w) h = alike v w h
same-or-absent reads alike None (Some w) h = absurd h
same-or-absent reads alike (Some v) None h = absurd h

same-within : (path : List Bytes) (v w : InputValue S) → Same v w → input_at path v ≡ input_at path w
same-within [] v w h = ap Some (same-input v w h)
same-within (name ∷ path) v w h = same-or-absent (input_at path) (same-within path) (input_field v name) (input_field w name) (same-field v w h name)

same-at : (a b : Bytes → Option (InputValue S)) → named_alike a b → (path : List Bytes) → inputs_named a path ≡ inputs_named b path
same-at a b h [] = refl
same-at a b h (name ∷ path) = same-or-absent (input_at path) (same-within path) (a name) (b name) (h name)

-- in whichever order they stand
pub same-inputs : (a b : Given S) → SameArguments ghosts.eq a b → inputs_of a ≡ inputs_of b
same-inputs a b h = λ i. λ path. same-at (value_named a) (value_named b) h path i

-- and in one order
pub same-in-order : (a b : Given S) → SameInOrder ghosts.eq a b → inputs_of a ≡ inputs_of b
same-in-order a b h = same-inputs a b (in-order-same ghosts.eq a b h)

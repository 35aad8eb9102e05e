-- Literals that are the same become the same once variables have their values.
use Rattle.std.proofs.Common.{◌≡◌, refl, sym, ◌∙◌, ap, subst, Bool, true, false, List, [], ◌∷◌, map, Option, Some, None}
use Rattle.std.proofs.Common.{cond}
use Rattle.std.specs.Cmp.{IsEquivalence}
use Rattle.std.specs.List.{cons_option, filter, filter_map}
use Rattle.std.specs.Option.{option_map}
use Rattle.std.specs.Str.{bytes_eq}
use Rattle.graphql_names.specs.Names.{Bytes}
use Rattle.graphql_values.specs.InputValues.{Placed, Pair}
use Rattle.graphql_values.specs.SameValue.{SameValue, same_null, same_scalar, same_enum, same_variable, same_list}
use Rattle.graphql_values.specs.SameValue.{same_object, SameItems, no_items, more_items, values_named}
use Rattle.graphql_values.specs.Variables.{given_pair}
use Rattle.graphql_values.specs.declared.input_value.InputValue.{InputValue}
use Rattle.graphql_values.specs.declared.input_value.InputValue.TheVariants as value
use Rattle.graphql_values.proofs.InputValueEquations.{fold_null, fold_scalar, fold_enum, fold_variable}
use Rattle.graphql_values.proofs.SameValueLaws.{same_as_itself}
use Rattle.graphql_written_out.specs.Filled.{filled, filled_item, filled_layer, filled_pair, value_or_null}
use Rattle.graphql_written_out.proofs.FilledEquations.{filled_list, filled_object}
use Rattle.graphql_arguments.specs.SameArguments.{SameGiven}

module _ {S : Type 0} (eq : S → S → Bool) (laws : IsEquivalence eq) (given : Bytes → Option (InputValue S)) where
  abbrev Same : Option (InputValue S) → Option (InputValue S) → Type 0
  Same = SameGiven eq

  -- what is given is the same as itself
  pub given-itself : (o : Option (InputValue S)) → Same o o
  given-itself None = tt
  given-itself (Some v) = same_as_itself eq laws v

  or-null : (a b : Option (InputValue S)) → Same a b → SameValue S eq (value_or_null a) (value_or_null b)
  or-null None None s = same_null
  or-null None (Some w) s = absurd s
  or-null (Some v) None s = absurd s
  or-null (Some v) (Some w) s = s

  -- ---- the values of an object's fields

  abbrev at_place : Placed (InputValue S) → Option (InputValue S) → Option (Placed (InputValue S))
  at_place x = option_map (λ v. record { item = v; span = x.span })

  abbrev filled_placed : Placed (InputValue S) → Option (Placed (InputValue S))
  filled_placed x = at_place x (filled given x.item)

  abbrev named_if : Bool → Pair (InputValue S) → List (Pair (InputValue S)) → List (Placed (InputValue S))
  named_if q p ps = map (λ r. r.1) (cond q (p ∷ ps) ps)

  field-under : (p : Pair (InputValue S)) (name : Bytes) (q : Bool) → bytes_eq p.0.item name ≡ q
      → (o : Option (InputValue S)) → filled given p.1.item ≡ o → (rest ps : List (Pair (InputValue S)))
      → values_named name rest ≡ filter_map filled_placed (map (λ r. r.1) ps)
      → values_named name (cons_option (given_pair (p.0, record { item = o; span = p.1.span })) rest)
      ≡ filter_map filled_placed (named_if q p ps)
  field-under p name true e None f rest ps ih =
      ih ∙ sym (ap (λ z. cons_option (at_place p.1 z) (filter_map filled_placed (map (λ r. r.1) ps))) f)
  field-under p name true e (Some v) f rest ps ih =
      ap (λ b. named_if b (p.0, record { item = v; span = p.1.span }) (filter (λ r. bytes_eq r.0.item name) rest)) e
      ∙ ap (λ zs. record { item = v; span = p.1.span } ∷ zs) ih
      ∙ sym (ap (λ z. cons_option (at_place p.1 z) (filter_map filled_placed (map (λ r. r.1) ps))) f)
  field-under p name false e None f rest ps ih = ih
  field-under p name false e (Some v) f rest ps ih =
      ap (λ b. named_if b (p.0, record { item = v; span = p.1.span }) (filter (λ r. bytes_eq r.0.item name) rest)) e
      ∙ ih

  fields-under : (name : Bytes) (ps : List (Pair (InputValue S)))
      → values_named name (filter_map (filled_pair given) ps) ≡ filter_map filled_placed (values_named name ps)
  fields-under name [] = refl
  fields-under name (p ∷ ps) =
      field-under p name (bytes_eq p.0.item name) refl (filled given p.1.item) refl (filter_map (filled_pair given) ps)
      (filter (λ r. bytes_eq r.0.item name) ps) (fields-under name ps)

  put : (x y : Placed (InputValue S)) (a b : Option (InputValue S)) (us vs : List (Placed (InputValue S))) → Same a b
      → SameItems S eq us vs → SameItems S eq (cons_option (at_place x a) us) (cons_option (at_place y b) vs)
  put x y None None us vs s rest = rest
  put x y None (Some w) us vs s rest = absurd s
  put x y (Some v) None us vs s rest = absurd s
  put x y (Some v) (Some w) us vs s rest =
      more_items (record { item = v; span = x.span }) (record { item = w; span = y.span }) us vs s rest

  -- ---- values

  by-both : (a b c d : Option (InputValue S)) → a ≡ c → b ≡ d → Same c d → Same a b
  by-both a b c d e f s = subst (λ z. Same z b) (sym e) (subst (λ z. Same c z) (sym f) s)

  mutual
    pub filled-same : (v w : InputValue S) → SameValue S eq v w → Same (filled given v) (filled given w)
    filled-same _ _ same_null =
        by-both _ _ (Some value.Null) (Some value.Null) (fold_null (filled_layer given))
        (fold_null (filled_layer given)) same_null
    filled-same _ _ (same_scalar a b h) =
        by-both _ _ (Some (value.Scalar a)) (Some (value.Scalar b)) (fold_scalar (filled_layer given) a)
        (fold_scalar (filled_layer given) b) (same_scalar a b h)
    filled-same _ _ (same_enum n) =
        by-both _ _ (Some (value.Enum n)) (Some (value.Enum n)) (fold_enum (filled_layer given) n)
        (fold_enum (filled_layer given) n) (same_enum n)
    filled-same _ _ (same_variable n) =
        by-both _ _ (given n) (given n) (fold_variable (filled_layer given) n) (fold_variable (filled_layer given) n)
        (given-itself (given n))
    filled-same _ _ (same_list xs ys h) =
        by-both _ _ (Some (value.List (map (filled_item given) xs))) (Some (value.List (map (filled_item given) ys)))
        (filled_list given xs) (filled_list given ys)
        (same_list (map (filled_item given) xs) (map (filled_item given) ys) (items-same xs ys h))
    filled-same _ _ (same_object ps qs h) =
        by-both _ _ (Some (value.Object (filter_map (filled_pair given) ps)))
        (Some (value.Object (filter_map (filled_pair given) qs))) (filled_object given ps) (filled_object given qs)
        (same_object (filter_map (filled_pair given) ps) (filter_map (filled_pair given) qs)
        (λ name. subst (λ us. SameItems S eq us (values_named name (filter_map (filled_pair given) qs)))
        (sym (fields-under name ps))
        (subst (λ vs. SameItems S eq (filter_map filled_placed (values_named name ps)) vs) (sym (fields-under name qs))
        (placed-same (values_named name ps) (values_named name qs) (h name)))))

    items-same : (xs ys : List (Placed (InputValue S))) → SameItems S eq xs ys
        → SameItems S eq (map (filled_item given) xs) (map (filled_item given) ys)
    items-same _ _ no_items = no_items
    items-same _ _ (more_items x y xs ys s rest) =
        more_items (filled_item given x) (filled_item given y) (map (filled_item given) xs) (map (filled_item given) ys)
        (or-null (filled given x.item) (filled given y.item) (filled-same x.item y.item s)) (items-same xs ys rest)

    placed-same : (xs ys : List (Placed (InputValue S))) → SameItems S eq xs ys
        → SameItems S eq (filter_map filled_placed xs) (filter_map filled_placed ys)
    placed-same _ _ no_items = no_items
    placed-same _ _ (more_items x y xs ys s rest) =
        put x y (filled given x.item) (filled given y.item) (filter_map filled_placed xs) (filter_map filled_placed ys)
        (filled-same x.item y.item s) (placed-same xs ys rest)

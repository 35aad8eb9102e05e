-- What a table answers is the same where argument values are the same under each name; what it sets and leaves, where they are the same in one order.
use Rattle.std.proofs.Common.{◌≡◌, ℕ, Bool, true, false, List, [], ◌∷◌, Option, Some, None, Result, Ok, Err, codes, bytes_eq, if◌then◌else◌, refl, sym, ap, ◌∙◌}
use Rattle.std.specs.Option.{option_map_or, option_and_then}
use Rattle.std.specs.Prelude.{slice_get}
use Rattle.graphql_text.specs.Memory.{◌>>=◌}
use Rattle.graphql_names.specs.Names.{Bytes}
use Rattle.graphql_scalars.specs.declared.default_scalar.DefaultScalarValue.{DefaultScalarValue}
use Rattle.graphql_values.specs.InputValues.{Placed, Pair}
use Rattle.graphql_values.specs.SameValue.{SameValue, same_null, same_scalar, same_enum, same_variable, same_list, same_object}
use Rattle.graphql_values.specs.declared.input_value.InputValue.{InputValue, out-InputValue, out-roll-InputValue}
use Rattle.graphql_values.specs.declared.input_value.InputValue.TheOpen.{InputValue-F}
use Rattle.graphql_values.specs.declared.input_value.InputValue.TheVariants as value
use Rattle.graphql_output_values.specs.Objects.{with_field}
use Rattle.graphql_arguments.specs.ArgumentValues.{NamedValue, value_named}
use Rattle.graphql_arguments.specs.SameArguments.{SameArguments, SameGiven, SameInOrder}
use Rattle.graphql_arguments.proofs.SameOrders.{in-order-same}
use Rattle.graphql_field_results.specs.declared.resolved.Resolved.TheVariants as resolved
use Rattle.graphql_records.specs.Answers.{answer, value_in_record, is_possible, known_field, record_at, value_answer, links_asked}
use Rattle.graphql_records.specs.Asked.{Asked, scalar_layer, scalar_of, id_of_scalar, int_of_scalar, id_asked, first_asked}
use Rattle.graphql_records.specs.Fields.{cut_to}
use Rattle.graphql_records.specs.Laws.{IsExact}
use Rattle.graphql_records.specs.Settings.{Fault, Fields, set_layer, set_by, set_one, set_all, is_settable, no_scalar_field, misfit_record, fields_set_at, place_asked, root_answer, table_after, after_setting, node_set}
use Rattle.graphql_records.specs.Tables.{Entries, Table, record_index}
use Rattle.graphql_records.specs.declared.field_value.FieldValue.{FieldValue}
use Rattle.graphql_records.specs.declared.record.Record.{Record}
use Rattle.graphql_records.specs.declared.table_node.TableNode.{TableNode}
use Rattle.graphql_records.specs.declared.table_type.TableType.{TableType}

abbrev S : Type 0
S = DefaultScalarValue

abbrev out : InputValue S → InputValue-F S (InputValue S)
out = out-InputValue S

out_list : (xs : List (Placed (InputValue S))) → out (value.List xs) ≡ InputValue-F.List xs
out_list xs = ap out (sym (value.rolls-List xs)) ∙ out-roll-InputValue S (InputValue-F.List xs)

out_object : (ps : List (Pair (InputValue S))) → out (value.Object ps) ≡ InputValue-F.Object ps
out_object ps = ap out (sym (value.rolls-Object ps)) ∙ out-roll-InputValue S (InputValue-F.Object ps)

module _ (eq : S → S → Bool) (exact : IsExact eq) where
  -- what is read of a value's form, and of no part of a list or an object, is the same of the same values
  module _ {A : Type 0} (read : InputValue-F S (InputValue S) → A)
      (lists : (xs ys : List (Placed (InputValue S))) → read (InputValue-F.List xs) ≡ read (InputValue-F.List ys))
      (objects : (ps qs : List (Pair (InputValue S))) → read (InputValue-F.Object ps) ≡ read (InputValue-F.Object qs)) where
    by_form : (v w : InputValue S) → SameValue S eq v w → read (out v) ≡ read (out w)
    by_form _ _ same_null = refl
    by_form _ _ (same_scalar a b e) = ap (λ s. read (out (value.Scalar s))) (exact a b e)
    by_form _ _ (same_enum name) = refl
    by_form _ _ (same_variable name) = refl
    by_form _ _ (same_list xs ys h) = ap read (out_list xs) ∙ lists xs ys ∙ sym (ap read (out_list ys))
    by_form _ _ (same_object ps qs h) = ap read (out_object ps) ∙ objects ps qs ∙ sym (ap read (out_object qs))

  same_scalars : (v w : InputValue S) → SameValue S eq v w → scalar_of v ≡ scalar_of w
  same_scalars = by_form scalar_layer (λ xs ys. refl) (λ ps qs. refl)

  same_settings : (v w : InputValue S) → SameValue S eq v w → set_by v ≡ set_by w
  same_settings = by_form set_layer (λ xs ys. refl) (λ ps qs. refl)

  -- the scalar that what is given under a name is
  scalars_given : (u v : Option (InputValue S)) → SameGiven eq u v → option_and_then scalar_of u ≡ option_and_then scalar_of v
  scalars_given None None same = refl
  scalars_given (Some v) (Some w) same = same_scalars v w same
  scalars_given None (Some w) same = absurd same
  scalars_given (Some v) None same = absurd same

  same_named : (name : Bytes) (a b : Asked) → SameArguments eq a b
      → option_and_then scalar_of (value_named a name) ≡ option_and_then scalar_of (value_named b name)
  same_named name a b same = scalars_given (value_named a name) (value_named b name) (same name)

  same_id : (a b : Asked) → SameArguments eq a b → id_asked a ≡ id_asked b
  same_id a b same = ap (option_and_then id_of_scalar) (same_named (codes "id") a b same)

  same_first : (a b : Asked) → SameArguments eq a b → first_asked a ≡ first_asked b
  same_first a b same = ap (option_and_then int_of_scalar) (same_named (codes "first") a b same)

  -- a value's answer
  same_value : (records : Entries) (is_leaf : Bool) (a b : Asked) (v : FieldValue) → id_asked a ≡ id_asked b
      → value_answer records is_leaf a v ≡ value_answer records is_leaf b v
  same_value records true a b v ids = refl
  same_value records false a b v ids = ap (λ id. links_asked records id v) ids

  pub answers_respect : (types : List TableType) (table : Table) (n : TableNode) (field : Bytes) (a b : Asked)
      → SameArguments eq a b → answer types table n field a ≡ answer types table n field b
  answers_respect types table n field a b same =
      let firsts = same_first a b same in
      let values : (is_leaf : Bool) (v : FieldValue) → value_answer table.entries is_leaf a v ≡ value_answer table.entries is_leaf b v =
      λ is_leaf v. same_value table.entries is_leaf a b v (same_id a b same) in
      λ i. option_map_or (λ (r : Bytes × Record).
      option_map_or (λ f. cut_to (firsts i) (values f.is_leaf (value_in_record r.0 r.1 field) i)) (known_field types r.1.type_name field) resolved.Null)
      (record_at table n) resolved.Null

  module _ (types : List TableType) where
    -- what one argument sets, by what its value sets
    abbrev set_if : Bytes → Bytes → Option FieldValue → Fields → Result Fields Fault
    set_if object name set fields =
        if bytes_eq name (codes "id") then Ok fields else
        option_map_or (λ x. Ok (with_field fields name x)) (if is_settable types object name then set else None) (Err (no_scalar_field object name))

    same_one : (object : Bytes) (x y : NamedValue S) (fields : Fields) → x.0 ≡ y.0 → SameValue S eq x.1.item y.1.item
        → set_one types object x.0 x.1.item fields ≡ set_one types object y.0 y.1.item fields
    same_one object x y fields name same = λ i. set_if object (name i) (same_settings x.1.item y.1.item same i) fields

    same_after : (r : Result Fields Fault) (f g : Fields → Result Fields Fault) → ((fields : Fields) → f fields ≡ g fields) → r >>= f ≡ r >>= g
    same_after (Ok fields) f g h = h fields
    same_after (Err e) f g h = refl

    same_all : (object : Bytes) (a b : Asked) → SameInOrder eq a b → (fields : Fields) → set_all types object a fields ≡ set_all types object b fields
    same_all object [] [] same fields = refl
    same_all object [] (y ∷ ys) same fields = absurd same
    same_all object (x ∷ xs) [] same fields = absurd same
    same_all object (x ∷ xs) (y ∷ ys) same fields =
        ap (λ r. r >>= set_all types object xs) (same_one object x y fields same.0 same.1)
        ∙ same_after (set_one types object y.0 y.1.item fields) (set_all types object xs) (set_all types object ys) (same_all object xs ys same.2)

    same_fields : (records : Entries) (of_type : Bytes) (a b : Asked) → SameInOrder eq a b → (place : ℕ)
        → fields_set_at types records of_type a place ≡ fields_set_at types records of_type b place
    same_fields records of_type a b same place =
        let set : (r : Bytes × Record) → set_all types r.1.type_name a r.1.fields ≡ set_all types r.1.type_name b r.1.fields =
        λ r. same_all r.1.type_name a b same r.1.fields in
        λ i. option_map_or (λ (r : Bytes × Record).
        (if is_possible types of_type r.1.type_name then set r i else Err (misfit_record r.0 of_type)) >>= λ fields. Ok (Some fields))
        (slice_get records place) (Ok None)

    same_place : (records : Entries) (a b : Asked) → SameInOrder eq a b → place_asked records a ≡ place_asked records b
    same_place records a b same = ap (option_and_then (record_index records)) (same_id a b (in-order-same eq a b same))

    pub root_respects : (table : Table) (of_type : Bytes) (a b : Asked) → SameInOrder eq a b → root_answer types table of_type a ≡ root_answer types table of_type b
    root_respects table of_type a b same =
        let fields : (place : ℕ) → fields_set_at types table.entries of_type a place ≡ fields_set_at types table.entries of_type b place = same_fields table.entries of_type a b same in
        let place = same_place table.entries a b same in
        λ i. option_map_or (λ p. fields p i >>= λ set. Ok (node_set p set)) (place i) (Ok resolved.Null)

    pub after_respects : (table : Table) (of_type : Bytes) (a b : Asked) → SameInOrder eq a b → table_after types table of_type a ≡ table_after types table of_type b
    after_respects table of_type a b same =
        let fields : (place : ℕ) → fields_set_at types table.entries of_type a place ≡ fields_set_at types table.entries of_type b place = same_fields table.entries of_type a b same in
        let place = same_place table.entries a b same in
        λ i. option_map_or (λ p. after_setting types table p (fields p i)) (place i) table

-- What a value or an object ends as once a `&mut` into it ends.
use Rattle.std.specs.Prelude.{ℕ, zero, suc, List, [], ◌∷◌, Option}
use Rattle.std.specs.Borrow.{Lends, LendsIf, MutBor, Fml, RattleType, follows}
use Rattle.std.specs.Map.{set_value}
use Rattle.std.specs.Str.{bytes_eq}
use denote.Array.{Array}
use denote.Struct.Tuple.{Tuple}
use Rattle.graphql_text.specs.Lending.{with_items}
use Rattle.graphql_output_values.specs.FieldsLent.{fields_name}
use Rattle.graphql_output_values.specs.declared.object.Object.{Object}
use Rattle.graphql_output_values.specs.declared.object.fields_mut.FieldsMut.{FieldsMut}
use Rattle.graphql_output_values.specs.declared.value.Value.{Value}
use Rattle.graphql_output_values.specs.declared.value.Value.TheVariants as value
use Rattle.graphql_output_values.specs.Objects.{Pair}
use Rattle.graphql_output_values.specs.contracts.key.Key as key
use Rattle.graphql_output_values.specs.contracts.object.Object as object
use Rattle.graphql_output_values.specs.contracts.value.Value as whole

-- the fields with this value in the field at a place
abbrev pub set_value_at : {A : Type 0} → ℕ → A → List (Pair A) → List (Pair A)
set_value_at place value [] = []
set_value_at zero value (field ∷ fields) = (field.0, value) ∷ fields
set_value_at (suc place) value (field ∷ fields) = field ∷ set_value_at place value fields

module _ (S : RattleType) where
  -- the value ends as the object that is last behind the reference, and stays where there is none
  abbrev pub LendsObject : MutBor (Value S.Denot) → Option (MutBor (Object S.Denot)) → Fml
  LendsObject v r = LendsIf (whole.the_row S) (object.the_row S) v r value.Object v.now

  -- the object ends with what is last behind the reference as the value of the key, and stays where
  -- there is none
  abbrev pub LendsField : MutBor (Object S.Denot) → List ℕ → Option (MutBor (Value S.Denot)) → Fml
  LendsField o key r = LendsIf (object.the_row S) (whole.the_row S) o r
      (λ w. record { fields = set_value (bytes_eq key) o.now.fields w }) o.now

  -- the object ends with what is last behind the reference as the value of the field at this place
  abbrev pub LendsPlace : MutBor (Object S.Denot) → ℕ → MutBor (Value S.Denot) → Fml
  LendsPlace o place r = Lends (object.the_row S) (whole.the_row S) o r
      (λ w. record { fields = set_value_at place w o.now.fields })

  -- the object ends with the fields as what lends their values leaves them
  abbrev pub LendsFields : MutBor (Object S.Denot) → FieldsMut S.Denot → Fml
  LendsFields o rest = follows (object.the_row S)
      (Array (Tuple (key.the_row ∷ whole.the_row S ∷ [])) 0) o.ghost_name (fields_name rest)
      (λ ws. record { fields = with_items o.now.fields ws })

-- What the test of writable values decides.
use Rattle.std.proofs.Common.{◌≡◌, ◌≢◌, ◌↔◌, IsTrue, ℕ, ℤ, pos, negsuc, Bool, true, false, not, ◌&&◌, ◌||◌, ◌==◌, List, [], ◌∷◌, refl, sym, subst, ap, ◌∙◌, arith}
use Rattle.std.specs.Prelude.{codes, FitsSigned}
use Rattle.std.specs.Bool.{Decides}
use Rattle.std.specs.Char.{is_ascii_alphabetic}
use Rattle.std.specs.List.{list_all, All}
use Rattle.std.specs.Str.{chars, bytes_eq, IsUtf8, is_utf8}
use Rattle.std.proofs.lemmas.Bool.{and_parts}
use Rattle.std.proofs.lemmas.Bool.Decides.{nat_tests, same_from_decides}
use Rattle.std.proofs.lemmas.List.Elements.{All-head, All-tail}
use Rattle.std.proofs.lemmas.List.Folds.{list_all-map}
use Rattle.std.proofs.lemmas.Slice.Eq.{bytes_eq-Decides}
use Rattle.std.proofs.lemmas.Str.{IsUtf8-from_is_utf8, is_utf8-from_IsUtf8, encodes-chars, encodes-IsAscii, chars-IsAscii}
use mir.Syntax.{w32}
use Rattle.graphql_text.specs.Grammar.{Each, IsName, is_string_character}
use Rattle.graphql_text.specs.Characters.{continues_name}
use Rattle.graphql_scalars.specs.declared.default_scalar.DefaultScalarValue.{DefaultScalarValue}
use Rattle.graphql_scalars.specs.declared.default_scalar.DefaultScalarValue.TheVariants as scalar
use Rattle.graphql_values.specs.declared.input_value.InputValue.TheVariants as v
use Rattle.graphql_values.specs.InputValues.{Placed, Pair}
use Rattle.graphql_values.proofs.InputValueEquations.{on_item, on_value, fold_null, fold_scalar, fold_enum, fold_variable, fold_list, fold_object}
use Rattle.graphql_values.proofs.InputValueInduction.{value_ind}
use Rattle.graphql_plain_text.specs.Writable.{Value, IsPlain, IsEnum, IsWritable, null, integer, string, boolean, enum, variable, list, object, AreWritable, no_items, more_items, FieldsAreWritable, no_fields, more_fields}
use Rattle.graphql_plain_text.specs.WritableTest.{name_test, enum_test, plain_test, fits_test, scalar_test, test_layer, writable}
use Rattle.graphql_plain_text.proofs.Words.{name_is_ascii}

both : (a b : Bool) → a ≡ true → b ≡ true → (a && b) ≡ true
both a b p q = cc (ap (λ t. t && b) p)

-- ---- names and texts

each_passes : (p : ℕ → Bool) (cs : List ℕ) → list_all p cs ≡ true → Each p cs
each_passes p [] h = tt
each_passes p (c ∷ cs) h = let a = and_parts (p c) (list_all p cs) h in (a.0, each_passes p cs a.1)

passes_each : (p : ℕ → Bool) (cs : List ℕ) → Each p cs → list_all p cs ≡ true
passes_each p [] h = refl
passes_each p (c ∷ cs) h = both (p c) (list_all p cs) h.0 (passes_each p cs h.1)

pub name_decides : (n : List ℕ) → Decides (name_test n) (IsName n)
name_decides [] = (λ h. cc, λ h. absurd h)
name_decides (c ∷ cs) = (
  λ h. let a = and_parts (c == 95 || is_ascii_alphabetic c) (list_all continues_name cs) h in (a.0, each_passes continues_name cs a.1),
  λ h. both (c == 95 || is_ascii_alphabetic c) (list_all continues_name cs) h.0 (passes_each continues_name cs h.1),
)

-- the bytes of a name are its characters
name_from_chars : (n : List ℕ) → IsUtf8 n → IsName (chars n) → IsName n
name_from_chars n utf8 h = subst IsName (sym (encodes-IsAscii (chars n) (name_is_ascii (chars n) h)) ∙ encodes-chars n utf8) h

name_to_chars : (n : List ℕ) → IsName n → IsName (chars n)
name_to_chars n h = subst IsName (sym (chars-IsAscii n (name_is_ascii n h))) h

pub name_test_is : (n : List ℕ) (b : Bool) → IsUtf8 n → IsTrue b ↔ IsName (chars n) → b ≡ name_test n
name_test_is n b utf8 h = same_from_decides b (name_test n) (λ e. name_from_chars n utf8 (h.0 e), λ name. h.1 (name_to_chars n name)) (name_decides n)

-- ---- the test of each form

module _ (is_const : Bool) where
  pub null_test : writable is_const v.Null ≡ true
  null_test = fold_null (test_layer is_const)

  pub scalar_tested : (s : DefaultScalarValue) → writable is_const (v.Scalar s) ≡ scalar_test s
  scalar_tested s = fold_scalar (test_layer is_const) s

  pub enum_tested : (n : List ℕ) → writable is_const (v.Enum n) ≡ enum_test n
  enum_tested n = fold_enum (test_layer is_const) n

  pub variable_tested : (n : List ℕ) → writable is_const (v.Variable n) ≡ (not is_const && name_test n)
  variable_tested n = fold_variable (test_layer is_const) n

  abbrev pub item_test : Placed Value → Bool
  item_test x = writable is_const x.item

  abbrev pub pair_test : Pair Value → Bool
  pair_test p = name_test p.0.item && writable is_const p.1.item

  pub list_tested : (xs : List (Placed Value)) → writable is_const (v.List xs) ≡ list_all item_test xs
  list_tested xs = fold_list (test_layer is_const) xs ∙ list_all-map (λ x. x.item) (on_item (writable is_const)) xs

  pub object_tested : (ps : List (Pair Value)) → writable is_const (v.Object ps) ≡ list_all pair_test ps
  object_tested ps = fold_object (test_layer is_const) ps ∙ list_all-map (λ p. name_test p.0.item && p.1.item) (on_value (writable is_const)) ps

pub ruleset tests_by_form = (null_test, scalar_tested, enum_tested, variable_tested, list_tested, object_tested)

-- ---- the test is that of writable values

plain_from : (text : List ℕ) → plain_test text ≡ true → IsPlain text
plain_from text h = let a = and_parts (is_utf8 text) (list_all is_string_character (chars text)) h in record { utf8 = IsUtf8-from_is_utf8 text a.0; plain = each_passes is_string_character (chars text) a.1 }

plain_to : (text : List ℕ) → IsPlain text → plain_test text ≡ true
plain_to text h = both (is_utf8 text) (list_all is_string_character (chars text)) (is_utf8-from_IsUtf8 text h.utf8) (passes_each is_string_character (chars text) h.plain)

fits_from : (n : ℤ) → fits_test n ≡ true → FitsSigned w32 n
fits_from (pos n) h = record { sfits = grind (arith, nat_tests) }
fits_from (negsuc n) h = record { sfits = grind (arith, nat_tests) }

fits_to : (n : ℤ) → FitsSigned w32 n → fits_test n ≡ true
fits_to (pos n) h = let b = h.sfits in grind (arith, nat_tests)
fits_to (negsuc n) h = let b = h.sfits in grind (arith, nat_tests)

not_text : (name word : List ℕ) → not (bytes_eq name word) ≡ true → name ≢ word
not_text name word h same = let e = (bytes_eq-Decides name word).1 same in cc (ap not e)

text_not : (b : Bool) (name word : List ℕ) → bytes_eq name word ≡ b → name ≢ word → not b ≡ true
text_not true name word e h = absurd (h ((bytes_eq-Decides name word).0 e))
text_not false name word e h = refl

enum_from : (n : List ℕ) → enum_test n ≡ true → IsEnum n
enum_from n h =
    let a = and_parts _ _ h in
    let b = and_parts _ _ a.0 in
    let c = and_parts _ _ b.0 in
    record { is = (name_decides n).0 c.0; not_true = not_text n (codes "true") c.1; not_false = not_text n (codes "false") b.1; not_null = not_text n (codes "null") a.1 }

enum_to : (n : List ℕ) → IsEnum n → enum_test n ≡ true
enum_to n h =
    both _ _ (both _ _ (both _ _ ((name_decides n).1 h.is) (text_not (bytes_eq n (codes "true")) n (codes "true") refl h.not_true)) (text_not (bytes_eq n (codes "false")) n (codes "false") refl h.not_false))
    (text_not (bytes_eq n (codes "null")) n (codes "null") refl h.not_null)

-- a text whose characters have all passed
pub plain_passed : (text rest : List ℕ) → IsUtf8 text → chars rest ≡ [] → list_all is_string_character (chars rest) ≡ list_all is_string_character (chars text) → true ≡ plain_test text
plain_passed text rest utf8 end same = sym (both (is_utf8 text) (list_all is_string_character (chars text)) (is_utf8-from_IsUtf8 text utf8) (sym same ∙ ap (list_all is_string_character) end))

scalar_from : (is_const : Bool) (x : DefaultScalarValue) → scalar_test x ≡ true → IsWritable is_const (v.Scalar x)
scalar_from is_const (scalar.Int n) h = integer n (fits_from n h)
scalar_from is_const (scalar.String text) h = string text (plain_from text h)
scalar_from is_const (scalar.Boolean b) h = boolean b

not_from : (b : Bool) → not b ≡ true → b ≡ false
not_from true h = cc
not_from false h = refl

module _ (is_const : Bool) where
  abbrev Passes : Value → Type 0
  Passes x = writable is_const x ≡ true → IsWritable is_const x

  items_from : (xs : List (Placed Value)) → All (λ (x : Placed Value). Passes x.item) xs → list_all (item_test is_const) xs ≡ true → AreWritable is_const xs
  items_from [] all h = no_items
  items_from (x ∷ xs) all h =
      let a = and_parts (item_test is_const x) (list_all (item_test is_const) xs) h in
      more_items x xs (All-head (λ (x : Placed Value). Passes x.item) x xs all a.0) (items_from xs (All-tail (λ (x : Placed Value). Passes x.item) x xs all) a.1)

  fields_from : (ps : List (Pair Value)) → All (λ (p : Pair Value). Passes p.1.item) ps → list_all (pair_test is_const) ps ≡ true → FieldsAreWritable is_const ps
  fields_from [] all h = no_fields
  fields_from (p ∷ ps) all h =
      let a = and_parts (pair_test is_const p) (list_all (pair_test is_const) ps) h in
      let b = and_parts (name_test p.0.item) (writable is_const p.1.item) a.0 in
      more_fields p ps ((name_decides p.0.item).0 b.0) (All-head (λ (p : Pair Value). Passes p.1.item) p ps all b.1) (fields_from ps (All-tail (λ (p : Pair Value). Passes p.1.item) p ps all) a.1)

  pub writable_from : (x : Value) → Passes x
  writable_from = value_ind Passes
      (λ h. null)
      (λ s h. scalar_from is_const s (sym (scalar_tested is_const s) ∙ h))
      (λ n h. enum n (enum_from n (sym (enum_tested is_const n) ∙ h)))
      (λ n h. let a = and_parts (not is_const) (name_test n) (sym (variable_tested is_const n) ∙ h) in variable n (not_from is_const a.0) ((name_decides n).0 a.1))
      (λ xs all h. list xs (items_from xs all (sym (list_tested is_const xs) ∙ h)))
      (λ ps all h. object ps (fields_from ps all (sym (object_tested is_const ps) ∙ h)))

  mutual
    pub writable_to : (x : Value) → IsWritable is_const x → writable is_const x ≡ true
    writable_to _ null = null_test is_const
    writable_to _ (integer n fits) = scalar_tested is_const (scalar.Int n) ∙ fits_to n fits
    writable_to _ (string text h) = scalar_tested is_const (scalar.String text) ∙ plain_to text h
    writable_to _ (boolean b) = scalar_tested is_const (scalar.Boolean b)
    writable_to _ (enum n h) = enum_tested is_const n ∙ enum_to n h
    writable_to _ (variable n may h) = variable_tested is_const n ∙ both (not is_const) (name_test n) (ap not may) ((name_decides n).1 h)
    writable_to _ (list xs h) = list_tested is_const xs ∙ items_to xs h
    writable_to _ (object ps h) = object_tested is_const ps ∙ fields_to ps h

    items_to : (xs : List (Placed Value)) → AreWritable is_const xs → list_all (item_test is_const) xs ≡ true
    items_to _ no_items = refl
    items_to _ (more_items x xs h hs) = both (item_test is_const x) (list_all (item_test is_const) xs) (writable_to x.item h) (items_to xs hs)

    fields_to : (ps : List (Pair Value)) → FieldsAreWritable is_const ps → list_all (pair_test is_const) ps ≡ true
    fields_to _ no_fields = refl
    fields_to _ (more_fields p ps name h hs) =
        both (pair_test is_const p) (list_all (pair_test is_const) ps) (both (name_test p.0.item) (writable is_const p.1.item) ((name_decides p.0.item).1 name) (writable_to p.1.item h)) (fields_to ps hs)

  pub writable_is : (b : Bool) (x : Value) → b ≡ writable is_const x → IsTrue b ↔ IsWritable is_const x
  writable_is b x same = (λ h. writable_from x (sym same ∙ h), λ h. same ∙ writable_to x h)

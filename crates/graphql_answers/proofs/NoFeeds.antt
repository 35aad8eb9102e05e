-- No line feed stands in JSON.
use Rattle.std.proofs.Common.{◌≡◌, ℕ, ℤ, pos, negsuc, zero, suc, ◌/◌, ◌%◌, Bool, true, false, cond, nat_lt, ◌==◌, List, [], ◌∷◌, ◌++◌, map, codes, get_or, refl, sym, subst, ◌∙◌, arith}
use Rattle.std.specs.Fmt.{decimal, signed_decimal, digits, digits_onto, digit_glyph}
use Rattle.std.specs.List.{All, list_any, flat_map}
use Rattle.std.proofs.lemmas.Bool.{or_from}
use Rattle.std.proofs.lemmas.Bool.Decides.{nat_tests}
use Rattle.std.proofs.lemmas.List.Elements.{All-head, All-tail, All-map}
use Rattle.std.proofs.lemmas.List.Folds.{list_any-append}
use Rattle.graphql_names.specs.Names.{Bytes}
use Rattle.graphql_scalars.specs.ScalarAnswers.{ScalarAnswer, integer, boolean, text, as_int, as_bool, as_text}
use Rattle.graphql_output_values.specs.Objects.{Pair}
use Rattle.graphql_output_values.specs.ValueEquations.{fold_null, fold_scalar, fold_list, fold_object}
use Rattle.graphql_output_values.specs.ValueInduction.{value_ind}
use Rattle.graphql_output_values.specs.declared.value.Value.{Value}
use Rattle.graphql_json.specs.Json.{hex_digit, escaped, json_text, joined, member_json, int_or, bool_or, json_text_or_null, json, json_layer, fields_layer}
use Rattle.graphql_json.proofs.JsonSteps.{object_is}

abbrev has_feed : Bytes → Bool
has_feed = list_any (λ b. b == 10)

abbrev HasNoFeed : Bytes → Type 0
HasNoFeed bytes = has_feed bytes ≡ false

no_feed-append : (xs ys : Bytes) → HasNoFeed xs → HasNoFeed ys → HasNoFeed (xs ++ ys)
no_feed-append xs ys left right = list_any-append (λ b. b == 10) xs ys ∙ or_from (has_feed xs) (has_feed ys) left right

no_feed-cond : (test : Bool) (xs ys : Bytes) → HasNoFeed xs → (test ≡ false → HasNoFeed ys) → HasNoFeed (cond test xs ys)
no_feed-cond true xs ys left right = left
no_feed-cond false xs ys left right = right refl

no_feed-hex_digit : (n : ℕ) → (hex_digit n == 10) ≡ false
no_feed-hex_digit n = grind (arith, nat_tests)

no_feed-escaped : (b : ℕ) → HasNoFeed (escaped b)
no_feed-escaped b =
    no_feed-cond (b == 34) _ _ refl (λ quote.
    no_feed-cond (b == 92) _ _ refl (λ backslash.
    no_feed-cond (b == 8) _ _ refl (λ backspace.
    no_feed-cond (b == 12) _ _ refl (λ page.
    no_feed-cond (b == 10) _ _ refl (λ feed.
    no_feed-cond (b == 13) _ _ refl (λ carriage.
    no_feed-cond (b == 9) _ _ refl (λ tab.
    no_feed-cond (nat_lt b 32) _ _ digits (λ plain. or_from (b == 10) false feed refl))))))))
  where
    digits : HasNoFeed (codes "\\u00" ++ hex_digit (b / 16) ∷ hex_digit (b % 16) ∷ [])
    digits = or_from (hex_digit (b / 16) == 10) _ (no_feed-hex_digit (b / 16)) (or_from (hex_digit (b % 16) == 10) false (no_feed-hex_digit (b % 16)) refl)

no_feed-texts : (bytes : Bytes) → HasNoFeed (flat_map escaped bytes)
no_feed-texts [] = refl
no_feed-texts (b ∷ bs) = no_feed-append (escaped b) (flat_map escaped bs) (no_feed-escaped b) (no_feed-texts bs)

no_feed-json_text : (bytes : Bytes) → HasNoFeed (json_text bytes)
no_feed-json_text bytes = no_feed-append (34 ∷ flat_map escaped bytes) (34 ∷ []) (no_feed-texts bytes) refl

no_feed-glyph : (d : ℕ) → (digit_glyph false d == 10) ≡ false
no_feed-glyph d = grind (arith, nat_tests)

no_feed-digits : (k n : ℕ) (acc : Bytes) → HasNoFeed acc → HasNoFeed (digits_onto k 10 false n acc)
no_feed-digits zero n acc e = e
no_feed-digits (suc k) n acc e = no_feed-cond (n / 10 == 0) _ _ digit (λ more. no_feed-digits k (n / 10) (digit_glyph false (n % 10) ∷ acc) digit)
  where
    digit : HasNoFeed (digit_glyph false (n % 10) ∷ acc)
    digit = or_from (digit_glyph false (n % 10) == 10) (has_feed acc) (no_feed-glyph (n % 10)) e

no_feed-decimal : (n : ℕ) → HasNoFeed (decimal n)
unfolding digits
no_feed-decimal n = no_feed-digits 64 n [] refl

no_feed-integer : (z : ℤ) → HasNoFeed (signed_decimal z)
no_feed-integer (pos n) = no_feed-decimal n
no_feed-integer (negsuc n) = no_feed-decimal (suc n)

-- parts, each without a line feed
no_feed-joined : (gap : Bytes) (parts : List Bytes) → HasNoFeed gap → All HasNoFeed parts → HasNoFeed (joined gap parts)
no_feed-joined gap [] g all = refl
no_feed-joined gap (x ∷ xs) g all =
    no_feed-append (gap ++ x) (joined (codes ",") xs) (no_feed-append gap x g (All-head HasNoFeed x xs all)) (no_feed-joined (codes ",") xs refl (All-tail HasNoFeed x xs all))

module _ {S : Type 0} (answer : S → ScalarAnswer) where
  no_feed-answer : (a : ScalarAnswer) → HasNoFeed (int_or answer (as_int a) (bool_or answer (as_bool a) (json_text_or_null answer (as_text a))))
  no_feed-answer (integer n) = no_feed-integer n
  no_feed-answer (boolean true) = refl
  no_feed-answer (boolean false) = refl
  no_feed-answer (text t) = no_feed-json_text t

  pub no_feed-json : (v : Value S) → HasNoFeed (json answer v)
  no_feed-json = value_ind (λ v. HasNoFeed (json answer v))
      (subst HasNoFeed (sym (fold_null (json_layer answer) (fields_layer answer))) refl)
      (λ s. subst HasNoFeed (sym (fold_scalar (json_layer answer) (fields_layer answer) s)) (no_feed-answer (answer s)))
      (λ xs are. subst HasNoFeed (sym (fold_list (json_layer answer) (fields_layer answer) xs))
      (no_feed-append (joined [] (map (json answer) xs)) (93 ∷ []) (no_feed-joined [] (map (json answer) xs) refl (All-map HasNoFeed (json answer) xs are)) refl))
      (λ o are. subst HasNoFeed (sym (fold_object (json_layer answer) (fields_layer answer) o ∙ object_is answer o))
      (no_feed-append (joined [] (map (λ (p : Pair (Value S)). member_json (p.0, json answer p.1)) o.fields)) (125 ∷ [])
      (no_feed-joined [] (map (λ (p : Pair (Value S)). member_json (p.0, json answer p.1)) o.fields) refl
      (All-map HasNoFeed (λ (p : Pair (Value S)). member_json (p.0, json answer p.1)) o.fields
      (λ k d h. no_feed-append (json_text (get_or o.fields k d).0) (58 ∷ json answer (get_or o.fields k d).1) (no_feed-json_text (get_or o.fields k d).0) (are k d h)))) refl))

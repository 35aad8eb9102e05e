-- The outline of a value, and what is read of its JSON.
use Rattle.std.proofs.Common.{◌≡◌, ℕ, ◌≤◌, Bool, true, false, List, [], Option, Some, option_and_then, refl, sym, ap, ◌∙◌, subst, append-nil, arith}
use Rattle.std.proofs.lemmas.List.Elements.{recursion_from_All}
use Rattle.json.specs.Token.{Token}
use Rattle.json.specs.Lex.{tokens}
use Rattle.json.specs.Json as json
use Rattle.json.specs.Tree.{json_tokens}
use Rattle.json.specs.Print.{print, print_from}
use Rattle.json.proofs.Printed.Tokens.{tokens-print}
use Rattle.json.proofs.Printed.Trees.{value-json_tokens, ArePrintable-json_tokens}
use Rattle.serde_json.specs.Data.{Data}
use Rattle.serde_json.specs.Read.{read, of_json, max_depth}
use Rattle.graphql_output_values.specs.declared.object.Object.{Object}
use Rattle.graphql_output_values.specs.declared.value.Value.{Value, fold-Value}
use Rattle.graphql_output_values.specs.declared.value.Value.TheOpen.{Value-F, Object-F}
use Rattle.graphql_output_values.specs.declared.value.Value.TheVariants as value
use Rattle.graphql_output_values.specs.ValueEquations.{fold_null, fold_scalar, fold_list, fold_object, fold_fields}
use Rattle.graphql_output_values.specs.ValueInduction.{value_ind, HoldsOfItems, HoldsOfFields}
use Rattle.graphql_json.specs.Json.{json_layer, fields_layer}
use Rattle.graphql_json.specs.Json as spec
use Rattle.graphql_json.specs.Laws.{nesting_layer, nesting_fields, nesting, fits_layer, fits_fields, fits_32_bits, data_layer, data_fields, data_of_value, JsonReadsBack}
use Rattle.graphql_json.proofs.JsonSteps.{object_is}
use Rattle.graphql_json.proofs.ReadBack.{Keeps, keeps_null, keeps_scalar, keeps_list, keeps_object, KeepsPart, scalar_tree, items_tree, members_tree}
use Rattle.graphql_scalars.specs.ScalarAnswers.{ScalarAnswer, as_int, as_bool, as_text}

-- the same, of equal parts
keeps_same : (text text' : List ℕ) (j j' : json.Json) (d d' : Data) (n n' : ℕ) (fits fits' : Bool) → text' ≡ text → j' ≡ j → d' ≡ d → n' ≡ n → fits' ≡ fits → Keeps text j d n fits → Keeps text' j' d' n' fits'
keeps_same text text' j j' d d' n n' fits fits' e-text e-j e-d e-n e-fits h =
    subst (λ x. Keeps x j' d' n' fits') (sym e-text)
    (subst (λ x. Keeps text x d' n' fits') (sym e-j) (subst (λ x. Keeps text j x n' fits') (sym e-d) (subst (λ x. Keeps text j d x fits') (sym e-n) (subst (λ x. Keeps text j d n x) (sym e-fits) h))))

-- the data of a text that is one value
abbrev whole : Option (json.Json × List Token) → Option Data
whole o = option_and_then of_json (option_and_then (λ p. json.if_last p.0 p.1) o)

-- what was printed alone is read as it stands
pub read_of_keeps : (text : List ℕ) (j : json.Json) (d : Data) (n : ℕ) → Keeps text j d n true → n ≤ max_depth → read text ≡ Some d
unfolding print_from
read_of_keeps text j d n k shallow =
    let text_is : print (json_tokens j) ≡ text = ap print (sym (append-nil (json_tokens j))) ∙ k.printed false [] ∙ append-nil text in
    let lexed : tokens text ≡ json_tokens j = ap tokens (sym text_is) ∙ tokens-print (json_tokens j) (ArePrintable-json_tokens j (k.numbers refl)) in
    let nests = k.nests in
    ap whole (ap (json.value max_depth) (lexed ∙ sym (append-nil (json_tokens j))) ∙ value-json_tokens j max_depth [] (omega arith)) ∙ k.reads refl

module _ {S : Type 0} (answer : S → ScalarAnswer) where
  abbrev outline_layer : Value-F S json.Json json.Json → json.Json
  outline_layer Value-F.Null = json.null
  outline_layer (Value-F.Scalar s) = scalar_tree (as_int (answer s)) (as_bool (answer s)) (as_text (answer s))
  outline_layer (Value-F.List items) = json.array (items_tree items)
  outline_layer (Value-F.Object o) = o

  abbrev outline_fields : Object-F S json.Json json.Json → json.Json
  outline_fields o = json.object (members_tree o.fields)

  -- a value as JSON, its members in their order
  abbrev outline : Value S → json.Json
  outline = fold-Value S json.Json json.Json outline_layer outline_fields

  abbrev text_of : Value S → List ℕ
  text_of = spec.json answer

  abbrev read_as : Value S → Data
  read_as = data_of_value answer

  abbrev fits : Value S → Bool
  fits = fits_32_bits answer

  abbrev KeepsValue : Value S → Type 0
  KeepsValue = KeepsPart text_of outline read_as nesting fits

  at_null : KeepsValue value.Null
  at_null =
      keeps_same _ _ _ _ _ _ _ _ _ _ (fold_null (json_layer answer) (fields_layer answer)) (fold_null outline_layer outline_fields)
      (fold_null (data_layer answer) (data_fields answer)) (fold_null nesting_layer nesting_fields) (fold_null (fits_layer answer) (fits_fields answer)) (keeps_null answer)

  at_scalar : (s : S) → KeepsValue (value.Scalar s)
  at_scalar s =
      keeps_same _ _ _ _ _ _ _ _ _ _ (fold_scalar (json_layer answer) (fields_layer answer) s) (fold_scalar outline_layer outline_fields s)
      (fold_scalar (data_layer answer) (data_fields answer) s) (fold_scalar nesting_layer nesting_fields s) (fold_scalar (fits_layer answer) (fits_fields answer) s) (keeps_scalar answer s)

  at_list : (xs : List (Value S)) → HoldsOfItems KeepsValue xs → KeepsValue (value.List xs)
  at_list xs h =
      keeps_same _ _ _ _ _ _ _ _ _ _ (fold_list (json_layer answer) (fields_layer answer) xs) (fold_list outline_layer outline_fields xs)
      (fold_list (data_layer answer) (data_fields answer) xs) (fold_list nesting_layer nesting_fields xs) (fold_list (fits_layer answer) (fits_fields answer) xs)
      (keeps_list text_of outline read_as nesting fits xs (recursion_from_All KeepsValue xs h))

  at_object : (o : Object S) → HoldsOfFields KeepsValue o.fields → KeepsValue (value.Object o)
  at_object o h =
      keeps_same _ _ _ _ _ _ _ _ _ _ (fold_object (json_layer answer) (fields_layer answer) o ∙ object_is answer o)
      (fold_object outline_layer outline_fields o ∙ fold_fields outline_layer outline_fields o)
      (fold_object (data_layer answer) (data_fields answer) o ∙ fold_fields (data_layer answer) (data_fields answer) o)
      (fold_object nesting_layer nesting_fields o ∙ fold_fields nesting_layer nesting_fields o)
      (fold_object (fits_layer answer) (fits_fields answer) o ∙ fold_fields (fits_layer answer) (fits_fields answer) o)
      (keeps_object text_of outline read_as nesting fits o.fields (recursion_from_All (λ p. KeepsValue p.1) o.fields h))

  keeps : (v : Value S) → KeepsValue v
  keeps = value_ind KeepsValue at_null at_scalar at_list at_object

  pub json_reads_back : JsonReadsBack answer
  json_reads_back v shallow fit = read_of_keeps (text_of v) (outline v) (read_as v) (nesting v) (subst (λ b. Keeps (text_of v) (outline v) (read_as v) (nesting v) b) fit (keeps v)) shallow

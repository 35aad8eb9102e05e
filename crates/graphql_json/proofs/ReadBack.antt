-- A value has an outline: its JSON is the print of the outline's tokens, and the outline is read as its data.
use Rattle.std.proofs.Common.{◌≡◌, ℕ, suc, ◌^◌, max, ℤ, pos, negsuc, Bool, true, false, List, [], ◌∷◌, ◌++◌, map, Option, Some, None, option_map, unwrap_or, codes, refl, sym, ap, ap₂, ◌∙◌, append_assoc, arith}
use Rattle.std.specs.Fmt.{signed_decimal}
use Rattle.std.specs.List.{list_all, AllByRecursion}
use Rattle.std.proofs.lemmas.Bool.{and_parts, ltb-true}
use Rattle.json.specs.Token.{Token}
use Rattle.json.specs.Json as json
use Rattle.json.specs.Tree as tree
use Rattle.json.specs.Tree.{json_tokens, items_tokens, members_tokens}
use Rattle.json.specs.Print.{print_from, quoted, IsNumber}
use Rattle.json.proofs.Printed.Decimals.{IsNumber-signed_decimal}
use Rattle.serde_json.specs.Data.{Data, null, boolean, number, string, array, object, Members, no_members}
use Rattle.serde_json.specs.Find.{of_integer}
use Rattle.serde_json.specs.Read.{number_of, of_json, of_items, of_members}
use Rattle.serde_json.specs.Written.{comma_if}
use Rattle.serde_json.proofs.Numbers.{number_of-decimal, number_of-negative}
use Rattle.graphql_output_values.specs.Objects.{Pair}
use Rattle.graphql_output_values.specs.ValueEquations.{on_value}
use Rattle.graphql_json.specs.Json.{joined, json_text, member_json, json_text_or_null, bool_or, int_or, scalar_json}
use Rattle.graphql_json.specs.Numbers.{has_32_bits}
use Rattle.serde_json.specs.View.{items_of}
use Rattle.graphql_json.specs.Laws.{with_fields, greatest, data_of_scalar}
use Rattle.graphql_json.proofs.Written.{same_text}
use Rattle.graphql_scalars.specs.ScalarAnswers.{ScalarAnswer, as_int, as_bool, as_text}

-- the text is the print of the tree, which nests n deep and, where the integers fit, is read as the data
pub record Keeps (text : List ℕ) (j : json.Json) (d : Data) (n : ℕ) (fits : Bool) : Type 0 where
  pub printed : (later : Bool) (ts : List Token) → print_from later (json_tokens j ++ ts) ≡ comma_if later ++ (text ++ print_from true ts)
  pub nests : tree.depth j ≡ n
  pub numbers : fits ≡ true → tree.HasNumbers j
  pub reads : fits ≡ true → of_json j ≡ Some d

-- ---- scalars

abbrev pub scalar_tree : Option ℤ → Option Bool → Option (List ℕ) → json.Json
scalar_tree (Some z) b t = json.number (signed_decimal z)
scalar_tree None (Some b) t = json.boolean b
scalar_tree None None (Some text) = json.string text
scalar_tree None None None = json.null

abbrev data_by : Option ℤ → Option Bool → Option (List ℕ) → Data
data_by i b t = unwrap_or (option_map (λ z. number (of_integer z)) i) (unwrap_or (option_map boolean b) (unwrap_or (option_map string t) null))

is_number : (z : ℤ) → has_32_bits z ≡ true → IsNumber (signed_decimal z)
is_number (pos n) h = let below = ltb-true n (2 ^ 31) h in IsNumber-signed_decimal (pos n) (omega arith)
is_number (negsuc n) h = let below = ltb-true n (2 ^ 31) h in IsNumber-signed_decimal (negsuc n) (omega arith)

reads_number : (z : ℤ) → has_32_bits z ≡ true → option_map number (number_of (signed_decimal z)) ≡ Some (number (of_integer z))
reads_number (pos n) h = let below = ltb-true n (2 ^ 31) h in ap (option_map number) (number_of-decimal n (omega arith))
reads_number (negsuc n) h = let below = ltb-true n (2 ^ 31) h in ap (option_map number) (number_of-negative n (omega arith))

printed_text : (text : List ℕ) (later : Bool) (ts : List Token) → print_from later (json_tokens (json.string text) ++ ts) ≡ comma_if later ++ (json_text text ++ print_from true ts)
unfolding print_from
printed_text text true ts = ap (λ s. 44 ∷ (s ++ print_from true ts)) (sym (same_text text))
printed_text text false ts = ap (λ s. s ++ print_from true ts) (sym (same_text text))

module _ {S : Type 0} (answer : S → ScalarAnswer) where
  abbrev text_by : Option ℤ → Option Bool → Option (List ℕ) → List ℕ
  text_by i b t = int_or answer i (bool_or answer b (json_text_or_null answer t))

  printed_scalar : (i : Option ℤ) (b : Option Bool) (t : Option (List ℕ)) (later : Bool) (ts : List Token)
      → print_from later (json_tokens (scalar_tree i b t) ++ ts) ≡ comma_if later ++ (text_by i b t ++ print_from true ts)
  unfolding print_from
  printed_scalar (Some z) b t true ts = refl
  printed_scalar (Some z) b t false ts = refl
  printed_scalar None (Some true) t true ts = refl
  printed_scalar None (Some true) t false ts = refl
  printed_scalar None (Some false) t true ts = refl
  printed_scalar None (Some false) t false ts = refl
  printed_scalar None None (Some text) later ts = printed_text text later ts
  printed_scalar None None None true ts = refl
  printed_scalar None None None false ts = refl

  keeps_by : (i : Option ℤ) (b : Option Bool) (t : Option (List ℕ)) → Keeps (text_by i b t) (scalar_tree i b t) (data_by i b t) 0 (unwrap_or (option_map has_32_bits i) true)
  keeps_by (Some z) b t = record { printed = printed_scalar (Some z) b t; nests = refl; numbers = is_number z; reads = reads_number z }
  keeps_by None (Some b) t = record { printed = printed_scalar None (Some b) t; nests = refl; numbers = λ h. tt; reads = λ h. refl }
  keeps_by None None (Some text) = record { printed = printed_scalar None None (Some text); nests = refl; numbers = λ h. tt; reads = λ h. refl }
  keeps_by None None None = record { printed = printed_scalar None None None; nests = refl; numbers = λ h. tt; reads = λ h. refl }

  pub keeps_scalar : (s : S) → Keeps (scalar_json answer s) (scalar_tree (as_int (answer s)) (as_bool (answer s)) (as_text (answer s))) (data_of_scalar answer s) 0 (unwrap_or (option_map has_32_bits (as_int (answer s))) true)
  keeps_scalar s = keeps_by (as_int (answer s)) (as_bool (answer s)) (as_text (answer s))

  pub keeps_null : Keeps (codes "null") json.null null 0 true
  keeps_null = keeps_by None None None

-- ---- lists and objects

abbrev pub items_tree : List json.Json → json.Items
items_tree [] = json.no_items
items_tree (j ∷ js) = json.item j (items_tree js)

abbrev pub members_tree : List (Pair json.Json) → json.Members
members_tree [] = json.no_members
members_tree (p ∷ ps) = json.member p.0 p.1 (members_tree ps)

regroup : (front x xs rest : List ℕ) → front ++ (x ++ (xs ++ rest)) ≡ ((front ++ x) ++ xs) ++ rest
regroup front x xs rest = simp append_assoc

regroup_member : (front key x xs rest : List ℕ) → front ++ ((key ++ 58 ∷ []) ++ (x ++ (xs ++ rest))) ≡ ((front ++ (key ++ 58 ∷ x)) ++ xs) ++ rest
regroup_member front key x xs rest = simp append_assoc

module _ {A : Type 0} (text : A → List ℕ) (outline : A → json.Json) (data_of : A → Data) (nesting : A → ℕ) (fits : A → Bool) where
  abbrev pub KeepsPart : A → Type 0
  KeepsPart x = Keeps (text x) (outline x) (data_of x) (nesting x) (fits x)

  abbrev member_text : Pair A → List ℕ
  member_text p = member_json (p.0, text p.1)

  printed_items : (xs : List A) → AllByRecursion KeepsPart xs → (later : Bool) (ts : List Token)
      → print_from later (items_tokens (items_tree (map outline xs)) ++ ts) ≡ joined (comma_if later) (map text xs) ++ (93 ∷ print_from true ts)
  unfolding print_from
  printed_items [] h true ts = refl
  printed_items [] h false ts = refl
  printed_items (x ∷ xs) h later ts =
      let rest = items_tokens (items_tree (map outline xs)) in
      ap (print_from later) (append_assoc (json_tokens (outline x)) rest ts)
      ∙ h.0.printed later (rest ++ ts)
      ∙ ap (λ s. comma_if later ++ (text x ++ s)) (printed_items xs h.1 true ts)
      ∙ regroup (comma_if later) (text x) (joined (comma_if true) (map text xs)) (93 ∷ print_from true ts)

  printed_member : (p : Pair A) → KeepsPart p.1 → (later : Bool) (ts : List Token) (rest : List ℕ) → print_from true ts ≡ rest
      → print_from later (Token.key p.0 ∷ (json_tokens (outline p.1) ++ ts)) ≡ comma_if later ++ ((quoted p.0 ++ 58 ∷ []) ++ (text p.1 ++ rest))
  unfolding print_from
  printed_member p h true ts rest e = ap (λ s. 44 ∷ ((quoted p.0 ++ 58 ∷ []) ++ s)) (h.printed false ts ∙ ap (λ s. text p.1 ++ s) e)
  printed_member p h false ts rest e = ap (λ s. (quoted p.0 ++ 58 ∷ []) ++ s) (h.printed false ts ∙ ap (λ s. text p.1 ++ s) e)

  printed_members : (ps : List (Pair A)) → AllByRecursion (λ p. KeepsPart p.1) ps → (later : Bool) (ts : List Token)
      → print_from later (members_tokens (members_tree (map (on_value outline) ps)) ++ ts) ≡ joined (comma_if later) (map member_text ps) ++ (125 ∷ print_from true ts)
  unfolding print_from
  printed_members [] h true ts = refl
  printed_members [] h false ts = refl
  printed_members (p ∷ ps) h later ts =
      let rest = members_tokens (members_tree (map (on_value outline) ps)) in
      ap (λ us. print_from later (Token.key p.0 ∷ us)) (append_assoc (json_tokens (outline p.1)) rest ts)
      ∙ printed_member p h.0 later (rest ++ ts) _ (printed_members ps h.1 true ts)
      ∙ ap (λ s. comma_if later ++ ((s ++ 58 ∷ []) ++ (text p.1 ++ (joined (comma_if true) (map member_text ps) ++ (125 ∷ print_from true ts))))) (sym (same_text p.0))
      ∙ regroup_member (comma_if later) (json_text p.0) (text p.1) (joined (comma_if true) (map member_text ps)) (125 ∷ print_from true ts)

  items_nest : (xs : List A) → AllByRecursion KeepsPart xs → tree.items_depth (items_tree (map outline xs)) ≡ greatest (map nesting xs)
  items_nest [] h = refl
  items_nest (x ∷ xs) h = ap₂ max h.0.nests (items_nest xs h.1)

  members_nest : (ps : List (Pair A)) → AllByRecursion (λ p. KeepsPart p.1) ps → tree.members_depth (members_tree (map (on_value outline) ps)) ≡ greatest (map (λ p. p.1) (map (on_value nesting) ps))
  members_nest [] h = refl
  members_nest (p ∷ ps) h = ap₂ max h.0.nests (members_nest ps h.1)

  items_numbers : (xs : List A) → AllByRecursion KeepsPart xs → list_all (λ fit. fit) (map fits xs) ≡ true → tree.ItemsHaveNumbers (items_tree (map outline xs))
  items_numbers [] h all = tt
  items_numbers (x ∷ xs) h all = let both = and_parts (fits x) _ all in (h.0.numbers both.0, items_numbers xs h.1 both.1)

  members_numbers : (ps : List (Pair A)) → AllByRecursion (λ p. KeepsPart p.1) ps → list_all (λ p. p.1) (map (on_value fits) ps) ≡ true → tree.MembersHaveNumbers (members_tree (map (on_value outline) ps))
  members_numbers [] h all = tt
  members_numbers (p ∷ ps) h all = let both = and_parts (fits p.1) _ all in (h.0.numbers both.0, members_numbers ps h.1 both.1)

  items_read : (xs : List A) → AllByRecursion KeepsPart xs → list_all (λ fit. fit) (map fits xs) ≡ true → of_items (items_tree (map outline xs)) ≡ Some (items_of (map data_of xs))
  items_read [] h all = refl
  items_read (x ∷ xs) h all = let both = and_parts (fits x) _ all in rw (h.0.reads both.0, items_read xs h.1 both.1) refl

  members_read : (ps : List (Pair A)) (found : Members) → AllByRecursion (λ p. KeepsPart p.1) ps → list_all (λ p. p.1) (map (on_value fits) ps) ≡ true
      → of_members (members_tree (map (on_value outline) ps)) found ≡ Some (with_fields found (map (on_value data_of) ps))
  members_read [] found h all = refl
  members_read (p ∷ ps) found h all = let both = and_parts (fits p.1) _ all in rw (h.0.reads both.0) (members_read ps _ h.1 both.1)

  printed_array : (xs : List A) → AllByRecursion KeepsPart xs → (later : Bool) (ts : List Token)
      → print_from later (json_tokens (json.array (items_tree (map outline xs))) ++ ts) ≡ comma_if later ++ ((91 ∷ joined [] (map text xs) ++ 93 ∷ []) ++ print_from true ts)
  unfolding print_from
  printed_array xs h true ts = ap (λ s. 44 ∷ 91 ∷ s) (printed_items xs h false ts ∙ sym (append_assoc (joined [] (map text xs)) (93 ∷ []) (print_from true ts)))
  printed_array xs h false ts = ap (λ s. 91 ∷ s) (printed_items xs h false ts ∙ sym (append_assoc (joined [] (map text xs)) (93 ∷ []) (print_from true ts)))

  printed_object : (ps : List (Pair A)) → AllByRecursion (λ p. KeepsPart p.1) ps → (later : Bool) (ts : List Token)
      → print_from later (json_tokens (json.object (members_tree (map (on_value outline) ps))) ++ ts) ≡ comma_if later ++ ((123 ∷ joined [] (map member_text ps) ++ 125 ∷ []) ++ print_from true ts)
  unfolding print_from
  printed_object ps h true ts = ap (λ s. 44 ∷ 123 ∷ s) (printed_members ps h false ts ∙ sym (append_assoc (joined [] (map member_text ps)) (125 ∷ []) (print_from true ts)))
  printed_object ps h false ts = ap (λ s. 123 ∷ s) (printed_members ps h false ts ∙ sym (append_assoc (joined [] (map member_text ps)) (125 ∷ []) (print_from true ts)))

  pub keeps_list : (xs : List A) → AllByRecursion KeepsPart xs
      → Keeps (91 ∷ joined [] (map text xs) ++ 93 ∷ []) (json.array (items_tree (map outline xs))) (array (items_of (map data_of xs))) (suc (greatest (map nesting xs))) (list_all (λ fit. fit) (map fits xs))
  keeps_list xs h = record { printed = printed_array xs h; nests = ap suc (items_nest xs h); numbers = items_numbers xs h; reads = λ all. ap (option_map array) (items_read xs h all) }

  pub keeps_object : (ps : List (Pair A)) → AllByRecursion (λ p. KeepsPart p.1) ps
      → Keeps (123 ∷ joined [] (map member_text ps) ++ 125 ∷ []) (json.object (members_tree (map (on_value outline) ps))) (object (with_fields no_members (map (on_value data_of) ps)))
      (suc (greatest (map (λ p. p.1) (map (on_value nesting) ps)))) (list_all (λ p. p.1) (map (on_value fits) ps))
  keeps_object ps h = record { printed = printed_object ps h; nests = ap suc (members_nest ps h); numbers = members_numbers ps h; reads = λ all. ap (option_map object) (members_read ps no_members h all) }

-- The text of an input value spells the same value, places aside.
use Rattle.std.proofs.Common.{◌≡◌, ◌≢◌, ℕ, Bool, true, false, if◌then◌else◌, List, [], ◌∷◌, ◌++◌, map, refl, sym, subst, ap, ◌∙◌, append_assoc, append-nil}
use Rattle.std.specs.Prelude.{codes, ℤ, FitsSigned}
use mir.Syntax.{w32}
use Rattle.std.specs.Fmt.{signed_decimal}
use Rattle.std.specs.Str.{bytes_eq}
use Rattle.std.proofs.lemmas.Slice.Eq.{bytes_eq-Decides}
use Rattle.graphql_text.specs.declared.token.Token.{Token}
use Rattle.graphql_text.specs.declared.token.Token.TheVariants as t
use Rattle.graphql_text.specs.declared.token.ScalarToken.TheVariants as s
use Rattle.graphql_text.specs.Tokens.{Located}
use Rattle.graphql_text.specs.Grammar.{IsName}
use Rattle.graphql_scalars.specs.declared.default_scalar.DefaultScalarValue.{DefaultScalarValue}
use Rattle.graphql_scalars.specs.declared.default_scalar.DefaultScalarValue.TheVariants as scalar
use Rattle.graphql_scalars.specs.DefaultScalar.{reads}
use Rattle.graphql_values.specs.declared.input_value.InputValue.TheVariants as v
use Rattle.graphql_values.specs.InputValues.{Placed, Pair, unplaced, unplaced_pair, unlocated}
use Rattle.graphql_values.proofs.InputValueEquations.{unlocated_list, unlocated_object}
use Rattle.graphql_grammar.specs.declared.kind.Kind.TheVariants as k
use Rattle.graphql_grammar.specs.Kinds.{kind, word_kind, only, enum_names}
use Rattle.graphql_grammar.specs.Input.{At}
use Rattle.graphql_value_syntax.specs.Values.{Is, spanned, ValueOf, of_true, of_false, of_null, of_enum, of_scalar, of_variable, of_list, of_object, ItemsOf, FieldsOf}
use Rattle.graphql_value_syntax.specs.Values as grammar
use Rattle.graphql_scalars.proofs.IntLemmas.{integer_reads}
use Rattle.graphql_plain_text.specs.Parts.{TextPart, IsClosed, parts_text, located_part, up_to, tokens_of}
use Rattle.std.specs.List.{join_by}
use Rattle.graphql_plain_text.specs.Writable.{Value, value_text, IsPlain, IsEnum, IsWritable, null, integer, string, boolean, enum, variable, list, object, AreWritable, no_items, more_items, FieldsAreWritable, no_fields, more_fields}
use Rattle.graphql_plain_text.proofs.ValueTextEquations.{followed, item_texts, field_texts, value_text-null, value_text-scalar, value_text-enum, value_text-variable, value_text-list, value_text-object}
use Rattle.graphql_plain_text.proofs.Parts.{closed_tokens_end}
use Rattle.graphql_plain_text.proofs.Words.{quoted, string_reads}
use Rattle.graphql_plain_text.proofs.PrintedWords.{name_word, dollar, bracket_open, bracket_close, curly_open, curly_close, colon, integer_word, string_word}
use Rattle.graphql_plain_text.proofs.Printed.{text_append, tokens_append, IsLead, no_lead, space_lead, comma_lead, IsWord, Printed, printed_as, printed_nil, printed_cons, Closes, printed_append}

-- ---- names of enums

not_same : (b : Bool) (xs ys : List ℕ) → bytes_eq xs ys ≡ b → xs ≢ ys → b ≡ false
not_same true xs ys e h = absurd (h ((bytes_eq-Decides xs ys).0 e))
not_same false xs ys e h = refl

different : (xs ys : List ℕ) → xs ≢ ys → bytes_eq xs ys ≡ false
different xs ys h = not_same (bytes_eq xs ys) xs ys refl h

enum_by : (on query mutation subscription fragment t f n : Bool) → t ≡ false → f ≡ false → n ≡ false
    → enum_names (if on then k.On else if query then k.Query else if mutation then k.Mutation else if subscription then k.Subscription else if fragment then k.Fragment
    else if t then k.True else if f then k.False else if n then k.Null else k.Name) ≡ true
enum_by true query mutation subscription fragment t f n p q r = refl
enum_by false true mutation subscription fragment t f n p q r = refl
enum_by false false true subscription fragment t f n p q r = refl
enum_by false false false true fragment t f n p q r = refl
enum_by false false false false true t f n p q r = refl
enum_by false false false false false false false false p q r = refl
enum_by false false false false false true f n p q r = cc
enum_by false false false false false false true n p q r = cc
enum_by false false false false false false false true p q r = cc

enum_kind : (n : List ℕ) → IsEnum n → enum_names (word_kind n) ≡ true
enum_kind n h =
    enum_by (bytes_eq n (codes "on")) (bytes_eq n (codes "query")) (bytes_eq n (codes "mutation")) (bytes_eq n (codes "subscription")) (bytes_eq n (codes "fragment"))
    (bytes_eq n (codes "true")) (bytes_eq n (codes "false")) (bytes_eq n (codes "null")) (different n (codes "true") h.not_true) (different n (codes "false") h.not_false) (different n (codes "null") h.not_null)

-- ---- lists of values

-- a list behind what stands in front of its first item
abbrev led : List ℕ → List (List ℕ) → List ℕ
led lead [] = []
led lead (x ∷ xs) = lead ++ (x ++ followed xs)

followed_led : (xs : List (List ℕ)) → followed xs ≡ led (codes ", ") xs
followed_led [] = refl
followed_led (x ∷ xs) = refl

led_joined : (xs : List (List ℕ)) → led [] xs ≡ join_by (λ t. t) (codes ", ") xs
led_joined [] = refl
led_joined (x ∷ xs) = refl

-- one behind another
more_led : (lead x : List ℕ) (xs : List (List ℕ)) → (lead ++ x) ++ led (codes ", ") xs ≡ led lead (x ∷ xs)
more_led lead x xs = append_assoc lead x (led (codes ", ") xs) ∙ ap (λ z. lead ++ (x ++ z)) (sym (followed_led xs))

-- blanks that a name or a number ends in front of
abbrev Parts : List ℕ → Type 0
Parts lead = (rest : List ℕ) → IsClosed (lead ++ rest)

comma_parts : Parts (44 ∷ 32 ∷ [])
comma_parts rest = refl

closes_by : (lead more front : List ℕ) → front ≡ lead ++ more → Parts lead → Closes front
closes_by lead more front is parts behind closed = subst (λ z. IsClosed (z ++ behind)) (sym is) (subst (λ z. IsClosed z) (sym (append_assoc lead more behind)) (parts (more ++ behind)))

closes_append : (ps qs : List TextPart) → Closes (parts_text ps) → Closes (parts_text qs) → Closes (parts_text (ps ++ qs))
closes_append ps qs first second behind closed =
    subst (λ z. IsClosed (z ++ behind)) (sym (text_append ps qs)) (subst (λ z. IsClosed z) (sym (append_assoc (parts_text ps) (parts_text qs) behind)) (first (parts_text qs ++ behind) (second behind closed)))

-- what is spelled by any number of parts, the first behind what stands in front, the others behind a comma
pub record Many {A B : Type 0} (R : List Located → A → Type 0) (view : A → B) (goal : B) (lead : List ℕ) (texts : List (List ℕ)) : Type 0 where
  pub printed : Printed (led lead texts)
  pub closes : Parts lead → Closes (parts_text printed.parts)
  pub spells : (before : List ℕ) → (x : A) × R (tokens_of before printed.parts) x × (view x ≡ goal)

-- ---- values

module _ (is_const : Bool) where
  abbrev Of : List Located → At Value → Type 0
  Of = ValueOf DefaultScalarValue reads scalar.Boolean is_const

  -- the value with no places
  abbrev bare : At Value → Value
  bare x = unlocated x.item

  -- behind what stands in front its text is printed, and its tokens spell the same value, places aside
  pub record Written (value : Value) (lead : List ℕ) : Type 0 where
    pub printed : Printed (lead ++ value_text value)
    pub more : List ℕ
    pub begins : parts_text printed.parts ≡ lead ++ more
    pub spells : (before : List ℕ) → (x : At Value) × Of (tokens_of before printed.parts) x × (bare x ≡ unlocated value)

  -- a value that one token spells
  one_word : (value : Value) (lead : List ℕ) (token : Token) (own bytes : List ℕ) → IsLead lead → IsWord token own bytes → value_text value ≡ bytes
      → ((a : Located) → a.item ≡ token → Of (a ∷ []) (spanned a value a)) → Written value lead
  one_word value lead token own bytes l w is of_token = record {
    printed = printed_as (ap (λ z. lead ++ z) (append-nil bytes ∙ sym is)) (printed_cons lead token own bytes l w printed_nil (λ behind closed. closed_tokens_end token own behind w.goes_on closed));
    more = own ++ [];
    begins = refl;
    spells = λ before. let a = located_part before (record { blanks = lead; token = token; own = own }) in (spanned a value a, of_token a refl, refl);
  }

  -- a value of a name
  one_name : (value : Value) (lead name : List ℕ) → IsLead lead → IsName name → value_text value ≡ name → ((a : Located) → a.item ≡ t.Name name → Of (a ∷ []) (spanned a value a)) → Written value lead
  one_name value lead name l h is of_token = one_word value lead (t.Name name) name name l (name_word name h) is of_token

  -- ---- values of one word

  null_written : (lead : List ℕ) → IsLead lead → Written v.Null lead
  null_written lead l = one_name v.Null lead (codes "null") l (refl, (refl, (refl, (refl, tt)))) value_text-null (λ a is. of_null a (ap (λ token. only k.Null (kind token)) is))

  true_written : (lead : List ℕ) → IsLead lead → Written (v.Scalar (scalar.Boolean true)) lead
  true_written lead l =
      one_name (v.Scalar (scalar.Boolean true)) lead (codes "true") l (refl, (refl, (refl, (refl, tt)))) (value_text-scalar (scalar.Boolean true)) (λ a is. of_true a (ap (λ token. only k.True (kind token)) is))

  false_written : (lead : List ℕ) → IsLead lead → Written (v.Scalar (scalar.Boolean false)) lead
  false_written lead l =
      one_name (v.Scalar (scalar.Boolean false)) lead (codes "false") l (refl, (refl, (refl, (refl, (refl, tt))))) (value_text-scalar (scalar.Boolean false))
      (λ a is. of_false a (ap (λ token. only k.False (kind token)) is))

  integer_written : (n : ℤ) → FitsSigned w32 n → (lead : List ℕ) → IsLead lead → Written (v.Scalar (scalar.Int n)) lead
  integer_written n fits lead l =
      one_word (v.Scalar (scalar.Int n)) lead (t.Scalar (s.Int (signed_decimal n))) (signed_decimal n) (signed_decimal n) l
      (integer_word n fits)
      (value_text-scalar (scalar.Int n)) (λ a is. of_scalar a (s.Int (signed_decimal n)) (scalar.Int n) is (integer_reads n fits))

  string_written : (text : List ℕ) → IsPlain text → (lead : List ℕ) → IsLead lead → Written (v.Scalar (scalar.String text)) lead
  string_written text h lead l =
      one_word (v.Scalar (scalar.String text)) lead (t.Scalar (s.String text)) (quoted text) (34 ∷ (text ++ 34 ∷ [])) l (string_word text h)
      (value_text-scalar (scalar.String text)) (λ a is. of_scalar a (s.String text) (scalar.String text) is (string_reads text h.utf8 h.plain))

  enum_written : (name : List ℕ) → IsEnum name → (lead : List ℕ) → IsLead lead → Written (v.Enum name) lead
  enum_written name h lead l = one_name (v.Enum name) lead name l h.is (value_text-enum name) (λ a is. of_enum a name is (ap (λ token. enum_names (kind token)) is ∙ enum_kind name h))

  variable_written : (name : List ℕ) → is_const ≡ false → IsName name → (lead : List ℕ) → IsLead lead → Written (v.Variable name) lead
  variable_written name may h lead l = record {
    printed = printed_as (ap (λ z. lead ++ (36 ∷ z)) (append-nil name) ∙ ap (λ z. lead ++ z) (sym (value_text-variable name)))
        (printed_cons lead t.Dollar (36 ∷ []) (36 ∷ []) l dollar (printed_cons [] (t.Name name) name name no_lead (name_word name h) printed_nil (λ behind closed. closed_tokens_end (t.Name name) name behind refl closed)) (λ behind closed. tt));
    more = 36 ∷ (name ++ []);
    begins = refl;
    spells = λ before.
        let p : TextPart = record { blanks = lead; token = t.Dollar; own = 36 ∷ [] } in
        let a = located_part before p in
        let b = located_part (up_to before p) (record { blanks = []; token = t.Name name; own = name }) in
        (spanned a (v.Variable name) b, of_variable a b name may refl refl, refl);
  }

  abbrev Items : List Located → List (At Value) → Type 0
  Items = ItemsOf DefaultScalarValue reads scalar.Boolean is_const

  items_append : (ts us : List Located) (xs ys : List (At Value)) → Items ts xs → Items us ys → Items (ts ++ us) (xs ++ ys)
  items_append ts _ xs _ m grammar.no_items = subst (λ us. Items us (xs ++ [])) (sym (append-nil ts)) (subst (λ ys. Items ts ys) (sym (append-nil xs)) m)
  items_append ts _ xs _ m (grammar.more_items us ws ys x n r) =
      subst (λ zs. Items zs (xs ++ (ys ++ x ∷ []))) (append_assoc ts us ws) (subst (λ zs. Items ((ts ++ us) ++ ws) zs) (append_assoc xs ys (x ∷ []))
      (grammar.more_items (ts ++ us) ws (xs ++ ys) x (items_append ts us xs ys m n) r))

  abbrev Fields : List Located → List (At (List ℕ) × At Value) → Type 0
  Fields = FieldsOf DefaultScalarValue reads scalar.Boolean is_const

  fields_append : (ts us : List Located) (ps qs : List (At (List ℕ) × At Value)) → Fields ts ps → Fields us qs → Fields (ts ++ us) (ps ++ qs)
  fields_append ts _ ps _ m grammar.no_fields = subst (λ us. Fields us (ps ++ [])) (sym (append-nil ts)) (subst (λ ys. Fields ts ys) (sym (append-nil ps)) m)
  fields_append ts _ ps _ m (grammar.more_fields us ws qs a b n x found is h r) =
      subst (λ zs. Fields zs (ps ++ (qs ++ (spanned a n a, x) ∷ []))) (append_assoc ts us (a ∷ b ∷ ws)) (subst (λ zs. Fields ((ts ++ us) ++ (a ∷ b ∷ ws)) zs) (append_assoc ps qs ((spanned a n a, x) ∷ []))
      (grammar.more_fields (ts ++ us) ws (ps ++ qs) a b n x (fields_append ts us ps qs m found) is h r))

  -- the same with no places
  abbrev bare_items : List (Placed Value) → List (Placed Value)
  bare_items xs = map (λ (x : Placed Value). unplaced (unlocated x.item)) xs

  abbrev bare_fields : List (Pair Value) → List (Pair Value)
  bare_fields ps = map (λ (p : Pair Value). unplaced_pair (p.0.item, unlocated p.1.item)) ps

  abbrev ManyItems : List ℕ → List (Placed Value) → Type 0
  ManyItems lead xs = Many Items bare_items (bare_items xs) lead (item_texts xs)

  abbrev ManyFields : List ℕ → List (Pair Value) → Type 0
  ManyFields lead ps = Many Fields bare_fields (bare_fields ps) lead (field_texts ps)

  no_many_items : (lead : List ℕ) → ManyItems lead []
  no_many_items lead = record { printed = printed_nil; closes = λ parts behind closed. closed; spells = λ before. ([], grammar.no_items, refl) }

  no_many_fields : (lead : List ℕ) → ManyFields lead []
  no_many_fields lead = record { printed = printed_nil; closes = λ parts behind closed. closed; spells = λ before. ([], grammar.no_fields, refl) }

  item_first : (x : Placed Value) (xs : List (Placed Value)) (lead : List ℕ) → Written x.item lead → ManyItems (codes ", ") xs → ManyItems lead (x ∷ xs)
  item_first x xs lead w m = record {
    printed = printed_as (more_led lead (value_text x.item) (item_texts xs)) (printed_append w.printed m.printed (m.closes comma_parts));
    closes = λ parts. closes_append w.printed.parts m.printed.parts (closes_by lead w.more (parts_text w.printed.parts) w.begins parts) (m.closes comma_parts);
    spells = λ before.
        let one = w.spells before in
        let others = m.spells (before ++ parts_text w.printed.parts) in (
          one.0 ∷ others.0,
          subst (λ ts. Items ts (one.0 ∷ others.0)) (sym (tokens_append before w.printed.parts m.printed.parts))
              (items_append (tokens_of before w.printed.parts) (tokens_of (before ++ parts_text w.printed.parts) m.printed.parts) (one.0 ∷ []) others.0
              (grammar.more_items [] (tokens_of before w.printed.parts) [] one.0 grammar.no_items one.1) others.1),
          ap (λ y. unplaced y ∷ bare_items others.0) one.2 ∙ ap (λ ys. unplaced (unlocated x.item) ∷ ys) others.2,
        );
  }

  -- a field's name and colon, and the value behind a space
  field_text : (lead name text : List ℕ) → lead ++ (name ++ ((58 ∷ []) ++ ((32 ∷ []) ++ text))) ≡ lead ++ (name ++ codes ": " ++ text)
  field_text lead name text = ap (λ z. lead ++ z) (sym (append_assoc name (codes ": ") text))

  abbrev field_printed : (lead name : List ℕ) (value : Value) → IsLead lead → IsName name → Written value (32 ∷ []) → Printed (lead ++ (name ++ codes ": " ++ value_text value))
  field_printed lead name value l h w = printed_as (field_text lead name (value_text value))
      (printed_cons lead (t.Name name) name name l (name_word name h) (printed_cons [] t.Colon (58 ∷ []) (58 ∷ []) no_lead colon w.printed (λ behind closed. tt)) (λ behind closed. refl))

  field_first : (p : Pair Value) (ps : List (Pair Value)) (lead : List ℕ) → IsLead lead → IsName p.0.item → Written p.1.item (32 ∷ []) → ManyFields (codes ", ") ps → ManyFields lead (p ∷ ps)
  field_first p ps lead l h w m =
      let field = field_printed lead p.0.item p.1.item l h w in
      record {
        printed = printed_as (more_led lead (p.0.item ++ codes ": " ++ value_text p.1.item) (field_texts ps)) (printed_append field m.printed (m.closes comma_parts));
        closes = λ parts. closes_append field.parts m.printed.parts (closes_by lead (p.0.item ++ (58 ∷ parts_text w.printed.parts)) (parts_text field.parts) refl parts) (m.closes comma_parts);
        spells = λ before.
            let key : TextPart = record { blanks = lead; token = t.Name p.0.item; own = p.0.item } in
            let mark : TextPart = record { blanks = []; token = t.Colon; own = 58 ∷ [] } in
            let a = located_part before key in
            let b = located_part (up_to before key) mark in
            let behind = up_to (up_to before key) mark in
            let one = w.spells behind in
            let others = m.spells (before ++ parts_text field.parts) in
            let q : At (List ℕ) × At Value = (spanned a p.0.item a, one.0) in (
              q ∷ others.0,
              subst (λ ts. Fields ts (q ∷ others.0)) (sym (tokens_append before field.parts m.printed.parts))
                  (fields_append (a ∷ b ∷ tokens_of behind w.printed.parts) (tokens_of (before ++ parts_text field.parts) m.printed.parts) (q ∷ []) others.0
                  (grammar.more_fields [] (tokens_of behind w.printed.parts) [] a b p.0.item one.0 grammar.no_fields refl refl one.1) others.1),
              ap (λ y. unplaced_pair (p.0.item, y) ∷ bare_fields others.0) one.2 ∙ ap (λ ys. unplaced_pair (p.0.item, unlocated p.1.item) ∷ ys) others.2,
            );
      }

  -- ---- lists and objects

  list_written : (xs : List (Placed Value)) (lead : List ℕ) → IsLead lead → ManyItems [] xs → Written (v.List xs) lead
  list_written xs lead l m =
      let closing : Printed ((93 ∷ []) ++ []) = printed_cons [] t.BracketClose (93 ∷ []) (93 ∷ []) no_lead bracket_close printed_nil (λ behind closed. tt) in
      let inner = printed_append m.printed closing (λ behind closed. refl) in
      record {
        printed = printed_as (ap (λ z. lead ++ (91 ∷ (z ++ 93 ∷ []))) (led_joined (item_texts xs)) ∙ ap (λ z. lead ++ z) (sym (value_text-list xs)))
            (printed_cons lead t.BracketOpen (91 ∷ []) (91 ∷ []) l bracket_open inner (λ behind closed. tt));
        more = 91 ∷ parts_text inner.parts;
        begins = refl;
        spells = λ before.
            let opening : TextPart = record { blanks = lead; token = t.BracketOpen; own = 91 ∷ [] } in
            let a = located_part before opening in
            let first = up_to before opening in
            let found = m.spells first in
            let b = located_part (first ++ parts_text m.printed.parts) (record { blanks = []; token = t.BracketClose; own = 93 ∷ [] }) in (
              spanned a (v.List found.0) b,
              subst (λ ts. Of (a ∷ ts) (spanned a (v.List found.0) b)) (sym (tokens_append first m.printed.parts closing.parts)) (of_list a b (tokens_of first m.printed.parts) found.0 refl found.1 refl),
              unlocated_list found.0 ∙ ap v.List found.2 ∙ sym (unlocated_list xs),
            );
      }

  object_written : (ps : List (Pair Value)) (lead : List ℕ) → IsLead lead → ManyFields [] ps → Written (v.Object ps) lead
  object_written ps lead l m =
      let closing : Printed ((125 ∷ []) ++ []) = printed_cons [] t.CurlyClose (125 ∷ []) (125 ∷ []) no_lead curly_close printed_nil (λ behind closed. tt) in
      let inner = printed_append m.printed closing (λ behind closed. refl) in
      record {
        printed = printed_as (ap (λ z. lead ++ (123 ∷ (z ++ 125 ∷ []))) (led_joined (field_texts ps)) ∙ ap (λ z. lead ++ z) (sym (value_text-object ps)))
            (printed_cons lead t.CurlyOpen (123 ∷ []) (123 ∷ []) l curly_open inner (λ behind closed. tt));
        more = 123 ∷ parts_text inner.parts;
        begins = refl;
        spells = λ before.
            let opening : TextPart = record { blanks = lead; token = t.CurlyOpen; own = 123 ∷ [] } in
            let a = located_part before opening in
            let first = up_to before opening in
            let found = m.spells first in
            let b = located_part (first ++ parts_text m.printed.parts) (record { blanks = []; token = t.CurlyClose; own = 125 ∷ [] }) in (
              spanned a (v.Object found.0) b,
              subst (λ ts. Of (a ∷ ts) (spanned a (v.Object found.0) b)) (sym (tokens_append first m.printed.parts closing.parts)) (of_object a b (tokens_of first m.printed.parts) found.0 refl found.1 refl),
              unlocated_object found.0 ∙ ap v.Object found.2 ∙ sym (unlocated_object ps),
            );
      }

  mutual
    pub written : (value : Value) → IsWritable is_const value → (lead : List ℕ) → IsLead lead → Written value lead
    written _ null lead l = null_written lead l
    written _ (integer n fits) lead l = integer_written n fits lead l
    written _ (string text h) lead l = string_written text h lead l
    written _ (boolean true) lead l = true_written lead l
    written _ (boolean false) lead l = false_written lead l
    written _ (enum name h) lead l = enum_written name h lead l
    written _ (variable name may h) lead l = variable_written name may h lead l
    written _ (list xs h) lead l = list_written xs lead l (items_written xs h [] no_lead)
    written _ (object ps h) lead l = object_written ps lead l (fields_written ps h [] no_lead)

    items_written : (xs : List (Placed Value)) → AreWritable is_const xs → (lead : List ℕ) → IsLead lead → ManyItems lead xs
    items_written _ no_items lead l = no_many_items lead
    items_written _ (more_items x xs h hs) lead l = item_first x xs lead (written x.item h lead l) (items_written xs hs (44 ∷ 32 ∷ []) comma_lead)

    fields_written : (ps : List (Pair Value)) → FieldsAreWritable is_const ps → (lead : List ℕ) → IsLead lead → ManyFields lead ps
    fields_written _ no_fields lead l = no_many_fields lead
    fields_written _ (more_fields p ps h value hs) lead l = field_first p ps lead l h (written p.1.item value (32 ∷ []) space_lead) (fields_written ps hs (44 ∷ 32 ∷ []) comma_lead)

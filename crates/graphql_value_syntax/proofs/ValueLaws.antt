-- Values: the law of each production.
use Rattle.std.proofs.Common.{◌≡◌, ℕ, zero, suc, inl, inr, Bool, true, false, List, [], ◌∷◌, ◌++◌, Result, Err, ap, ◌∙◌, sym, refl, subst, arith}
use Rattle.std.specs.Prelude.{codes}
use Rattle.graphql_text.specs.declared.position.Span.{Span}
use Rattle.graphql_text.specs.declared.position.SourcePosition.{SourcePosition}
use Rattle.graphql_text.specs.declared.token.Token.{Token}
use Rattle.graphql_text.specs.declared.token.Token.TheVariants as t
use Rattle.graphql_text.specs.declared.token.ScalarToken.{ScalarToken}
use Rattle.graphql_text.specs.declared.parse_error.ParseError.{ParseError}
use Rattle.graphql_values.specs.declared.input_value.InputValue.{InputValue}
use Rattle.graphql_values.specs.declared.input_value.InputValue.TheVariants as v
use Rattle.graphql_grammar.specs.declared.kind.Kind.{Kind}
use Rattle.graphql_grammar.specs.declared.kind.Kind.TheVariants as k
use Rattle.graphql_grammar.specs.Kinds.{Kinds, kind, only, either, no_kind, names, enum_names, are_among}
use Rattle.graphql_grammar.specs.Input.{At, Located, Fault, peek, peek_kind, next, refusal}
use Rattle.graphql_grammar.specs.Steps.{sees, token, name, name_of, located}
use Rattle.graphql_grammar.specs.Ahead.{mk, In, Free, refused_at, kind_ahead}
use Rattle.graphql_grammar.specs.Relations.{span_of, TokenOf, Then, Made, Placed, Between, none_more, one_more, AllOf, EitherOf}
use Rattle.graphql_grammar.specs.Faults.{BadScalar, GoodScalar, ScalarOf}
use Rattle.graphql_grammar.proofs.Sets.{is_kind, within_is}
use Rattle.graphql_grammar.proofs.Stops.{Sentence, end-append}
use Rattle.graphql_grammar.proofs.Law.{Law, law_bind, law_made, law_is, law_fewer, law_starts, law_same, law_zero}
use Rattle.graphql_grammar.proofs.Cursors.{word_is_name}
use Rattle.graphql_grammar.proofs.Choices.{law_token, law_expect, law_scalar_or, law_when, law_located}
use Rattle.graphql_grammar.proofs.Loops.{Takes, law_between}
use Rattle.graphql_grammar.proofs.Recursion.{Uses, agree_self}
use Rattle.graphql_grammar.proofs.Begins.{BeginsWith, begins_token, begins_when, begins_located, begins_wider, begins_same}
use Rattle.graphql_value_syntax.specs.ReadValues.{name_and, word_by, word_of, word_or_scalar, variable, variable_or, list_literal, object_literal, value_level, value}
use Rattle.graphql_value_syntax.specs.Directives.{NameOf}
use Rattle.graphql_value_syntax.proofs.ValueDepth.{agree_named, value_unfolds, value_uses}
use Rattle.graphql_value_syntax.specs.Values.{Is, spanned, ValueOf, of_true, of_false, of_null, of_enum, of_scalar, of_variable, of_list, of_object, ItemsOf, no_items, more_items, FieldsOf, no_fields, more_fields}

-- what a value begins with
abbrev pub value_kinds : Kinds
value_kinds k.Scalar = true
value_kinds k.Dollar = true
value_kinds k.BracketOpen = true
value_kinds k.CurlyOpen = true
value_kinds w = names w

-- what a value in one or two tokens begins with
abbrev simple_kinds : Kinds
simple_kinds k.Scalar = true
simple_kinds k.Dollar = true
simple_kinds w = names w

-- a token of names is a name
pub name_token : (x : Token) → names (kind x) ≡ true → x ≡ t.Name (name_of x)
name_token (t.Name n) h = refl
name_token (t.Scalar s) h = cc
name_token t.ExclamationMark h = cc
name_token t.Dollar h = cc
name_token t.ParenOpen h = cc
name_token t.ParenClose h = cc
name_token t.BracketOpen h = cc
name_token t.BracketClose h = cc
name_token t.CurlyOpen h = cc
name_token t.CurlyClose h = cc
name_token t.Ellipsis h = cc
name_token t.Colon h = cc
name_token t.Equals h = cc
name_token t.At h = cc
name_token t.Pipe h = cc
name_token t.EndOfFile h = cc

pub name_kind : (x : Token) (n : List ℕ) → x ≡ t.Name n → names (kind x) ≡ true
name_kind x n is = ap (λ y. names (kind y)) is ∙ word_is_name n

-- the relation of a name, a colon and what stands behind it
abbrev pub NamedOf : {A : Type 0} → (List Located → A → Type 0) → List Located → At (List ℕ) × A → Type 0
NamedOf R = Then (Placed NameOf) (λ key. Then (TokenOf {A = Unit {0}} (only k.Colon) (λ v. tt {0})) (λ u. Made (λ x. (key, x)) R))

module _ (Bad : Located → Fault → Type 0) (Good : Located → Type 0) where
  pub law_name : {n : ℕ} → Law Bad Good true names no_kind NameOf n name
  law_name = law_token names name_of Bad Good (t.Name []) refl refl

  pub law_placed_name : {n : ℕ} → Law Bad Good true names no_kind (Placed NameOf) n (located name)
  law_placed_name = law_located Bad Good refl refl law_name

-- the place of some tokens, if there is one
unfoldable pub span_in : Span → List Located → Span
span_in d [] = d
span_in d (a ∷ ts) = span_of a ts

-- what stands at the place of its tokens
pub stood : {A : Type 0} (R : List Located → At A → Type 0) (ts : List Located) (x : At A) → (head : Located) (tail : List Located) → ts ≡ head ∷ tail → x.span ≡ span_of head tail → R ts (record { item = x.item; span = span_in x.span ts }) → R ts x
unfolding span_in
stood R ts x head tail is stands r = subst (λ s. R ts (record { item = x.item; span = s })) (ap (span_in x.span) is ∙ sym stands) r

pub key_of : (us : List Located) (key : At (List ℕ)) → Placed NameOf us key → (a : Located) × (n : List ℕ) × (us ≡ a ∷ []) × (a.item ≡ t.Name n) × (key ≡ spanned a n a)
unfolding span_in
key_of us key r = let m = r.spells in let W : Span → At (List ℕ) = λ s. record { item = key.item; span = s } in
    (m.at, key.item, m.alone, name_token m.at.item m.of_kind ∙ ap t.Name (sym m.means), ap W (r.stands ∙ ap (span_in key.span) (sym r.is ∙ m.alone)))

-- the end of what a last token closes
pub closed_end : (a b : Located) (ts : List Located) → span_of a (ts ++ b ∷ []) ≡ record { start = a.span.start; end = b.span.end }
closed_end a b ts = ap (λ e. record { start = a.span.start; end = e }) (end-append a.span.end ts (b ∷ []))

in_wider : (s u : Kinds) → are_among s u ≡ true → (xs : List Located) → In s xs → In u xs
in_wider s u h xs is = within_is s u h (kind_ahead xs) is

module _ {S : Type 0} (reads : ScalarToken → Result S ParseError) (of_bool : Bool → S) where
  abbrev V : Type 0
  V = At (InputValue S)

  abbrev Bad : Located → Fault → Type 0
  Bad = BadScalar reads

  abbrev Good : Located → Type 0
  Good = GoodScalar reads

  -- ---- names, scalars and variables

  abbrev WordOf : List Located → InputValue S → Type 0
  WordOf = EitherOf (Made v.Scalar (ScalarOf reads)) (TokenOf names (word_of reads of_bool))

  law_word : {n : ℕ} → Law Bad Good true (either (only k.Scalar) names) no_kind WordOf n (word_or_scalar reads of_bool)
  law_word = law_scalar_or reads v.Scalar refl (law_token names (word_of reads of_bool) Bad Good (t.Name []) refl refl)

  abbrev VariableOf : List Located → InputValue S → Type 0
  VariableOf = Then (TokenOf {A = Unit {0}} (only k.Dollar) (λ x. tt {0})) (λ u. Made v.Variable NameOf)

  law_variable : {n : ℕ} → Law Bad Good true (only k.Dollar) no_kind VariableOf n (variable reads of_bool)
  law_variable = law_bind Bad Good refl (law_expect Bad Good k.Dollar refl) (λ u. law_made Bad Good v.Variable (law_name Bad Good))

  -- a variable, but not in a constant
  VariableOr : Bool → List Located → InputValue S → Type 0
  VariableOr true ts x = WordOf ts x
  VariableOr false ts x = EitherOf VariableOf WordOf ts x

  law_variable_or : (c : Bool) {n : ℕ} → Law Bad Good true simple_kinds no_kind (VariableOr c) n (variable_or reads of_bool c)
  unfolding VariableOr
  law_variable_or true = law_starts Bad Good (in_wider (either (only k.Scalar) names) simple_kinds refl) law_word
  law_variable_or false = law_starts Bad Good (in_wider (either (only k.Dollar) (either (only k.Scalar) names)) simple_kinds refl) (law_when Bad Good (only k.Dollar) refl refl law_variable law_word)

  -- ---- what stands inside brackets

  pub takes_value : (c : Bool) → Takes (value reads of_bool c)
  takes_value c i x j r = let l = value_uses reads of_bool c i x j r in omega arith

  pub value_at_end : (c : Bool) (f : Span) (e : SourcePosition) → value reads of_bool c (mk [] f e) ≡ Err (refused_at f [])
  unfolding value_level sees peek_kind peek token refusal
  value_at_end true f e = value_unfolds reads of_bool true (mk [] f e)
  value_at_end false f e = value_unfolds reads of_bool false (mk [] f e)

  abbrev pub ValueLaw : Bool → ℕ → Type 0
  ValueLaw c n = Law Bad Good true value_kinds no_kind (ValueOf S reads of_bool c) n (value reads of_bool c)

  abbrev ListOf : Bool → List Located → InputValue S → Type 0
  ListOf c = Made v.List (Between (AllOf (ValueOf S reads of_bool c)) k.BracketOpen k.BracketClose)

  law_list : (c : Bool) (n : ℕ) → ValueLaw c n → Law Bad Good true (only k.BracketOpen) no_kind (ListOf c) (suc n) (list_literal reads of_bool (value reads of_bool c))
  law_list c n l = law_made Bad Good v.List (law_between k.BracketClose (value reads of_bool c) refl (takes_value c) (value_at_end c) Bad Good value_kinds no_kind (ValueOf S reads of_bool c) refl refl
      k.BracketOpen refl refl refl (suc n) (law_fewer Bad Good (omega arith) l))

  -- a name, a colon and a value
  pub law_named : (c : Bool) (n : ℕ) → ValueLaw c n → Law Bad Good true names no_kind (NamedOf (ValueOf S reads of_bool c)) n (name_and (value reads of_bool c))
  law_named c n l = law_bind Bad Good refl (law_placed_name Bad Good) (λ key. law_bind Bad Good refl (law_expect Bad Good k.Colon refl) (λ u. law_made Bad Good (λ x. (key, x)) (law_fewer Bad Good (omega arith) l)))

  uses_named : (c : Bool) → Uses true (name_and (value reads of_bool c))
  uses_named c = (agree_named (agree_self {a = true} {n = 0} (value_uses reads of_bool c))).uses

  pub takes_named : (c : Bool) → Takes (name_and (value reads of_bool c))
  takes_named c i x j r = let l = uses_named c i x j r in omega arith

  pub named_at_end : (c : Bool) (f : Span) (e : SourcePosition) → name_and (value reads of_bool c) (mk [] f e) ≡ Err (refused_at f [])
  unfolding sees peek_kind peek token refusal
  named_at_end c f e = refl

  abbrev ObjectOf : Bool → List Located → InputValue S → Type 0
  ObjectOf c = Made v.Object (Between (AllOf (NamedOf (ValueOf S reads of_bool c))) k.CurlyOpen k.CurlyClose)

  law_object : (c : Bool) (n : ℕ) → ValueLaw c n → Law Bad Good true (only k.CurlyOpen) no_kind (ObjectOf c) (suc n) (object_literal reads of_bool (value reads of_bool c))
  law_object c n l = law_made Bad Good v.Object (law_between k.CurlyClose (name_and (value reads of_bool c)) refl (takes_named c) (named_at_end c) Bad Good names no_kind (NamedOf (ValueOf S reads of_bool c)) refl refl
      k.CurlyOpen refl refl refl (suc n) (law_fewer Bad Good (omega arith) (law_named c n l)))

  -- ---- a value

  BareOf : Bool → List Located → InputValue S → Type 0
  BareOf c = EitherOf (ListOf c) (EitherOf (ObjectOf c) (VariableOr c))

  law_bare : (c : Bool) (n : ℕ) → ValueLaw c n → Law Bad Good true value_kinds no_kind (BareOf c) (suc n) (value_level reads of_bool c (value reads of_bool c))
  unfolding value_level BareOf
  law_bare c n l = law_starts Bad Good (in_wider (either (only k.BracketOpen) (either (only k.CurlyOpen) simple_kinds)) value_kinds refl)
      (law_when Bad Good (only k.BracketOpen) refl refl (law_list c n l) (law_when Bad Good (only k.CurlyOpen) refl refl (law_object c n l) (law_variable_or c)))

  begins_or : (c : Bool) → BeginsWith simple_kinds (variable_or reads of_bool c)
  begins_or true = begins_wider (either (only k.Scalar) names) simple_kinds refl (begins_when (only k.Scalar) _ (begins_token names (word_of reads of_bool)))
  begins_or false = begins_wider (either (only k.Dollar) (either (only k.Scalar) names)) simple_kinds refl (begins_when (only k.Dollar) _ (begins_when (only k.Scalar) _ (begins_token names (word_of reads of_bool))))

  begins_bare : (c : Bool) → BeginsWith value_kinds (value_level reads of_bool c (value reads of_bool c))
  unfolding value_level
  begins_bare c = begins_wider (either (only k.BracketOpen) (either (only k.CurlyOpen) simple_kinds)) value_kinds refl (begins_when (only k.BracketOpen) _ (begins_when (only k.CurlyOpen) _ (begins_or c)))

  value_begins : (c : Bool) → BeginsWith value_kinds (value reads of_bool c)
  value_begins c = begins_same (value_unfolds reads of_bool c) (begins_located (begins_bare c))

  value_sentence : (c : Bool) → Sentence Bad Good (Free no_kind) (value reads of_bool c)
  unfolding value_level sees peek_kind peek token next
  value_sentence true f e = let a : Located = record { item = t.Name (codes "null"); span = f } in record { more = a ∷ []; tree = spanned a v.Null a; last = f.end; reads_on = λ zs h. value_unfolds reads of_bool true (mk (a ∷ zs) f e) }
  value_sentence false f e = let a : Located = record { item = t.Name (codes "null"); span = f } in record { more = a ∷ []; tree = spanned a v.Null a; last = f.end; reads_on = λ zs h. value_unfolds reads of_bool false (mk (a ∷ zs) f e) }

  -- ---- the grammar's own words

  abbrev Of : Bool → List Located → V → Type 0
  Of c = ValueOf S reads of_bool c

  -- the value of a name, by its kind
  abbrev OfWord : Bool → Located → Kind → Type 0
  OfWord c a w = Of c (a ∷ []) (spanned a (word_by reads of_bool w (name_of a.item)) a)

  enum_value : (c : Bool) (a : Located) (w : Kind) → kind a.item ≡ w → enum_names w ≡ true → names w ≡ true → Of c (a ∷ []) (spanned a (v.Enum (name_of a.item)) a)
  enum_value c a w is h u = of_enum a (name_of a.item) (name_token a.item (ap names is ∙ u)) (ap enum_names is ∙ h)

  word_value_by : (c : Bool) (a : Located) (w : Kind) → kind a.item ≡ w → names w ≡ true → OfWord c a w
  word_value_by c a k.True is h = of_true a (ap (only k.True) is)
  word_value_by c a k.False is h = of_false a (ap (only k.False) is)
  word_value_by c a k.Null is h = of_null a (ap (only k.Null) is)
  word_value_by c a k.Name is h = enum_value c a k.Name is refl refl
  word_value_by c a k.On is h = enum_value c a k.On is refl refl
  word_value_by c a k.Query is h = enum_value c a k.Query is refl refl
  word_value_by c a k.Mutation is h = enum_value c a k.Mutation is refl refl
  word_value_by c a k.Subscription is h = enum_value c a k.Subscription is refl refl
  word_value_by c a k.Fragment is h = enum_value c a k.Fragment is refl refl
  word_value_by c a w is h = absurd (cc)

  word_value : (c : Bool) (a : Located) → names (kind a.item) ≡ true → Of c (a ∷ []) (spanned a (word_of reads of_bool a.item) a)
  word_value c a h = word_value_by c a (kind a.item) refl h

  items_of : (c : Bool) (ts : List Located) (xs : List V) → AllOf (Of c) ts xs → ItemsOf S reads of_bool c ts xs
  items_of c _ _ none_more = no_items
  items_of c _ _ (one_more ts us xs x m r) = more_items ts us xs x (items_of c ts xs m) r

  of_items : (c : Bool) (ts : List Located) (xs : List V) → ItemsOf S reads of_bool c ts xs → AllOf (Of c) ts xs
  of_items c _ _ no_items = none_more
  of_items c _ _ (more_items ts us xs x m r) = one_more ts us xs x (of_items c ts xs m) r

  next_field : (c : Bool) (ts us : List Located) (ps : List (At (List ℕ) × V)) (q : At (List ℕ) × V) → FieldsOf S reads of_bool c ts ps → NamedOf (Of c) us q → FieldsOf S reads of_bool c (ts ++ us) (ps ++ q ∷ [])
  next_field c ts us ps q m r = let n = key_of r.front r.part r.begins in let e = r.ends in let o = e.begins in let x = e.ends in
      let front : us ≡ n.0 ∷ o.at ∷ e.back = r.is ∙ ap (λ ws. ws ++ r.back) n.2 ∙ ap (λ ws. n.0 ∷ ws) (e.is ∙ ap (λ ws. ws ++ e.back) o.alone) in
      let made : q ≡ (spanned n.0 n.1 n.0, x.part) = x.is ∙ ap (λ y. (y, x.part)) n.4 in
      subst (λ ws. FieldsOf S reads of_bool c (ts ++ ws) (ps ++ q ∷ [])) (sym front) (subst (λ y. FieldsOf S reads of_bool c (ts ++ (n.0 ∷ o.at ∷ e.back)) (ps ++ y ∷ [])) (sym made)
      (more_fields ts e.back ps n.0 o.at n.1 x.part m n.3 o.of_kind x.spells))

  fields_of : (c : Bool) (ts : List Located) (ps : List (At (List ℕ) × V)) → AllOf (NamedOf (Of c)) ts ps → FieldsOf S reads of_bool c ts ps
  fields_of c _ _ none_more = no_fields
  fields_of c _ _ (one_more ts us xs x m r) = next_field c ts us xs x (fields_of c ts xs m) r

  named_of : (c : Bool) (a b : Located) (n : List ℕ) (us : List Located) (x : V) → a.item ≡ t.Name n → Is k.Colon b → Of c us x → NamedOf (Of c) (a ∷ b ∷ us) (spanned a n a, x)
  named_of c a b n us x is colon r = record {
    front = a ∷ [];
    back = b ∷ us;
    is = refl;
    part = spanned a n a;
    begins = record { head = a; tail = []; is = refl; spells = record { at = a; alone = refl; of_kind = name_kind a.item n is; means = sym (ap name_of is) }; stands = refl };
    ends = record { front = b ∷ []; back = us; is = refl; part = tt; begins = record { at = b; alone = refl; of_kind = colon; means = refl }; ends = record { part = x; spells = r; is = refl } };
  }

  of_fields : (c : Bool) (ts : List Located) (ps : List (At (List ℕ) × V)) → FieldsOf S reads of_bool c ts ps → AllOf (NamedOf (Of c)) ts ps
  of_fields c _ _ no_fields = none_more
  of_fields c _ _ (more_fields ts us ps a b n x m is colon r) = one_more ts (a ∷ b ∷ us) ps (spanned a n a, x) (of_fields c ts ps m) (named_of c a b n us x is colon r)

  -- a value, at the place of its tokens
  abbrev Spells : Bool → Span → List Located → InputValue S → Type 0
  Spells c d ts y = Of c ts (record { item = y; span = span_in d ts })

  list_value : (c : Bool) (d : Span) (ts : List Located) (y : InputValue S) → ListOf c ts y → Spells c d ts y
  unfolding span_in
  list_value c d ts y r = let m = r.spells in
      subst (λ us. Spells c d us y) (sym m.is) (subst (λ z. Spells c d (m.first ∷ (m.inside ++ m.last ∷ [])) z) (sym r.is)
      (subst (λ s. Of c (m.first ∷ (m.inside ++ m.last ∷ [])) (record { item = v.List r.part; span = s })) (sym (closed_end m.first m.last m.inside)) (of_list m.first m.last m.inside r.part m.opens (items_of c m.inside r.part m.spells) m.closes)))

  object_value : (c : Bool) (d : Span) (ts : List Located) (y : InputValue S) → ObjectOf c ts y → Spells c d ts y
  unfolding span_in
  object_value c d ts y r = let m = r.spells in
      subst (λ us. Spells c d us y) (sym m.is) (subst (λ z. Spells c d (m.first ∷ (m.inside ++ m.last ∷ [])) z) (sym r.is)
      (subst (λ s. Of c (m.first ∷ (m.inside ++ m.last ∷ [])) (record { item = v.Object r.part; span = s })) (sym (closed_end m.first m.last m.inside)) (of_object m.first m.last m.inside r.part m.opens (fields_of c m.inside r.part m.spells) m.closes)))

  simple_value : (c : Bool) (d : Span) (ts : List Located) (y : InputValue S) → WordOf ts y → Spells c d ts y
  unfolding span_in
  simple_value c d ts y (inl r) = let m = r.spells in
      subst (λ us. Spells c d us y) (sym m.alone) (subst (λ z. Spells c d (m.at ∷ []) z) (sym r.is) (of_scalar m.at m.token r.part m.is m.reads_it))
  simple_value c d ts y (inr r) = subst (λ us. Spells c d us y) (sym r.alone) (subst (λ z. Spells c d (r.at ∷ []) z) (sym r.means) (word_value c r.at r.of_kind))

  variable_value : (d : Span) (ts : List Located) (y : InputValue S) → VariableOf ts y → Spells false d ts y
  unfolding span_in
  variable_value d ts y r = let o = r.begins in let e = r.ends in let m = e.spells in
      let whole : ts ≡ o.at ∷ m.at ∷ [] = r.is ∙ ap (λ ws. ws ++ r.back) o.alone ∙ ap (λ ws. o.at ∷ ws) m.alone in
      subst (λ us. Spells false d us y) (sym whole) (subst (λ z. Spells false d (o.at ∷ m.at ∷ []) z) (sym e.is)
      (of_variable o.at m.at e.part refl o.of_kind (name_token m.at.item m.of_kind ∙ ap t.Name (sym m.means))))

  or_value : (c : Bool) (d : Span) (ts : List Located) (y : InputValue S) → VariableOr c ts y → Spells c d ts y
  unfolding VariableOr
  or_value true d ts y r = simple_value true d ts y r
  or_value false d ts y (inl r) = variable_value d ts y r
  or_value false d ts y (inr r) = simple_value false d ts y r

  bare_value : (c : Bool) (d : Span) (ts : List Located) (y : InputValue S) → BareOf c ts y → Spells c d ts y
  unfolding BareOf
  bare_value c d ts y (inl r) = list_value c d ts y r
  bare_value c d ts y (inr (inl r)) = object_value c d ts y r
  bare_value c d ts y (inr (inr r)) = or_value c d ts y r

  there : (c : Bool) (ts : List Located) (x : V) → Placed (BareOf c) ts x → Of c ts x
  there c ts x r = stood (Of c) ts x r.head r.tail r.is r.stands (bare_value c x.span ts x.item r.spells)

  -- ---- and back

  simple_back : (c : Bool) (ts : List Located) (y : InputValue S) → WordOf ts y → BareOf c ts y
  unfolding BareOf VariableOr
  simple_back true ts y r = inr (inr r)
  simple_back false ts y r = inr (inr (inr r))

  word_back : (c : Bool) (a : Located) (w : Kind) (y : InputValue S) → kind a.item ≡ w → names w ≡ true → y ≡ word_by reads of_bool w (name_of a.item) → Placed (BareOf c) (a ∷ []) (spanned a y a)
  word_back c a w y is h means = record {
    head = a;
    tail = [];
    is = refl;
    stands = refl;
    spells = simple_back c (a ∷ []) y (inr (record { at = a; alone = refl; of_kind = ap names is ∙ h; means = means ∙ ap (λ x. word_by reads of_bool x (name_of a.item)) (sym is) }));
  }

  enum_by : (w : Kind) (n : List ℕ) → enum_names w ≡ true → word_by reads of_bool w n ≡ v.Enum n
  enum_by k.True n h = absurd (cc)
  enum_by k.False n h = absurd (cc)
  enum_by k.Null n h = absurd (cc)
  enum_by w n h = refl

  back : (c : Bool) (ts : List Located) (x : V) → Of c ts x → Placed (BareOf c) ts x
  unfolding BareOf VariableOr
  back c _ _ (of_true a h) = word_back c a k.True (v.Scalar (of_bool true)) (is_kind (kind a.item) k.True h) refl refl
  back c _ _ (of_false a h) = word_back c a k.False (v.Scalar (of_bool false)) (is_kind (kind a.item) k.False h) refl refl
  back c _ _ (of_null a h) = word_back c a k.Null v.Null (is_kind (kind a.item) k.Null h) refl refl
  back c _ _ (of_enum a n is h) = word_back c a (kind a.item) (v.Enum n) refl (name_kind a.item n is) (ap (λ y. v.Enum (name_of y)) (sym is) ∙ sym (enum_by (kind a.item) (name_of a.item) h))
  back c _ _ (of_scalar a token s is means) = record {
    head = a;
    tail = [];
    is = refl;
    stands = refl;
    spells = simple_back c (a ∷ []) (v.Scalar s) (inl (record { part = s; spells = record { at = a; token = token; alone = refl; is = is; reads_it = means }; is = refl }));
  }
  back true _ _ (of_variable a b n open_ h is) = absurd (cc)
  back false _ _ (of_variable a b n open_ h is) = record {
    head = a;
    tail = b ∷ [];
    is = refl;
    stands = refl;
    spells = inr (inr (inl (record {
      front = a ∷ [];
      back = b ∷ [];
      is = refl;
      part = tt;
      begins = record { at = a; alone = refl; of_kind = h; means = refl };
      ends = record { part = n; spells = record { at = b; alone = refl; of_kind = name_kind b.item n is; means = sym (ap name_of is) }; is = refl };
    })));
  }
  back c _ _ (of_list a b ts xs h m u) = record {
    head = a;
    tail = ts ++ b ∷ [];
    is = refl;
    stands = sym (closed_end a b ts);
    spells = inl (record { part = xs; spells = record { first = a; inside = ts; last = b; is = refl; opens = h; closes = u; spells = of_items c ts xs m }; is = refl });
  }
  back c _ _ (of_object a b ts ps h m u) = record {
    head = a;
    tail = ts ++ b ∷ [];
    is = refl;
    stands = sym (closed_end a b ts);
    spells = inr (inl (record { part = ps; spells = record { first = a; inside = ts; last = b; is = refl; opens = h; closes = u; spells = of_fields c ts ps m }; is = refl }));
  }

  -- ---- the law of values

  pub law_value : (c : Bool) (n : ℕ) → ValueLaw c n
  law_value c zero = law_zero Bad Good (value_sentence c) (λ i j x r. (value_begins c).at i j x r)
  law_value c (suc n) = law_is Bad Good (there c) (back c) (law_same Bad Good (value_unfolds reads of_bool c) (law_located Bad Good refl refl (law_bare c n (law_value c n))))

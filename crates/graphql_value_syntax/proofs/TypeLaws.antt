-- Type references: the law of each production.
use Rattle.std.proofs.Common.{◌≡◌, ℕ, zero, suc, inl, inr, true, false, List, [], ◌∷◌, ◌++◌, ap, ◌∙◌, sym, refl, subst, arith}
use Rattle.std.proofs.lemmas.List.{append-nil}
use Rattle.std.specs.Prelude.{codes}
use Rattle.graphql_text.specs.declared.position.Span.{Span}
use Rattle.graphql_text.specs.declared.token.Token.TheVariants as t
use Rattle.graphql_names.specs.declared.type_modifier.TypeModifier.TheVariants as m
use Rattle.graphql_grammar.specs.declared.kind.Kind.TheVariants as k
use Rattle.graphql_grammar.specs.Kinds.{Kinds, only, either, no_kind, names}
use Rattle.graphql_grammar.specs.Input.{At, Located, Fault, ◌>>=◌, pure, peek, peek_kind, next}
use Rattle.graphql_grammar.specs.Steps.{sees, token, expect, name_of, when}
use Rattle.graphql_grammar.specs.Ahead.{mk, Free}
use Rattle.graphql_grammar.specs.Relations.{TokenOf, Nothing, Then, Made, Placed, EitherOf}
use Rattle.graphql_grammar.proofs.Stops.{Sentence}
use Rattle.graphql_grammar.proofs.Law.{Law, law_bind, law_pure, law_made, law_is, law_fewer, law_same, law_zero, law_wider}
use Rattle.graphql_grammar.proofs.Choices.{law_expect, law_when, law_located}
use Rattle.graphql_grammar.proofs.Begins.{BeginsWith, begins_token, begins_bind, begins_when, begins_located, begins_same}
use Rattle.graphql_value_syntax.specs.ReadTypes.{TypeRef, plain, with_wrap, list_type, nullable_type, bare_type, type_ref}
use Rattle.graphql_value_syntax.specs.Values.{spanned}
use Rattle.graphql_value_syntax.specs.Types.{NullableOf, of_name, of_list, TypeOf, of_nullable, of_non_null}
use Rattle.graphql_value_syntax.specs.Directives.{NameOf}
use Rattle.graphql_value_syntax.proofs.TypeDepth.{type_unfolds}
use Rattle.graphql_value_syntax.proofs.ValueLaws.{name_token, name_kind, law_name, closed_end, stood, span_in}

-- what a type begins with
abbrev pub type_kinds : Kinds
type_kinds = either (only k.BracketOpen) names

abbrev ListOf : List Located → TypeRef → Type 0
ListOf = Then (TokenOf {A = Unit {0}} (only k.BracketOpen) (λ v. tt {0})) (λ u. Then TypeOf (λ x. Made (λ w. list_type x) (TokenOf {A = Unit {0}} (only k.BracketClose) (λ v. tt {0}))))

abbrev NullableIs : List Located → TypeRef → Type 0
NullableIs = EitherOf ListOf (Made plain NameOf)

abbrev Bang : TypeRef → List Located → TypeRef → Type 0
Bang x = EitherOf (Made (λ u. with_wrap m.NonNull x) (TokenOf {A = Unit {0}} (only k.ExclamationMark) (λ v. tt {0}))) (Nothing x)

module _ (Bad : Located → Fault → Type 0) (Good : Located → Type 0) where
  abbrev pub TypeLaw : ℕ → Type 0
  TypeLaw n = Law Bad Good true type_kinds (only k.ExclamationMark) TypeOf n type_ref

  law_nullable : (n : ℕ) → TypeLaw n → Law Bad Good true type_kinds no_kind NullableIs (suc n) (nullable_type type_ref)
  law_nullable n l = law_when Bad Good (only k.BracketOpen) refl refl
      (law_bind Bad Good refl (law_expect Bad Good k.BracketOpen refl) (λ u. law_bind Bad Good refl (law_fewer Bad Good (omega arith) l) (λ x. law_made Bad Good (λ w. list_type x) (law_expect Bad Good k.BracketClose refl))))
      (law_made Bad Good plain (law_name Bad Good))

  law_bang : {n : ℕ} (x : TypeRef) → Law Bad Good false (only k.ExclamationMark) (only k.ExclamationMark) (Bang x) n (when (only k.ExclamationMark) (expect k.ExclamationMark >>= (λ u. pure (with_wrap m.NonNull x))) (pure x))
  law_bang x = law_wider Bad Good (only k.ExclamationMark) (only k.ExclamationMark) refl refl
      (law_when Bad Good (only k.ExclamationMark) refl refl (law_made Bad Good (λ u. with_wrap m.NonNull x) (law_expect Bad Good k.ExclamationMark refl)) (law_pure Bad Good x))

  law_bare : (n : ℕ) → TypeLaw n → Law Bad Good true type_kinds (only k.ExclamationMark) (Then NullableIs Bang) (suc n) (bare_type type_ref)
  unfolding bare_type
  law_bare n l = law_wider Bad Good type_kinds (only k.ExclamationMark) refl refl (law_bind Bad Good refl (law_nullable n l) (λ x. law_bang x))

  type_begins : BeginsWith type_kinds type_ref
  unfolding bare_type
  type_begins = begins_same type_unfolds (begins_located (begins_bind _ (begins_when (only k.BracketOpen) _ (begins_bind _ (begins_token names name_of)))))

  type_sentence : Sentence Bad Good (Free (only k.ExclamationMark)) type_ref
  unfolding bare_type sees peek_kind peek token next
  type_sentence f e = let a : Located = record { item = t.Name (codes "a"); span = f } in let b : Located = record { item = t.ExclamationMark; span = f } in
      record { more = a ∷ b ∷ []; tree = spanned a (with_wrap m.NonNull (plain (codes "a"))) b; last = f.end; reads_on = λ zs h. type_unfolds (mk (a ∷ b ∷ zs) f e) }

  -- ---- the grammar's own words

  nullable_there : (ts : List Located) (x : TypeRef) → NullableIs ts x → NullableOf ts x
  nullable_there ts x (inl r) = let o = r.begins in let e = r.ends in let c = e.ends in let w = c.spells in
      let whole : ts ≡ o.at ∷ (e.front ++ w.at ∷ []) = r.is ∙ ap (λ ws. ws ++ r.back) o.alone ∙ ap (λ ws. o.at ∷ ws) (e.is ∙ ap (λ ws. e.front ++ ws) w.alone) in
      subst (λ us. NullableOf us x) (sym whole) (subst (λ y. NullableOf (o.at ∷ (e.front ++ w.at ∷ [])) y) (sym c.is) (of_list o.at w.at e.front e.part o.of_kind e.begins w.of_kind))
  nullable_there ts x (inr r) = let w = r.spells in
      subst (λ us. NullableOf us x) (sym w.alone) (subst (λ y. NullableOf (w.at ∷ []) y) (sym r.is) (of_name w.at r.part (name_token w.at.item w.of_kind ∙ ap t.Name (sym w.means))))

  nullable_back : (ts : List Located) (x : TypeRef) → NullableOf ts x → NullableIs ts x
  nullable_back _ _ (of_name a n is) = inr (record { part = n; spells = record { at = a; alone = refl; of_kind = name_kind a.item n is; means = sym (ap name_of is) }; is = refl })
  nullable_back _ _ (of_list a b ts x h r u) = inl (record {
    front = a ∷ [];
    back = ts ++ b ∷ [];
    is = refl;
    part = tt;
    begins = record { at = a; alone = refl; of_kind = h; means = refl };
    ends = record { front = ts; back = b ∷ []; is = refl; part = x; begins = r; ends = record { part = tt; spells = record { at = b; alone = refl; of_kind = u; means = refl }; is = refl } };
  })

  nullable_front : (ts : List Located) (x : TypeRef) → NullableOf ts x → (a : Located) × (us : List Located) × (ts ≡ a ∷ us)
  nullable_front _ _ (of_name a n is) = (a, [], refl)
  nullable_front _ _ (of_list a b ts x h r u) = (a, ts ++ b ∷ [], refl)

  bang_there : (d : Span) (front back : List Located) (x y : TypeRef) → NullableOf front x → Bang x back y → TypeOf (front ++ back) (record { item = y; span = span_in d (front ++ back) })
  unfolding span_in
  bang_there d front back x y r (inl o) = let h = nullable_front front x r in let w = o.spells in
      subst (λ us. TypeOf (front ++ us) (record { item = y; span = span_in d (front ++ us) })) (sym w.alone) (subst (λ us. TypeOf (us ++ w.at ∷ []) (record { item = y; span = span_in d (us ++ w.at ∷ []) })) (sym h.2)
      (subst (λ z. TypeOf (h.0 ∷ (h.1 ++ w.at ∷ [])) (record { item = z; span = span_in d (h.0 ∷ (h.1 ++ w.at ∷ [])) })) (sym o.is)
      (subst (λ s. TypeOf (h.0 ∷ (h.1 ++ w.at ∷ [])) (record { item = with_wrap m.NonNull x; span = s })) (sym (closed_end h.0 w.at h.1)) (of_non_null h.0 w.at h.1 x (subst (λ us. NullableOf us x) h.2 r) w.of_kind))))
  bang_there d front back x y r (inr o) = let h = nullable_front front x r in
      subst (λ us. TypeOf us (record { item = y; span = span_in d us })) (sym (ap (λ us. front ++ us) o.empty ∙ append-nil front)) (subst (λ us. TypeOf us (record { item = y; span = span_in d us })) (sym h.2)
      (subst (λ z. TypeOf (h.0 ∷ h.1) (record { item = z; span = span_in d (h.0 ∷ h.1) })) (sym o.is) (of_nullable h.0 h.1 x (subst (λ us. NullableOf us x) h.2 r))))

  there : (ts : List Located) (x : At TypeRef) → Placed (Then NullableIs Bang) ts x → TypeOf ts x
  there ts x r = let b = r.spells in stood TypeOf ts x r.head r.tail r.is r.stands
      (subst (λ us. TypeOf us (record { item = x.item; span = span_in x.span us })) (sym b.is) (bang_there x.span b.front b.back b.part x.item (nullable_there b.front b.part b.begins) b.ends))

  back : (ts : List Located) (x : At TypeRef) → TypeOf ts x → Placed (Then NullableIs Bang) ts x
  back _ _ (of_nullable a ts x r) = record {
    head = a;
    tail = ts;
    is = refl;
    stands = refl;
    spells = record { front = a ∷ ts; back = []; is = sym (append-nil (a ∷ ts)); part = x; begins = nullable_back (a ∷ ts) x r; ends = inr (record { empty = refl; is = refl }) };
  }
  back _ _ (of_non_null a b ts x r h) = record {
    head = a;
    tail = ts ++ b ∷ [];
    is = refl;
    stands = sym (closed_end a b ts);
    spells = record { front = a ∷ ts; back = b ∷ []; is = refl; part = x; begins = nullable_back (a ∷ ts) x r; ends = inl (record { part = tt; spells = record { at = b; alone = refl; of_kind = h; means = refl }; is = refl }) };
  }

  pub law_type : (n : ℕ) → TypeLaw n
  law_type zero = law_zero Bad Good type_sentence (λ i j x r. type_begins.at i j x r)
  law_type (suc n) = law_is Bad Good there back (law_same Bad Good type_unfolds (law_located Bad Good refl refl (law_bare n (law_type n))))

-- Steps of what tokens spell wherever they stand.
use Rattle.std.proofs.Common.{◌≡◌, refl, sym, ◌∙◌, ap, subst, inl, inr, true, List, [], ◌∷◌, ◌++◌, map, Some, None}
use Rattle.std.specs.List.{flat_map}
use Rattle.std.specs.Option.{option_map}
use Rattle.std.proofs.lemmas.List.{map-append, append-nil}
use Rattle.std.proofs.Common.{append_assoc}
use Rattle.graphql_text.specs.declared.token.Token.{Token}
use Rattle.graphql_values.specs.InputValues.{unplaced}
use Rattle.graphql_grammar.specs.declared.kind.Kind.{Kind}
use Rattle.graphql_grammar.specs.Kinds.{Kinds, kind, only}
use Rattle.graphql_grammar.specs.Input.{At, Located}
use Rattle.graphql_grammar.specs.Alike.{tokens_of}
use Rattle.graphql_grammar.specs.Relations.{Rel, span_of, TokenOf, Nothing, Then, Made, Placed, OptionOf, absent, present, AllFrom, none_more, one_more, SomeOf, Between, EitherOf}
use Rattle.graphql_tree.specs.Unlocated.{without_place}
use Rattle.graphql_plain_text.specs.Again.{Again, EachAgain}

-- ---- tokens taken apart

pub record Split (us : List Located) (xs ys : List Token) : Type 0 where
  pub front : List Located
  pub back : List Located
  pub is : us ≡ front ++ back
  pub first : tokens_of front ≡ xs
  pub second : tokens_of back ≡ ys

pub split : (xs ys : List Token) (us : List Located) → tokens_of us ≡ xs ++ ys → Split us xs ys
split [] ys us h = record { front = []; back = us; is = refl; first = refl; second = h }
split (x ∷ xs) ys [] h = absurd (cc)
split (x ∷ xs) ys (a ∷ us) h =
    let one : a.item ≡ x = cc in
    let rest : tokens_of us ≡ xs ++ ys = cc in
    let r = split xs ys us rest in
    record {
      front = a ∷ r.front;
      back = r.back;
      is = ap (λ l. a ∷ l) r.is;
      first
          = (λ i. one i ∷ r.first i);
      second = r.second;
    }

pub no_token : (us : List Located) → tokens_of us ≡ [] → us ≡ []
no_token [] h = refl
no_token (a ∷ us) h = absurd (cc)

pub one_token : (x : Token) (us : List Located) → tokens_of us ≡ x ∷ []
    → (a : Located) × (us ≡ a ∷ []) × (a.item ≡ x)
one_token x [] h = absurd (cc)
one_token x (a ∷ []) h = (a, refl, (let e : a.item ≡ x = cc in e))
one_token x (a ∷ b ∷ us) h = absurd (cc)

-- ---- tokens put together

pub joined_four : (us a b c d e f : List Located) → us ≡ a ++ b → b ≡ c ++ d → d ≡ e ++ f
    → us ≡ a ++ (c ++ (e ++ f))
joined_four us a b c d e f one two three =
    one ∙ ap (λ l. a ++ l) (two ∙ ap (λ l. c ++ l) three)

pub joined_behind : (before us front back : List Located) → us ≡ front ++ back
    → (before ++ front) ++ back ≡ before ++ us
joined_behind before us front back is =
    append_assoc before front back ∙ ap (λ l. before ++ l) (sym is)

-- between a first and a last token
pub enclosed : (us front back inside behind : List Located) (a z : Located) → us ≡ front ++ back
    → front ≡ a ∷ [] → back ≡ inside ++ behind → behind ≡ z ∷ [] → us ≡ a ∷ (inside ++ z ∷ [])
enclosed us front back inside behind a z is first rest last =
    is ∙ (λ i. first i ++ (rest ∙ ap (λ l. inside ++ l) last) i)

-- ---- steps

pub again_token : {A : Type 0} (kinds : Kinds) (meaning : Token → A) (x : Token)
    → kinds (kind x) ≡ true → Again (TokenOf kinds meaning) (λ y. y) (x ∷ []) (meaning x)
again_token kinds meaning x k us h =
    let o = one_token x us h in (
      meaning x,
      record {
        at = o.0;
        alone = o.1;
        of_kind = ap (λ z. kinds (kind z)) o.2 ∙ k;
        means
            = ap meaning (sym o.2);
      },
      refl,
    )

pub again_then : {A B C D : Type 0} (P : Rel A) (Q : A → Rel B) (see : A → C) (look : B → D)
    (xs ys : List Token) (a : C) (b : D)
    → Again P see xs a → ((p : A) → see p ≡ a → Again (Q p) look ys b) → Again (Then P Q) look
    (xs ++ ys) b
again_then P Q see look xs ys a b one two us h =
    let s = split xs ys us h in
    let p = one s.front s.first in
    let q = two p.0 p.2 s.back s.second in (
      q.0,
      record {
        front = s.front;
        back = s.back;
        is = s.is;
        part = p.0;
        begins = p.1;
        ends = q.1;
      },
      q.2,
    )

-- with nothing behind
pub again_end : {A B : Type 0} (P : Rel A) (see : A → B) (xs : List Token) (a : B)
    → Again P see (xs ++ []) a → Again P see xs a
again_end P see xs a one us h = one us (h ∙ sym (append-nil xs))

pub again_made : {A B C D : Type 0} (make : A → B) (P : Rel A) (see : A → C) (look : B → D)
    (xs : List Token) (a : C) (b : D)
    → Again P see xs a → ((y : A) → see y ≡ a → look (make y) ≡ b) → Again (Made make P) look xs b
again_made make P see look xs a b one made us h =
    let p = one us h in (make p.0, record { part = p.0; spells = p.1; is = refl }, made p.0 p.2)

placed_at : {A C : Type 0} (P : Rel A) (see : A → C) (x : Token) (xs : List Token) (a : C)
    → Again P see (x ∷ xs) a → (us : List Located) → tokens_of us ≡ x ∷ xs
    → (y : At A) × Placed P us y × (without_place see y ≡ unplaced a)
placed_at P see x xs a one [] h = absurd (cc)
placed_at P see x xs a one (t ∷ ts) h =
    let p = one (t ∷ ts) h in (
      record { item = p.0; span = span_of t ts },
      record { head = t; tail = ts; is = refl; spells = p.1; stands = refl },
      ap unplaced p.2,
    )

pub again_placed : {A C : Type 0} (P : Rel A) (see : A → C) (x : Token) (xs : List Token) (a : C)
    → Again P see (x ∷ xs) a → Again (Placed P) (without_place see) (x ∷ xs) (unplaced a)
again_placed = placed_at

pub again_absent : {A C : Type 0} (P : Rel A) (see : A → C)
    → Again (OptionOf P) (option_map see) [] None
again_absent P see us h =
    (None, subst (λ ts. OptionOf P ts None) (sym (no_token us h)) absent, refl)

pub again_present : {A C : Type 0} (P : Rel A) (see : A → C) (xs : List Token) (a : C)
    → Again P see xs a → Again (OptionOf P) (option_map see) xs (Some a)
again_present P see xs a one us h =
    let p = one us h in (Some p.0, present us p.0 p.1, ap (λ z. Some z) p.2)

pub again_nothing : {A C : Type 0} (wanted : A) (see : A → C)
    → Again (Nothing wanted) see [] (see wanted)
again_nothing wanted see us h = (wanted, record { empty = no_token us h; is = refl }, refl)

pub again_left : {A C : Type 0} (P Q : Rel A) (see : A → C) (xs : List Token) (a : C)
    → Again P see xs a → Again (EitherOf P Q) see xs a
again_left P Q see xs a one us h = let p = one us h in (p.0, inl p.1, p.2)

pub again_right : {A C : Type 0} (P Q : Rel A) (see : A → C) (xs : List Token) (a : C)
    → Again Q see xs a → Again (EitherOf P Q) see xs a
again_right P Q see xs a one us h = let p = one us h in (p.0, inr p.1, p.2)

pub again_between : {A C : Type 0} (P : Rel A) (w close : Kind) (see : A → C) (o c : Token)
    (xs : List Token) (a : C)
    → only w (kind o) ≡ true → only close (kind c) ≡ true
    → Again P see xs a → Again (Between P w close) see ((o ∷ []) ++ (xs ++ (c ∷ []))) a
again_between P w close see o c xs a k l one us h =
    let s = split (o ∷ []) (xs ++ (c ∷ [])) us h in
    let r = split xs (c ∷ []) s.back s.second in
    let first = one_token o s.front s.first in
    let last = one_token c r.back r.second in
    let p = one r.front r.first in (
      p.0,
      record {
        first = first.0;
        inside = r.front;
        last = last.0;
        is = enclosed us s.front s.back r.front r.back first.0 last.0 s.is first.1 r.is last.1;
        opens = ap (λ z. only w (kind z)) first.2 ∙ k;
        closes = ap (λ z. only close (kind z)) last.2 ∙ l;
        spells = p.1;
      },
      p.2,
    )

module _ {A B C : Type 0} (P : Rel A) (see : A → B) (f : C → List Token) (g : C → B) where
  seen-behind : (ys found : List A) (p : A) (c : C) (cs : List C)
      → map see ys ≡ map see (found ++ p ∷ []) ++ map g cs → see p ≡ g c
      → map see ys ≡ map see found ++ (g c ∷ map g cs)
  seen-behind ys found p c cs e one =
      e ∙ ap (λ l. l ++ map g cs)
      (map-append see found (p ∷ []) ∙ ap (λ z. map see found ++ z ∷ []) one)
      ∙ append_assoc (map see found) (g c ∷ []) (map g cs)

  more : (cs : List C) → EachAgain P see f g cs → (start found : List A) (ts us : List Located)
      → AllFrom P start ts found → tokens_of us ≡ flat_map f cs
      → (ys : List A) × AllFrom P start (ts ++ us) ys × (map see ys ≡ map see found ++ map g cs)
  more [] each start found ts us d h =
      let none_left : ts ++ us ≡ ts = ap (λ l. ts ++ l) (no_token us h) ∙ append-nil ts in
      let spells = subst (λ l. AllFrom P start l found) (sym none_left) d in
      (found, spells, sym (append-nil (map see found)))
  more (c ∷ cs) each start found ts us d h =
      let s = split (f c) (flat_map f cs) us h in
      let p = each.0 s.front s.first in
      let r =
      more cs each.1 start (found ++ p.0 ∷ []) (ts ++ s.front) s.back
      (one_more ts s.front found p.0 d p.1) s.second in (
        r.0,
        subst (λ l. AllFrom P start l r.0) (joined_behind ts us s.front s.back s.is) r.1,
        seen-behind r.0 found p.0 c cs r.2 p.2,
      )

  -- one item, and more of them
  pub again_some : (c : C) (cs : List C) → EachAgain P see f g (c ∷ cs)
      → Again (SomeOf P) (map see) (f c ++ flat_map f cs) (g c ∷ map g cs)
  again_some c cs each us h =
      let s = split (f c) (flat_map f cs) us h in
      let p = each.0 s.front s.first in
      let r = more cs each.1 (p.0 ∷ []) (p.0 ∷ []) [] s.back none_more s.second in (
        r.0,
        record {
          front = s.front;
          back = s.back;
          is = s.is;
          part = p.0;
          begins = p.1;
          ends = r.1;
        },
        r.2 ∙ ap (λ z. z ∷ map g cs) p.2,
      )

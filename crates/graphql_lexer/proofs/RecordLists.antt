-- Lists of records, and the tokens that are cut by them.
use Rattle.std.proofs.Common.{◌≡◌, ◌++◌, ◌∷◌, [], ℕ, zero, suc, true, List, length, slice_get, Some, None, sym, subst, ap, ◌∙◌, refl}
use Rattle.std.specs.List.{All}
use Rattle.std.specs.Option.{option_map}
use Rattle.std.proofs.lemmas.List.{map-append, length-map, same_from_push}
use Rattle.std.proofs.lemmas.List.Elements.{All-nil, All-cons, All-head, All-tail}
use Rattle.std.proofs.lemmas.Option.{slice_get-map}
use Rattle.graphql_lexer.specs.declared.token_record.TokenRecord.{TokenRecord}
use Rattle.graphql_text.specs.declared.position.Span.{Span}
use Rattle.graphql_text.specs.declared.token.Token.{Token}
use Rattle.graphql_text.specs.declared.token.Token.TheVariants as t
use Rattle.graphql_text.specs.Tokens.{Located, is_end}
use Rattle.graphql_text.specs.Grammar.{IsDivided}
use Rattle.graphql_lexer.specs.Laws.{InOrder}
use Rattle.graphql_lexer.specs.Records.{AllStand, AreRecords, StandsIn, IsRecorded, token_of, tokens_in}
use Rattle.graphql_lexer.specs.Within.{Rises}
use Rattle.graphql_lexer.proofs.DividedLaws.{spans_in_order}

-- ---- all but the last

all_front : {X : Type 0} (P : X → Type 0) (xs ys : List X) → All P (xs ++ ys) → All P xs
all_front P [] ys h = All-nil P
all_front P (x ∷ xs) ys h = All-cons P x xs (All-head P x (xs ++ ys) h) (all_front P xs ys (All-tail P x (xs ++ ys) h))

all_last : {X : Type 0} (P : X → Type 0) (xs : List X) (y : X) → All P (xs ++ y ∷ []) → P y
all_last P [] y h = All-head P y [] h
all_last P (x ∷ xs) y h = all_last P xs y (All-tail P x (xs ++ y ∷ []) h)

pub last_fits : (source : List ℕ) (all front : List TokenRecord) (last : TokenRecord) → AllStand source all → all ≡ front ++ last ∷ [] → StandsIn source last
last_fits source all front last h e = let P : List TokenRecord → Type 0 = λ rs. AllStand source rs in all_last (StandsIn source) front last (subst P e h)

rises_front : (from : ℕ) (ts us : List Located) (to : ℕ) → InOrder from (ts ++ us) to → Rises from ts
rises_front from [] us to h = tt
rises_front from (x ∷ ts) us to h = (h.0, h.1, rises_front x.span.end.index ts us to h.3)

end_item : (x : Token) → is_end x ≡ true → x ≡ t.EndOfFile
end_item t.EndOfFile e = refl
end_item (t.Name n) e = absurd (cc)
end_item (t.Scalar s) e = absurd (cc)
end_item t.ExclamationMark e = absurd (cc)
end_item t.Dollar e = absurd (cc)
end_item t.ParenOpen e = absurd (cc)
end_item t.ParenClose e = absurd (cc)
end_item t.BracketOpen e = absurd (cc)
end_item t.BracketClose e = absurd (cc)
end_item t.CurlyOpen e = absurd (cc)
end_item t.CurlyClose e = absurd (cc)
end_item t.Ellipsis e = absurd (cc)
end_item t.Colon e = absurd (cc)
end_item t.Equals e = absurd (cc)
end_item t.At e = absurd (cc)
end_item t.Pipe e = absurd (cc)

module _ (text source : List ℕ) (all front : List TokenRecord) (last : TokenRecord) (divided : IsDivided text (tokens_in source all)) (is : all ≡ front ++ last ∷ []) where
  divided_front : IsDivided text (tokens_in source front ++ token_of source last ∷ [])
  divided_front = let P : List Located → Type 0 = IsDivided text in subst P (ap (tokens_in source) is ∙ map-append (token_of source) front (last ∷ [])) divided

  -- those before the last
  pub front_records : AllStand source all → AreRecords source front
  front_records fit =
      let P : List TokenRecord → Type 0 = λ rs. AllStand source rs in
      let ordered = spans_in_order text (tokens_in source front ++ token_of source last ∷ []) divided_front in
      (all_front (StandsIn source) front (last ∷ []) (subst P is fit), rises_front 0 (tokens_in source front) (token_of source last ∷ []) (length text) ordered)

  -- of which the last is the end of the text
  pub recorded : (finish : Span) → finish ≡ (token_of source last).span → IsRecorded text (record { tokens = tokens_in source front; finish = finish })
  recorded finish finish_is =
      let d = divided_front in
      let parts = same_from_push d.front (tokens_in source front) d.last (token_of source last) (sym d.is) in
      let item = end_item (token_of source last).item (ap (λ (x : Located). is_end x.item) (sym parts.1) ∙ d.end) in
      let same : token_of source last ≡ record { item = t.EndOfFile; span = finish } = λ i. record { item = item i; span = sym finish_is i } in
      let P : Located → Type 0 = λ x. IsDivided text (tokens_in source front ++ x ∷ []) in
      subst P same d

-- ---- one of them

pub fits_at : (source : List ℕ) (rs : List TokenRecord) (i : ℕ) (r : TokenRecord) → AllStand source rs → slice_get rs i ≡ Some r → StandsIn source r
fits_at source [] i r h e = absurd (cc)
fits_at source (x ∷ rs) zero r h e = let is : x ≡ r = cc in subst (StandsIn source) is (All-head (StandsIn source) x rs h)
fits_at source (x ∷ rs) (suc i) r h e = fits_at source rs i r (All-tail (StandsIn source) x rs h) e

pub at_some : (source : List ℕ) (rs : List TokenRecord) (i : ℕ) (r : TokenRecord) → slice_get rs i ≡ Some r → slice_get (tokens_in source rs) i ≡ Some (token_of source r)
at_some source rs i r e = slice_get-map (token_of source) rs i ∙ ap (option_map (token_of source)) e

pub at_none : (source : List ℕ) (rs : List TokenRecord) (i : ℕ) → slice_get rs i ≡ None → slice_get (tokens_in source rs) i ≡ None
at_none source rs i e = slice_get-map (token_of source) rs i ∙ ap (option_map (token_of source)) e

pub as_many : (source : List ℕ) (rs : List TokenRecord) → length rs ≡ length (tokens_in source rs)
as_many source rs = sym (length-map rs (token_of source))

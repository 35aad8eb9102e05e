-- A list between two tokens spells its items.
use Rattle.std.proofs.Common.{◌≡◌, List, [], ◌∷◌, ◌++◌, Result, Ok, Err, ap, ◌∙◌, sym, refl, subst, append_assoc}
use Rattle.std.proofs.lemmas.List.{append-nil}
use Rattle.graphql_text.specs.declared.position.Span.{Span}
use Rattle.graphql_text.specs.declared.token.Token.{Token}
use Rattle.graphql_grammar.specs.Input.{At, Input, Located, Fault}
use Rattle.graphql_grammar.specs.Ahead.{mk}
use Rattle.graphql_grammar.specs.Relations.{Rel, AllFrom, none_more, one_more, AllOf, SomeOf, Placed}
use Rattle.graphql_value_syntax.proofs.ValueLaws.{closed_end}
use Rattle.graphql_language.specs.Parser.{State, KeepsRefusal}
use Rattle.graphql_language.specs.Lists.{Call, Function, Item, Until, closed, unclosed, refused, more, full, SomeItems, first as first_item, no_first, no_room, enclosed, Delimited, unopened, unlisted, listed, AnyItems}
use Rattle.graphql_language.specs.SpelledLists.{InFront, Enclosed, ReadsSpelled, ListsAreSpelled, SomeListsAreSpelled}
use Rattle.graphql_language.proofs.Lists.{skipped_none}
use Rattle.graphql_language.proofs.NextTokens.{TokenRead, opened, last_read}

-- ---- items

-- an item in front of others
item_first : {A : Type 0} (P : Rel A) (found : List A) (x : A) (ts us : List Located) (xs : List A) → P ts x → AllFrom P (found ++ x ∷ []) us xs → AllFrom P found (ts ++ us) xs
item_first P found x ts _ _ r none_more = subst (λ ws. AllFrom P found ws (found ++ x ∷ [])) (sym (append-nil ts)) (one_more [] ts found x none_more r)
item_first P found x ts _ _ r (one_more us ws xs y m q) = subst (λ vs. AllFrom P found vs (xs ++ y ∷ [])) (append_assoc ts us ws) (one_more (ts ++ us) ws xs y (item_first P found x ts us xs r m) q)

kept : {A : Type 0} (answer : Result A Fault) (after t : State) (x : A) → KeepsRefusal answer after (Ok x) t → (answer ≡ Ok x) × (after ≡ t)
kept (Ok y) after t x (same, stays) = (sym same, sym stays)
kept (Err e) after t x (again, failed) = absurd again

module _ {F A : Type 0} (function : Function F A) (f : F) (P : Rel A) (reads : ReadsSpelled function f P) where
  item_read : (s t : State) (x : A) → Item function f s (Ok x) t → InFront P s.input x t.input
  item_read s t x item =
      let k = kept item.answer item.after.now t x item.keeps in
      let Met : Result A Fault → Type 0 = λ r. function.post f (item.shown, tt) (r, (item.after, tt)) in
      let From : State → Type 0 = λ z. InFront P z.input x item.after.now.input in
      let To : State → Type 0 = λ z. InFront P s.input x z.input in
      subst To k.1 (subst From item.shows (reads item.shown item.after x (subst Met k.0 item.met)))

  module _ (closing : Token) where
    -- some tokens that spell the items, and behind them the token that closes
    record Ended (R : Rel (List A)) (i : Input) (xs : List A × Located) (j : Input) : Type 0 where
      pub inside : List Located
      pub spells : R inside xs.0
      pub closes : xs.1.item ≡ closing
      pub front : i.ahead ≡ inside ++ xs.1 ∷ j.ahead
      pub after : j ≡ mk j.ahead i.finish xs.1.span.end

    abbrev Ends : Rel (List A) → State → Result (List A × Located) Fault → State → Type 0
    Ends R s (Ok xs) t = Ended R s.input xs t.input
    Ends R s (Err e) t = Unit {0}

    -- an item, and then the others
    ended_behind : (Q R : Rel (List A)) (s n t : State) (x : A) (r : Result (List A × Located) Fault) → InFront P s.input x n.input
        → ((ts us : List Located) (xs : List A) → P ts x → Q us xs → R (ts ++ us) xs) → Ends Q n r t → Ends R s r t
    ended_behind Q R s n t x (Err e) item both ends = tt
    ended_behind Q R s n t x (Ok xs) item both ends = record {
      inside = item.tokens ++ ends.inside;
      spells = both item.tokens ends.inside xs.0 item.spells ends.spells;
      closes = ends.closes;
      front = item.front ∙ ap (λ ts. item.tokens ++ ts) ends.front ∙ sym (append_assoc item.tokens ends.inside (xs.1 ∷ t.input.ahead));
      after = ends.after ∙ ap (λ z. mk t.input.ahead z xs.1.span.end) (ap (λ (i : Input). i.finish) item.after);
    }

    until_read : (found : List A) (s t : State) (r : Result (List A × Located) Fault) → Until closing (Item function f) found s r t → Ends (AllFrom P found) s r t
    until_read _ _ _ _ (closed found s t last calls) = let e = last_read closing s t last calls in record { inside = []; spells = none_more; closes = e.is; front = e.front; after = e.after }
    until_read _ _ _ _ (unclosed found s t e calls) = tt
    until_read _ _ _ _ (refused found s m t e calls item) = tt
    until_read _ _ _ _ (more found s m n t x r none item rest) =
        let stays : m.input ≡ s.input = skipped_none closing s m none in
        ended_behind (AllFrom P (found ++ x ∷ [])) (AllFrom P found) s n t x r (subst (λ i. InFront P i x n.input) stays (item_read m n x item))
        (λ ts us xs d more. item_first P found x ts us xs d more) (until_read (found ++ x ∷ []) n t r rest)
    until_read _ _ _ _ (full found s m n t x e none item memory) = tt

    some_read : (s t : State) (r : Result (List A × Located) Fault) → SomeItems closing (Item function f) s r t → Ends (SomeOf P) s r t
    some_read _ _ _ (first_item s m t x r item rest) =
        ended_behind (AllFrom P (x ∷ [])) (SomeOf P) s m t x r (item_read s m x item) (λ ts us xs d more. record { front = ts; back = us; is = refl; part = x; begins = d; ends = more }) (until_read (x ∷ []) m t r rest)
    some_read _ _ _ (no_first s t e item) = tt
    some_read _ _ _ (no_room s m t x e item memory) = tt

    -- ---- between two tokens

    module _ (opening : Token) (R : Rel (List A)) where
      whole : (i m j : Input) (token : Located) (xs : List A × Located) → TokenRead opening i token m → Ended R m xs j → InFront (Placed (Enclosed opening closing R)) i (enclosed token xs) j
      whole i m j token xs read ended = record {
        tokens = token ∷ (ended.inside ++ xs.1 ∷ []);
        front = read.front ∙ ap (λ ts. token ∷ ts) (ended.front ∙ sym (append_assoc ended.inside (xs.1 ∷ []) j.ahead));
        spells = record {
          head = token;
          tail = ended.inside ++ xs.1 ∷ [];
          is = refl;
          spells = record { first = token; inside = ended.inside; last = xs.1; is = refl; opens = read.is; closes = ended.closes; spells = ended.spells };
          stands = sym (closed_end token xs.1 ended.inside);
        };
        after = ended.after ∙ ap (λ z. mk j.ahead z xs.1.span.end) (ap (λ (k : Input). k.finish) read.after)
            ∙ ap (λ z. mk j.ahead i.finish z) (sym (ap (λ (span : Span). span.end) (closed_end token xs.1 ended.inside)));
      }

      abbrev InFrontIf : State → Result (At (List A)) Fault → State → Type 0
      InFrontIf s (Ok xs) t = InFront (Placed (Enclosed opening closing R)) s.input xs t.input
      InFrontIf s (Err e) t = Unit {0}

      delimited_read : (items : Call (List A × Located)) → ((s t : State) (r : Result (List A × Located) Fault) → items s r t → Ends R s r t) → (s t : State) (r : Result (At (List A)) Fault) → Delimited opening items s r t → InFrontIf s r t
      delimited_read items read _ _ _ (unopened s t e calls) = tt
      delimited_read items read _ _ _ (unlisted s m t token e calls item) = tt
      delimited_read items read _ _ _ (listed s m t token xs calls item) = whole s.input m.input t.input token xs (opened opening s m token calls) (read m t (Ok xs) item)

pub lists_are_spelled : {F A : Type 0} (function : Function F A) (P : Rel A) → ListsAreSpelled function P
lists_are_spelled {F} {A} function P opening closing f reads s t xs list = delimited_read function f P reads closing opening (AllOf P) (AnyItems closing (Item function f)) (until_read function f P reads closing []) s t (Ok xs) list

pub some_lists_are_spelled : {F A : Type 0} (function : Function F A) (P : Rel A) → SomeListsAreSpelled function P
some_lists_are_spelled {F} {A} function P opening closing f reads s t xs list = delimited_read function f P reads closing opening (SomeOf P) (SomeItems closing (Item function f)) (some_read function f P reads closing) s t (Ok xs) list

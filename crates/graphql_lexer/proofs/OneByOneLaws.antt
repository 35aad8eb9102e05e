-- A lexer's answers, one by one, are those of the whole text.
use Rattle.std.proofs.Common.{◌≡◌, ◌⊎◌, inl, inr, Bool, true, false, List, [], ◌∷◌, ◌++◌, map, ap, ◌∙◌, refl, Ok, Err}
use Rattle.graphql_text.specs.Reading.{Place, Refusal, start_of}
use Rattle.graphql_text.specs.Tokens.{Located, cut, is_end, Runs, Tokens, FirstFault}
use Rattle.graphql_text.specs.Grammar.{IsDivided, IsBroken}
use Rattle.graphql_lexer.specs.OneByOne.{Remains, TokenOrRefusal}
use Rattle.graphql_lexer.specs.Laws.{GivesInTurn, HadMemory, SameOneByOne}
use Rattle.graphql_lexer.proofs.SoundTexts.{tokens_divide, fault_breaks}

-- all tokens from a place on
record GivesAll (p : Place) (answers : List TokenOrRefusal) : Type 0 where
  pub front : List Located
  pub last : Located
  pub are : answers ≡ map Ok (front ++ last ∷ [])
  pub before : Place
  pub after : Place
  pub runs : Runs p front before
  pub ends : cut before ≡ Ok (last, after)
  pub end : is_end last.item ≡ true

-- tokens from a place on, and then a fault
record GivesFault (p : Place) (answers : List TokenOrRefusal) : Type 0 where
  pub front : List Located
  pub fault : Refusal
  pub are : answers ≡ map Ok front ++ (Err fault) ∷ []
  pub before : Place
  pub runs : Runs p front before
  pub refuses : cut before ≡ Err fault

-- nothing comes behind the last answer
last_is_last : (s t : Remains) (others : List TokenOrRefusal) → s.is_done ≡ true → GivesInTurn s others t → others ≡ []
last_is_last s t [] h a = refl
last_is_last s t ((Ok x) ∷ others) h (m, g, a) = let z = g.0 in absurd (cc)
last_is_last s t ((Err e) ∷ others) h (m, g, a) = let z = g.0 in absurd (cc)

given : (s t : Remains) (answers : List TokenOrRefusal) → s.is_done ≡ false → GivesInTurn s answers t → t.is_done ≡ true → HadMemory answers → GivesAll s.place answers ⊎ GivesFault s.place answers
given s t [] h a d m = let e : s.is_done ≡ t.is_done = ap (λ z. z.is_done) a in absurd (cc)
given s t ((Ok x) ∷ others) h (n, g, a) d m = on (is_end x.item) refl (λ k. given n t others k a d m)
  where
    first : others ≡ [] → is_end x.item ≡ true → GivesAll s.place ((Ok x) ∷ others)
    first e k = record { front = []; last = x; are = ap (λ z. (Ok x) ∷ z) e; before = s.place; after = n.place; runs = refl; ends = g.1; end = k }

    more : is_end x.item ≡ false → GivesAll n.place others ⊎ GivesFault n.place others → GivesAll s.place ((Ok x) ∷ others) ⊎ GivesFault s.place ((Ok x) ∷ others)
    more k (inl r) = inl (record { front = x ∷ r.front; last = r.last; are = ap (λ z. (Ok x) ∷ z) r.are; before = r.before; after = r.after; runs = (n.place, g.1, k, r.runs); ends = r.ends; end = r.end })
    more k (inr r) = inr (record { front = x ∷ r.front; fault = r.fault; are = ap (λ z. (Ok x) ∷ z) r.are; before = r.before; runs = (n.place, g.1, k, r.runs); refuses = r.refuses })

    on : (b : Bool) → is_end x.item ≡ b → (n.is_done ≡ false → GivesAll n.place others ⊎ GivesFault n.place others) → GivesAll s.place ((Ok x) ∷ others) ⊎ GivesFault s.place ((Ok x) ∷ others)
    on true k again = inl (first (last_is_last n t others (g.2 ∙ k) a) k)
    on false k again = more k (again (g.2 ∙ k))
given s t ((Err e) ∷ others) h (n, g, a) d m =
    inr (record { front = []; fault = e; are = ap (λ z. (Err e) ∷ z) (last_is_last n t others g.2 a); before = s.place; runs = refl; refuses = g.1 m.0 })

pub same_one_by_one : SameOneByOne
same_one_by_one text answers t a d m = on (given (record { place = start_of text; is_done = false }) t answers refl a d m)
  where
    on : GivesAll (start_of text) answers ⊎ GivesFault (start_of text) answers → ((ts : List Located) × (answers ≡ map Ok ts) × IsDivided text ts) ⊎ ((front : List Located) × (e : Refusal) × (answers ≡ map Ok front ++ (Err e) ∷ []) × IsBroken text e)
    on (inl r) =
        let ts : Tokens text (r.front ++ r.last ∷ []) = record { front = r.front; last = r.last; is = refl; before = r.before; after = r.after; runs = r.runs; ends = r.ends; end = r.end } in
        inl (r.front ++ r.last ∷ [], r.are, tokens_divide text (r.front ++ r.last ∷ []) ts)
    on (inr r) =
        let f : FirstFault text r.fault = record { front = r.front; before = r.before; runs = r.runs; refuses = r.refuses } in
        inr (r.front, r.fault, r.are, fault_breaks text r.fault f)

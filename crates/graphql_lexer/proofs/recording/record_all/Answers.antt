use Rattle.std.proofs.Common.{◌≡◌, ◌++◌, ◌∷◌, [], false, true, sym, ap, subst, ◌∙◌, rules, List}
use Rattle.std.specs.Str.{chars}
use Rattle.std.proofs.lemmas.List.{map-append}
use Rattle.std.proofs.lemmas.List.Elements.{All-nil, All-cons, All-append}
use Rattle.graphql_text.specs.Reading.{start_of, place_of}
use Rattle.graphql_text.specs.Tokens.{Located, Runs, is_end}
use Rattle.graphql_lexer.specs.Records.{AllStand, StandsIn, token_of, tokens_in, text_at}
use Rattle.graphql_lexer.specs.declared.token_record.TokenRecord.{TokenRecord}
use Rattle.graphql_lexer.proofs.Falls.{cut_shorter, runs_more}
use Rattle.graphql_lexer.proofs.SoundTexts.{tokens_divide}
use Rattle.graphql_lexer.proofs.recording.record_all.Goals as goal

pub tokens-smaller : goal.tokens-smaller
unfolding token_of
tokens-smaller c =
    let source = c.args.source.now in
    let r = c.in_ok-found.found in
    let more : is_end (token_of source r).item ≡ false = sym (c.ends_text-is_last.ensures (text_at source r)) ∙ c.if-is_last.false in
    cut_shorter (place_of c.tokens.cursor) (place_of c.in_ok-found.next) (token_of source r) c.in_ok-found.ensures.token more

pub tokens-preserved : goal.tokens-preserved
unfolding token_of
tokens-preserved c =
    let source = c.args.source.now in
    let r = c.in_ok-found.found in
    let out = c.tokens.out.items in
    let more : is_end (token_of source r).item ≡ false = sym (c.ends_text-is_last.ensures (text_at source r)) ∙ c.if-is_last.false in
    let pushed : c.push.new.self.items ≡ out ++ r ∷ [] = search rules in
    let P : List TokenRecord → Type 0 = λ rs. Runs (start_of (chars source)) (tokens_in source rs) (place_of c.in_ok-found.next) in
    let Q : List Located → Type 0 = λ ts. Runs (start_of (chars source)) ts (place_of c.in_ok-found.next) in
    let F : List TokenRecord → Type 0 = λ rs. AllStand source rs in
    let runs = runs_more (start_of (chars source)) (place_of c.tokens.cursor) (place_of c.in_ok-found.next) (tokens_in source out) (token_of source r) c.tokens.invariant.0 c.in_ok-found.ensures.token more in (
      subst P (sym pushed) (subst Q (sym (map-append (token_of source) out (r ∷ []))) runs),
      c.in_ok-found.ensures.tail,
      subst F (sym pushed) (All-append (StandsIn source) out (r ∷ []) c.tokens.invariant.2 (All-cons (StandsIn source) r [] c.in_ok-found.ensures.fits (All-nil (StandsIn source)))),
    )

pub returns-then-is_last-clause-tokens : goal.returns-then-is_last-clause-tokens
unfolding token_of
returns-then-is_last-clause-tokens c =
    let source = c.args.source.now in
    let r = c.in_ok-found.found in
    let out = c.tokens.out.items in
    let pushed : c.push.new.self.items ≡ out ++ r ∷ [] = search rules in
    let last : is_end (token_of source r).item ≡ true = sym (c.ends_text-is_last.ensures (text_at source r)) ∙ c.if-is_last.true in
    let is : tokens_in source c.push.new.self.items ≡ tokens_in source out ++ token_of source r ∷ [] = ap (tokens_in source) pushed ∙ map-append (token_of source) out (r ∷ []) in
    tokens_divide (chars source) (tokens_in source c.push.new.self.items)
    (record { front = tokens_in source out; last = token_of source r; is = is; before = place_of c.tokens.cursor; after = place_of c.in_ok-found.next; runs = c.tokens.invariant.0; ends = c.in_ok-found.ensures.token; end = last })

pub returns-then-is_last-clause-fit : goal.returns-then-is_last-clause-fit
returns-then-is_last-clause-fit c =
    let source = c.args.source.now in
    let r = c.in_ok-found.found in
    let out = c.tokens.out.items in
    let pushed : c.push.new.self.items ≡ out ++ r ∷ [] = search rules in
    let F : List TokenRecord → Type 0 = λ rs. AllStand source rs in
    subst F (sym pushed) (All-append (StandsIn source) out (r ∷ []) c.tokens.invariant.2 (All-cons (StandsIn source) r [] c.in_ok-found.ensures.fits (All-nil (StandsIn source))))

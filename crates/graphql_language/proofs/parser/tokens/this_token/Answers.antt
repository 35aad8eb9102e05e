use Rattle.std.proofs.Common.{◌<◌, ◌∙◌, sym, ap, refl, subst}
use Rattle.graphql_grammar.specs.Input.{Input, Located, left}
use Rattle.graphql_grammar.proofs.Cursors.{fewer_item}
use Rattle.graphql_language.specs.Parser.{ThisToken}
use Rattle.graphql_language.proofs.Calls.{reads_by_refused}
use Rattle.graphql_language.proofs.parser.tokens.this_token.Goals as goal

pub returns-in-EndOfFile-clause-reads : goal.returns-in-EndOfFile-clause-reads
returns-in-EndOfFile-clause-reads c =
    let end = ap (λ (p : Located). p.item) (sym c.peek-next.ensures) ∙ c.in-EndOfFile.is in
    reads_by_refused (ThisToken c.args.wanted.now) c.args.cursor.now c.refuse.result c.refuse.ensures (λ e. (λ same. end, e, refl))

pub returns-in_default : goal.returns-in_default
returns-in_default c =
    let i = c.args.cursor.now in
    let item = ap (λ (p : Located). p.item) c.peek-next.ensures in
    let P : Input → Type 0 = λ j. left j < left i in
    record {
      reads = (sym item ∙ c.if-is_token.ensures.0 refl, λ e. c.in_default.not-EndOfFile (item ∙ e), c.new.ensures ∙ c.peek-next.ensures, c.advance.ensures.next);
      fewer = subst P (sym c.advance.ensures.next) (fewer_item i (λ e. c.in_default.not-EndOfFile (item ∙ e)));
      stays = tt;
    }

pub returns-in_default-2 : goal.returns-in_default-2
returns-in_default-2 c =
    let item = ap (λ (p : Located). p.item) c.peek-next.ensures in
    let other = c.if-is_token.ensures.1 in
    record {
      reads = reads_by_refused (ThisToken c.args.wanted.now) c.args.cursor.now c.refuse-in_default-2.result c.refuse-in_default-2.ensures (λ e. (λ same. let t = other (item ∙ same) in cc, e, refl));
      fewer = tt;
      stays = refl;
    }

use Rattle.std.proofs.Common.{◌<◌, ◌∙◌, sym, ap, refl, subst}
use Rattle.graphql_grammar.specs.Input.{Input, Located, left}
use Rattle.graphql_grammar.proofs.Cursors.{fewer_item}
use Rattle.graphql_language.specs.Parser.{NextToken}
use Rattle.graphql_language.proofs.Calls.{reads_by_refused}
use Rattle.graphql_language.proofs.parser.tokens.next_token.Goals as goal

pub returns-in-EndOfFile-clause-reads : goal.returns-in-EndOfFile-clause-reads
returns-in-EndOfFile-clause-reads c =
    let end = ap (λ (p : Located). p.item) (sym c.peek-next.ensures) ∙ c.in-EndOfFile.is in
    reads_by_refused NextToken c.args.cursor.now c.refuse.result c.refuse.ensures (λ e. (end, e, refl))

pub returns-in_default : goal.returns-in_default
returns-in_default c =
    let i = c.args.cursor.now in
    let item = ap (λ (p : Located). p.item) c.peek-next.ensures in
    let P : Input → Type 0 = λ j. left j < left i in
    record {
      reads = (λ e. c.in_default.not-EndOfFile (item ∙ e), c.new.ensures ∙ c.peek-next.ensures, c.advance.ensures.next);
      fewer = subst P (sym c.advance.ensures.next) (fewer_item i (λ e. c.in_default.not-EndOfFile (item ∙ e)));
      stays = tt;
    }

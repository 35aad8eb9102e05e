use Rattle.std.proofs.Common.{◌≡◌, ◌<◌, Ok, Err, ◌∙◌, sym, ap, refl, subst, arith}
use Rattle.graphql_text.specs.declared.token.Token.TheVariants.{Name}
use Rattle.graphql_grammar.specs.Input.{Input, peek, left}
use Rattle.graphql_grammar.proofs.Cursors.{name_read, name_refused, fewer_name, refused_stands}
use Rattle.graphql_grammar.proofs.Leaves.{behind_same}
use Rattle.graphql_grammar.proofs.cursor.Cursor.name.Goals as goal

pub returns-in-Name-clause-reads : goal.returns-in-Name-clause-reads
returns-in-Name-clause-reads c =
    let i = c.args.self.now in
    let n = c.in-Name.name in
    let is : (peek i).item ≡ Name n = sym c.next_item.ensures ∙ c.in-Name.is in
    name_read i n is ∙ ap (λ (j : Input). Ok (n, j)) (sym c.advance.ensures.next)

pub returns-in-Name-clause-fewer : goal.returns-in-Name-clause-fewer
returns-in-Name-clause-fewer c =
    let i = c.args.self.now in
    let n = c.in-Name.name in
    let is : (peek i).item ≡ Name n = sym c.next_item.ensures ∙ c.in-Name.is in
    let P : Input → Type 0 = λ j. left j < left i in
    subst P (sym c.advance.ensures.next) (fewer_name i n is)

pub returns-in_default : goal.returns-in_default
returns-in_default c =
    let i = c.args.self.now in
    record {
      reads = λ told. name_refused i (λ n is. c.in_default.not-Name n (c.next_item.ensures ∙ is)) ∙ ap Err (c.refuse.ensures told);
      behind = behind_same refl;
      no_more = omega arith;
      fewer = tt;
      stays = refl;
      stands = refused_stands i c.refuse.result c.refuse.ensures;
    }

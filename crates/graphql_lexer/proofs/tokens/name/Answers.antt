use Rattle.std.proofs.Common.{sym, subst}
use Rattle.std.specs.Str.{chars}
use Rattle.graphql_text.specs.declared.class.Class.TheVariants as class
use Rattle.graphql_text.specs.Reading.{Place, IsTail, past, place_of}
use Rattle.graphql_lexer.proofs.Leading.{past_leads, tail_trans, tail_of}
use Rattle.graphql_lexer.proofs.tokens.name.Goals as goal

pub between-requires : goal.between-requires
between-requires c =
    let P : Place → Type 0 = λ q. IsTail (chars c.args.cursor.rest.now) q.rest in
    let q = place_of c.args.next in
    let r = past class.NameContinue q.at q.rest in
    subst P (sym c.past-end.ensures) (tail_trans (chars c.args.cursor.rest.now) q.rest r.rest c.requires (tail_of q r (past_leads class.NameContinue q.at q.rest)))

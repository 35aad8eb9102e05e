use Rattle.std.proofs.Common.{Err, List, ℕ, ◌∙◌, sym, ap, subst}
use Rattle.graphql_grammar.specs.Input.{Outcome, Reads}
use Rattle.graphql_grammar.proofs.Cursors.{fragment_name_refused, fragment_name_same, refused_stands}
use Rattle.graphql_grammar.proofs.cursor.Cursor.fragment_name.Goals as goal

pub returns-in-On-clause-reads : goal.returns-in-On-clause-reads
returns-in-On-clause-reads c = λ told. fragment_name_refused c.args.self.now (sym c.kind.ensures ∙ c.in-On.is) ∙ ap Err (c.refuse.ensures told)

pub returns-in_default : goal.returns-in_default
returns-in_default c =
    let same = fragment_name_same c.args.self.now (λ e. c.in_default.not-On (c.kind.ensures ∙ e)) in
    let P : Outcome (List ℕ) → Type 0 = λ o. Reads o c.name.result c.name.new.self in
    record {
      reads = subst P (sym same) c.name.ensures.reads;
      no_more = c.name.ensures.no_more;
      fewer = c.name.ensures.fewer;
      stays = c.name.ensures.stays;
      stands = c.name.ensures.stands;
    }

pub returns-in-On-clause-stands : goal.returns-in-On-clause-stands
returns-in-On-clause-stands c = refused_stands c.args.self.now c.refuse.result c.refuse.ensures

use Rattle.std.proofs.Common.{sym, ◌∙◌, inl, inr}
use Rattle.std.proofs.lemmas.Bool.{false≢true}
use Rattle.std.proofs.lemmas.Result.{on_ok_weaker}
use Rattle.graphql_merging.specs.Tables.{pieces_of}
use Rattle.graphql_rules_merging.specs.Agenda.{listed_of}
use Rattle.graphql_rules_merging.proofs.Begun.{begins_empty, begins_listed}
use Rattle.graphql_rules_merging.proofs.begin.begin_sets.Goals as goal

pub returns-then-is_empty_set : goal.returns-then-is_empty_set
returns-then-is_empty_set g c = λ fragments.
    begins_empty (pieces_of fragments c.args.table.now) (listed_of c.args.agenda.now) c.args.left c.args.right c.args.around
    (inl ((c.is_empty_set.ensures fragments).0 c.if-is_empty_set.true))

pub returns-then-is_empty_set-2 : goal.returns-then-is_empty_set-2
returns-then-is_empty_set-2 g c = λ fragments.
    begins_empty (pieces_of fragments c.args.table.now) (listed_of c.args.agenda.now) c.args.left c.args.right c.args.around
    (inr ((c.is_empty_set-2.ensures fragments).0 c.if-is_empty_set-2.true))

pub returns : goal.returns
returns g c =
    on_ok_weaker c.begin.result (λ d fragments. begins_listed (pieces_of fragments c.args.table.now) (listed_of c.args.agenda.now) (listed_of c.begin.new.self) c.args.left c.args.right c.args.around
    (λ e. absurd (false≢true (sym c.if-is_empty_set.false ∙ (c.is_empty_set.ensures fragments).1 e))) (λ e. absurd (false≢true (sym c.if-is_empty_set-2.false ∙ (c.is_empty_set-2.ensures fragments).1 e))) d)
    c.begin.ensures

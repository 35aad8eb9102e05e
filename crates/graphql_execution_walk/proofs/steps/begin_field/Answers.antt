use Rattle.std.proofs.Common.{ap, subst, sym}
use Rattle.std.specs.Prelude.{IfSome}
use Rattle.graphql_occurrences.specs.DeclaredLent.{literal_of}
use Rattle.graphql_collected.specs.Requests.{fragments_in}
use Rattle.graphql_written_out.specs.Written.{Settled, head_of}
use Rattle.graphql_execution_walk.specs.Prepared.{Prepares, asked_in}
use Rattle.graphql_execution_walk.proofs.PreparedLemmas.{leaf-known}
use Rattle.graphql_execution_walk.proofs.steps.begin_field.Goals as goal

pub ask-requires-clause-settled : goal.ask-requires-clause-settled
ask-requires-clause-settled g c = subst (λ rq. Settled (fragments_in rq)) (sym c.at_field-here.ensures.request) c.requires.settled

pub ask-requires-clause-schema : goal.ask-requires-clause-schema
ask-requires-clause-schema g c = ap (λ rq. rq.schema.now) (sym c.at_field-here.ensures.request)

pub ask-requires-clause-typed : goal.ask-requires-clause-typed
ask-requires-clause-typed g c = rw (c.at_field-here.ensures.request, c.at_field-here.ensures.context) c.requires.typed

pub ask-requires-clause-stands : goal.ask-requires-clause-stands
ask-requires-clause-stands g c =
    let here = c.at_field-here.ensures in
    rw (here.request, here.location, here.path, here.current_type, here.among, here.selected) c.requires.place

pub ask-requires-clause-prepared : goal.ask-requires-clause-prepared
ask-requires-clause-prepared g c =
    subst (λ rq. IfSome c.args.prepared (λ known. Prepares (asked_in rq) c.args.object.now (head_of c.args.first.now.field.now) known.now)) (sym c.at_field-here.ensures.request) c.requires.prepared

-- what is known of the field's type
pub begin-requires-clause-spot : goal.begin-requires-clause-spot
begin-requires-clause-spot g c = record {
  leaf = rw (c.leaf_told.ensures, c.new-name.ensures)
      (leaf-known c.args.executor.now.request.now c.args.object.now c.args.first.now (literal_of c.args.declared) c.requires.place.declared c.args.prepared c.requires.prepared);
  known = tt;
}

use Rattle.std.proofs.Common.{◌≡◌, refl, ◌≤◌, arith, false, [], length, get_or, slice_get, Some}
use Rattle.std.proofs.lemmas.Option.{slice_get-get_or}
use Rattle.graphql_merging.specs.Tables.{pieces_of}
use Rattle.graphql_bundles.specs.Bundles.{Bundle, IsPassed}
use Rattle.graphql_bundles.specs.declared.bundle.Bundle.{Bundle as Begun}
use Rattle.graphql_bundles.specs.Going.{Stage, IsFoundIn, LeadsTo, stage_of}
use Rattle.graphql_bundles.specs.Steps.{OfDefinitions}
use Rattle.graphql_bundles.proofs.GoesLemmas.{Definitions}
use Rattle.graphql_bundles.proofs.PassLemmas.{bundles-past, bundles-within, going-first, going-more, going-all, going-out, kept-none, kept-more}
use Rattle.graphql_bundles.proofs.pass.pass_all.Goals as goal

abbrev view : Begun → Bundle
view b = record { sets = b.sets.items; around = b.around }

pub loop-number-init : goal.loop-number-init
loop-number-init g c = record {
  counted = omega arith;
  kept = kept-more (λ e. ⊥) (OfDefinitions (pieces_of [] c.args.table.now) c.args.definitions) (Definitions (pieces_of [] c.args.table.now) c.args.definitions)
      (stage_of c.args.progress.now) (stage_of c.args.progress.now) (stage_of c.begin_definitions.new.progress) (kept-none (stage_of c.args.progress.now))
      (c.in_ok-begin_definitions.ensures []);
  going = λ fragments right. going-first g.S.PartialEq.eq c.args.schema.now.types c.args.table.now fragments c.args.definitions (stage_of c.args.progress.now)
      (stage_of c.begin_definitions.new.progress) c.requires right (c.in_ok-begin_definitions.ensures fragments);
}

pub loop-number-preserved : goal.loop-number-preserved
loop-number-preserved g c =
    let eq = g.S.PartialEq.eq in
    let types = c.args.schema.now.types in
    let old = stage_of c.loop-number.progress in
    let new = stage_of c.pass_bundle.new.progress in
    let other : Bundle = record { sets = []; around = false } in
    let b : Bundle = get_or old.bundles c.loop-number.number other in
    let at : slice_get old.bundles c.loop-number.number ≡ Some b =
    slice_get-get_or old.bundles c.loop-number.number other
    (bundles-within view c.loop-number.progress.bundles.keys c.len.result c.loop-number.number c.len.ensures.len c.if-len-number.false) in
    let t = pieces_of {C = g.row.C.Denot} [] c.args.table.now in
    record {
      counted = omega (arith, c.loop-number.invariant.counted, c.in_ok-pass_bundle.ensures.counted);
      kept = kept-more (IsFoundIn t eq types b) (LeadsTo t b) (λ stage. IsPassed t eq types stage.bundles stage.told b) (stage_of c.args.progress.now) old new
          c.loop-number.invariant.kept (c.in_ok-pass_bundle.ensures.passed [] b at);
      going = λ fragments right. going-more eq types c.args.table.now fragments c.args.definitions c.loop-number.number b old new at
          (c.loop-number.invariant.going fragments right) (c.in_ok-pass_bundle.ensures.passed fragments b at);
    }

pub returns-then-len-number-clause-going : goal.returns-then-len-number-clause-going
returns-then-len-number-clause-going g c = λ fragments right.
    going-all g.S.PartialEq.eq c.args.schema.now.types c.args.table.now fragments c.args.definitions c.loop-number.number (stage_of c.loop-number.progress)
    (bundles-past view c.loop-number.progress.bundles.keys c.len.result c.loop-number.number c.len.ensures.len c.if-len-number.true)
    (c.loop-number.invariant.going fragments right)

pub returns-then-not-progress-clause-going : goal.returns-then-not-progress-clause-going
returns-then-not-progress-clause-going g c = λ fragments right.
    let stage = stage_of c.loop-number.progress in
    going-out g.S.PartialEq.eq c.args.schema.now.types c.args.table.now fragments c.args.definitions c.loop-number.number (length stage.bundles) stage stage refl refl
    c.if-not-progress.true (c.loop-number.invariant.going fragments right)

pub returns-then-len-limit-clause-going : goal.returns-then-len-limit-clause-going
returns-then-len-limit-clause-going g c = λ fragments right.
    let few : c.len-2.result ≤ c.loop-number.number = omega (arith, c.if-len-limit.true, c.loop-number-test.false) in
    going-all g.S.PartialEq.eq c.args.schema.now.types c.args.table.now fragments c.args.definitions c.loop-number.number (stage_of c.loop-number.progress)
    (bundles-past view c.loop-number.progress.bundles.keys c.len-2.result c.loop-number.number c.len-2.ensures.len few)
    (c.loop-number.invariant.going fragments right)

pub returns-clause-going : goal.returns-clause-going
returns-clause-going g c = λ fragments right.
    let stage = stage_of c.loop-number.progress in
    let new : Stage = record { told = stage.told; bundles = stage.bundles; is_within = false } in
    going-out g.S.PartialEq.eq c.args.schema.now.types c.args.table.now fragments c.args.definitions c.loop-number.number (length stage.bundles) stage new refl refl
    refl (c.loop-number.invariant.going fragments right)

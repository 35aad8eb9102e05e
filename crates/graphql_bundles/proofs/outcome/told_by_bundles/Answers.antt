use Rattle.std.proofs.Common.{◌≡◌, refl, ap, sym, subst, ◌∙◌, map, true, List, [], ◌∷◌, inl, inr}
use Rattle.std.specs.List.{Contains}
use Rattle.std.proofs.lemmas.Bool.{false≢true}
use Rattle.graphql_bundles.specs.Conflicts.{places}
use Rattle.graphql_bundles.specs.declared.conflict.Conflict.{Conflict}
use Rattle.graphql_merging.specs.Tables.{pieces_of}
use Rattle.graphql_merging.proofs.Nested.{in-nothing}
use Rattle.graphql_bundles.specs.Bundles.{Bundle}
use Rattle.graphql_bundles.specs.Ends.{IsEnd}
use Rattle.graphql_bundles.specs.Going.{stage_of}
use Rattle.graphql_bundles.specs.declared.bundle.Bundle.{Bundle as Begun}
use Rattle.graphql_bundles.proofs.EndLemmas.{ends-untold, ends-told, still-told}
use Rattle.graphql_bundles.proofs.outcome.told_by_bundles.Goals as goal

abbrev view : Begun → Bundle
view b = record { sets = b.sets.items; around = b.around }

pub pass_all-requires : goal.pass_all-requires
pass_all-requires g c = ap (map view) c.new-2.ensures.empty

pub returns-in-true-clause-ends : goal.returns-in-true-clause-ends
returns-in-true-clause-ends g c = λ fragments.
    let eq = g.S.PartialEq.eq in
    let types = c.args.schema.now.types in
    let t = pieces_of {C = g.row.C.Denot} fragments c.args.table.now in
    let told = c.pass_all.new.progress.told in
    let untold = c.is_empty.ensures.0 c.if-is_empty.true in
    let going = c.in_ok-pass_all.ensures.going fragments (λ e i. in-nothing e (subst (λ es. Contains (places es) e) c.new.ensures i)) in (
      true,
      subst (λ w. IsEnd t eq types c.args.definitions w (places told)) c.in-true.is
          (ends-untold eq types t c.args.definitions (stage_of c.pass_all.new.progress) (places told) refl (ap places untold) going),
      inl refl,
    )

-- without places there are no conflicts
unnamed : (found : List Conflict) → places found ≡ [] → found ≡ []
unnamed [] e = refl
unnamed (x ∷ xs) e = cc

pub returns-clause-ends : goal.returns-clause-ends
returns-clause-ends g c = λ fragments.
    let eq = g.S.PartialEq.eq in
    let types = c.args.schema.now.types in
    let t = pieces_of {C = g.row.C.Denot} fragments c.args.table.now in
    let stage = stage_of c.pass_all.new.progress in
    let errors = places c.tell_direct.new.told in
    let going = c.in_ok-pass_all.ensures.going fragments (λ e i. in-nothing e (subst (λ es. Contains (places es) e) c.new.ensures i)) in
    let tells = c.in_ok-tell_direct.ensures.told fragments in (
      stage.is_within,
      ends-told eq types t c.args.definitions stage errors tells going,
      inr (still-told eq types t c.args.definitions stage errors tells
          (λ untold. false≢true (sym c.if-is_empty.false ∙ c.is_empty.ensures.1 (unnamed c.pass_all.new.progress.told untold)))),
    )

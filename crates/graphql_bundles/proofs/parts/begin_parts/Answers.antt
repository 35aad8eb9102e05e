use Rattle.std.proofs.Common.{◌≡◌, ◌∙◌, ap, sym, subst, length, List, [], ◌∷◌, ◌<◌, ◌≤◌, arith}
use Rattle.std.proofs.lemmas.Bool.{false≢true}
use Rattle.std.proofs.lemmas.Bool.Decides.{Decides-eqb}
use Rattle.std.proofs.lemmas.Result.{on_ok_weaker}
use Rattle.graphql_merging.specs.Tables.{pieces_of}
use Rattle.graphql_bundles.specs.Going.{stage_of}
use Rattle.graphql_bundles.specs.Steps.{Goes}
use Rattle.graphql_bundles.specs.Groups.{names_in}
use Rattle.graphql_bundles.proofs.GoesLemmas.{EachBegun, MayEach, all-none, all-one, all-more}
use Rattle.graphql_bundles.proofs.parts.begin_parts.Goals as goal

none-in : {X : Type 0} (xs : List X) → length xs ≡ 0 → xs ≡ []
none-in [] e = λ i. []
none-in (x ∷ xs) e = absurd (omega (arith, e))

pub returns-then-is_empty : goal.returns-then-is_empty
returns-then-is_empty g c =
    let none = none-in c.args.names.now ((Decides-eqb (length c.args.names.now) 0).0 (sym c.is_empty.ensures ∙ c.if-is_empty.true)) in
    on_ok_weaker c.begin_part.result
    (λ goes fragments. all-none (pieces_of fragments c.args.table.now) fragments c.args.group.now (names_in c.args.group.now) (stage_of c.args.progress.now)
    (stage_of c.begin_part.new.progress) (sym c.requires ∙ none) (goes fragments))
    c.begin_part.ensures

pub returns-then-names-lt2 : goal.returns-then-names-lt2
returns-then-names-lt2 g c =
    let few : length c.args.names.now < 2 = omega arith in
    let some : c.args.names.now ≡ [] → ⊥ =
    λ e. false≢true (sym c.if-is_empty.false ∙ c.is_empty.ensures ∙ (Decides-eqb (length c.args.names.now) 0).1 (ap length e)) in
    on_ok_weaker c.begin_each.result
    (λ goes fragments.
    let t = pieces_of fragments c.args.table.now in
    all-one t fragments c.args.group.now (names_in c.args.group.now) (stage_of c.args.progress.now) (stage_of c.begin_each.new.progress)
    (λ e. some (c.requires ∙ e)) (subst (λ ns. length ns < 2) c.requires few)
    (subst (λ ns. Goes (λ e. ⊥) (MayEach t fragments c.args.group.now ns) (EachBegun t fragments c.args.group.now ns) (stage_of c.args.progress.now)
    (stage_of c.begin_each.new.progress)) c.requires (goes fragments)))
    c.begin_each.ensures

pub returns : goal.returns
returns g c =
    let many : 2 ≤ length c.args.names.now = omega arith in
    on_ok_weaker c.begin_each-2.result
    (λ goes fragments.
    let t = pieces_of fragments c.args.table.now in
    all-more t fragments c.args.group.now (names_in c.args.group.now) (stage_of c.args.progress.now) (stage_of c.begin_part-2.new.progress) (stage_of c.begin_each-2.new.progress)
    (subst (λ ns. 2 ≤ length ns) c.requires many)
    (c.in_ok-begin_part.ensures fragments)
    (subst (λ ns. Goes (λ e. ⊥) (MayEach t fragments c.args.group.now ns) (EachBegun t fragments c.args.group.now ns) (stage_of c.begin_part-2.new.progress)
    (stage_of c.begin_each-2.new.progress)) c.requires (goes fragments)))
    c.begin_each-2.ensures

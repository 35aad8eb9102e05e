use Rattle.graphql_schema.proofs.MeantScalars.{scalars_of}
use Rattle.std.proofs.Common.{◌≡◌, ◌↔◌, refl, sym, subst, Bool, true, false, not, Option, Some, None}
use Rattle.std.specs.Prelude.{MatchOption}
use Rattle.std.specs.Option.{is_some}
use Rattle.std.proofs.lemmas.Bool.{true≢false, false≢true}
use Rattle.graphql_literal_checks.specs.Conforms.{Conforms}
use Rattle.graphql_literal_checks.specs.declared.source.Source.TheVariants.{Literal}
use Rattle.graphql_law_rows.proofs.literals.conforms_wherever_it_stands.Goals as goal

-- there is no reason against it exactly where it holds
where_no_reason : {A : Type 0} (Right : Type 0) (reason : Option A) (is_none : Bool) → is_some reason ≡ not is_none
    → MatchOption reason Right (λ _. Right → ⊥) → (is_none ≡ true) ↔ Right
where_no_reason Right None true h right = (λ yes. right, λ holds. refl)
where_no_reason Right None false h right = absurd (false≢true h)
where_no_reason Right (Some x) true h wrong = absurd (true≢false h)
where_no_reason Right (Some x) false h wrong = (λ yes. absurd (false≢true yes), λ holds. absurd (wrong holds))

pub returns : goal.returns
returns g c =
    let scalars = scalars_of g.S.ParseScalarValue g.S.ScalarValue g.S.PartialEq g.S.Check.Check in
    λ elsewhere same.
    let ConformsThere = Conforms scalars c.args.schema.now.types Literal c.args.asked.now in
    let law = c.conforming_without_places.ensures c.args.schema.now.types Literal c.args.asked.now in
    let here = where_no_reason (ConformsThere c.args.literal.now) c.in_ok-reason.reason c.is_none.result c.is_none.ensures c.in_ok-reason.ensures in (
      λ yes. (law elsewhere).1 (subst ConformsThere (sym same) ((law c.args.literal.now).0 (here.0 yes))),
      λ there. here.1 ((law c.args.literal.now).1 (subst ConformsThere same ((law elsewhere).0 there))),
    )

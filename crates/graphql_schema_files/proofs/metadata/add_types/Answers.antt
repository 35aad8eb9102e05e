use Rattle.std.proofs.Common.{◌≡◌, ◌++◌, refl, rules, subst}
use Rattle.std.specs.List.{All, AllZip}
use Rattle.graphql_schema_files.specs.DraftedTypes.{TypeIsSound, TypeMeans}
use Rattle.graphql_schema_files.specs.SpelledTexts.{FindsMeant}
use Rattle.graphql_schema_files.proofs.metadata.add_types.Goals as goal

pub returns-in_ok-append-in-Some : goal.returns-in_ok-append-in-Some
returns-in_ok-append-in-Some g c =
    let made = c.in-Some.made in
    let described = subst (FindsMeant (AllZip TypeMeans) (All TypeIsSound) c.args.drafts.now) c.in-Some.is c.in_ok-made.ensures in
    let added : c.append.new.self ≡ c.args.types.now ++ made = search rules in
    (made, described, added)

pub returns-in-None : goal.returns-in-None
returns-in-None g c = (subst (FindsMeant (AllZip TypeMeans) (All TypeIsSound) c.args.drafts.now) c.in-None.is c.in_ok-made.ensures, refl)

use Rattle.std.proofs.Common.{sym}
use Rattle.std.specs.Bool.{Decides}
use Rattle.std.specs.List.{Contains}
use Rattle.std.proofs.lemmas.Bool.Decides.{same_from_decides}
use Rattle.std.proofs.lemmas.List.Folds.{list_any_at}
use Rattle.std.proofs.lemmas.Map.Views.{Contains-from_any}
use Rattle.graphql_schema.specs.contracts.directive_location.DirectiveLocation.{the_type}
use Rattle.graphql_schema.specs.Directives.{same_place, is_place}
use Rattle.graphql_rules.proofs.known_directives.may_stand.Goals as goal
use denote.Enum.Bare.{same_true, true_same}

pub returns : goal.returns
returns g c =
    let places = c.args.known.now.locations in
    let place = c.args.location in
    let decides : Decides (is_place places place) (Contains places place) = (
      Contains-from_any {eq = λ x y. same_place y x} (λ x y h. sym (same_true the_type tt y x h)) place places,
      λ (k, within, is). list_any_at (λ other. same_place other place) places k place within (true_same the_type _ _ is),
    ) in
    same_from_decides c.has_location.result (is_place places place) c.has_location.ensures decides

use Rattle.std.proofs.Common.{◌≡◌, ◌∙◌, ap, length, rules, tests}
use Rattle.std.specs.List.{position}
use Rattle.std.specs.Option.{unwrap_or}
use Rattle.std.specs.Str.{bytes_eq}
use Rattle.std.proofs.lemmas.Iterator.{YieldsList-from_slice}
use Rattle.std.proofs.lemmas.Iterator.Search.{position_from_yields_List}
use Rattle.graphql_bundles.proofs.GroupLemmas.{scanned}
use Rattle.graphql_bundles.proofs.groups.place_of.Goals as goal

pub returns : goal.returns
returns g c =
    let found : c.position.result ≡ position (λ h. bytes_eq c.args.key.now h.0) c.args.groups.now =
    position_from_yields_List (λ h. bytes_eq c.args.key.now h.0) _ _ c.position.result c.position.ensures.ran (YieldsList-from_slice _ c.iter.ensures.rest) (λ x b q k. search (rules, tests)) in
    c.unwrap_or.ensures ∙ ap (λ o. unwrap_or o (length c.args.groups.now)) found ∙ scanned (bytes_eq c.args.key.now) c.args.groups.now

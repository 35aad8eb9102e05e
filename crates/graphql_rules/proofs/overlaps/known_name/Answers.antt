use Rattle.std.proofs.Common.{sym, ap, ◌∙◌}
use Rattle.std.specs.Option.{option_copied}
use Rattle.std.proofs.lemmas.Slice.Eq.{bytes_eq-Decides}
use Rattle.graphql_schema.specs.Types.{own_name}
use Rattle.graphql_names.proofs.NameMaps.{found_is_in}
use Rattle.graphql_rules.proofs.overlaps.known_name.Goals as goal

pub returns-in-Some : goal.returns-in-Some
returns-in-Some g c =
    let there = found_is_in own_name c.args.schema.now.types c.args.name.now c.in-Some.meta.now (sym c.concrete_type_by_name.ensures ∙ ap option_copied c.in-Some.is) in
    c.name.ensures ∙ (bytes_eq-Decides (own_name c.in-Some.meta.now) c.args.name.now).0 there.0

pub returns-in-None : goal.returns-in-None
returns-in-None g c = sym c.concrete_type_by_name.ensures ∙ ap option_copied c.in-None.is

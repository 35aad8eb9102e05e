use Rattle.std.proofs.Common.{None, get_or, sym, ap, ◌∙◌}
use Rattle.std.specs.Prelude.{unwrap_or}
use Rattle.std.specs.Option.{option_copied, option_map_or}
use Rattle.std.proofs.lemmas.Option.{unwrap_or-slice_get}
use Rattle.graphql_rules_document.proofs.components.component.Goals as goal

pub returns-in-None-get : goal.returns-in-None-get
returns-in-None-get c =
    let components = c.args.components.now in
    ap (λ o. unwrap_or o None) (ap option_copied (sym c.in-None-get.is) ∙ c.get.ensures.value) ∙ unwrap_or-slice_get components c.in-Some.place None
    ∙ ap (λ o. option_map_or (λ place. get_or components place None) o None) c.in-Some.ensures

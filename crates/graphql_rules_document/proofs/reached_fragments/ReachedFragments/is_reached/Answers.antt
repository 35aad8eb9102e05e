use Rattle.std.proofs.Common.{false, sym, ap, ◌∙◌}
use Rattle.std.specs.Prelude.{unwrap_or}
use Rattle.std.specs.Option.{option_copied}
use Rattle.std.proofs.lemmas.Option.{unwrap_or-slice_get}
use Rattle.graphql_rules_document.proofs.reached_fragments.ReachedFragments.is_reached.Goals as goal

pub returns-in-None : goal.returns-in-None
returns-in-None c =
    ap (λ o. unwrap_or o false) (ap option_copied (sym c.in-None.is) ∙ c.get.ensures.value) ∙ unwrap_or-slice_get c.args.self.now.marks c.args.place false

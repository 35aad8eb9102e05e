use Rattle.std.proofs.Common.{◌∙◌, ap, fold, subst}
use Rattle.graphql_text.specs.Memory.{GivesBy}
use Rattle.graphql_schema.specs.Declarations.{declarations_of}
use Rattle.graphql_rules_document.specs.Gathered.{nothing, scopes_gathered, with_event}
use Rattle.graphql_rules_document.specs.Lent.{scopes_told}
use Rattle.graphql_rules_document.proofs.GatheredLemmas.{gathered_is}
use Rattle.graphql_rules_document.proofs.scopes.scopes_of.Goals as goal

pub returns : goal.returns
returns g c =
    subst (GivesBy scopes_told c.gather.result)
    (ap (λ es. scopes_gathered (fold with_event nothing es)) c.in_ok-walk.ensures.events ∙ gathered_is (declarations_of c.args.schema.now) c.args.document.now) c.gather.ensures

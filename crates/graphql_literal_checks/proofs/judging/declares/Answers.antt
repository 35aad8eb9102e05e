use Rattle.std.proofs.Common.{◌≡◌, Option, Some, None, Bor, refl, ap, ◌∙◌}
use Rattle.std.specs.Option.{is_some, option_copied}
use Rattle.graphql_names.specs.Names.{is_named}
use Rattle.graphql_literal_checks.proofs.InputFieldsLemmas.{found_where_it_stands}
use Rattle.graphql_literal_checks.proofs.judging.declares.Goals as goal

-- what is lent is there where it is
lent_is_there : {A : Type 0} (found : Option (Bor A)) → is_some found ≡ is_some (option_copied found)
lent_is_there None = refl
lent_is_there (Some x) = refl

pub returns : goal.returns
returns c =
    c.is_some.ensures ∙ lent_is_there c.get.result ∙ ap is_some c.get.ensures ∙ found_where_it_stands (is_named (λ v. v.name) c.args.name.now) c.args.values.now

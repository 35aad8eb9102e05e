use Rattle.std.proofs.Common.{map, ap, subst, ◌∙◌}
use Rattle.graphql_names.specs.Names.{Finds, stands_twice}
use Rattle.graphql_data_files.proofs.Placing.{ids_told}
use Rattle.graphql_data_files.proofs.places.repeat.Goals as goal

pub returns-in-None : goal.returns-in-None
returns-in-None c = λ id.
    let once = subst (Finds (stands_twice (map (λ d. d.id) c.args.drafts.now))) c.in-None.is c.in_ok-id.ensures in
    ap (λ ids. stands_twice ids id) (ids_told c.args.drafts.now) ∙ once id

use Rattle.std.proofs.Common.{map, subst, ap, sym, ◌∙◌}
use Rattle.graphql_text.specs.Memory.{Gives}
use Rattle.graphql_table.specs.TableTypes.{table_type}
use Rattle.graphql_table.proofs.Told.{told_map}
use Rattle.graphql_table.proofs.types.table_types.Goals as goal

pub returns : goal.returns
returns g c =
    let kept_of = table_type c.args.schema.now.types in
    subst (λ xs. Gives c.from_items.result xs)
    (c.in_ok-kept.ensures ∙ ap (map (λ m. kept_of m.now)) c.as_slice.ensures ∙ sym (told_map kept_of _) ∙ ap (map kept_of) c.in_ok-types.ensures.list)
    c.from_items.ensures

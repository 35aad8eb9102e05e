use Rattle.std.proofs.Common.{take, ap, ◌∙◌}
use Rattle.graphql_json.proofs.Fronts.{front_cut}
use Rattle.graphql_stores.proofs.allowing_service.append_not_allowed.Goals as goal

pub returns-in-Err-clause-kept : goal.returns-in-Err-clause-kept
returns-in-Err-clause-kept c =
    c.truncate.ensures.items ∙ ap (λ n. take n c.push_not_allowed.new.out.items) (c.len-length.ensures ∙ c.args.out.now.ok.0)
    ∙ front_cut c.args.out.now.items c.push_not_allowed.new.out.items c.in-Err.ensures.front

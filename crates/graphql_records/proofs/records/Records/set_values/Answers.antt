use Rattle.std.proofs.Common.{◌≡◌, OnErr, ap, subst, sym, ◌∙◌, rules}
use Rattle.std.specs.Option.{option_copied_mut}
use Rattle.std.proofs.lemmas.Result.{on_err_weaker}
use Rattle.graphql_records.proofs.TableLemmas.{left_alone}
use Rattle.graphql_records.proofs.records.Records.set_values.Goals.{in-Some, in-None}
use Rattle.graphql_records.proofs.records.Records.set_values.Goals as goal

pub returns-clause-err : goal.returns-clause-err
returns-clause-err c =
    let held = c.self.inside.by_id.entries in
    let after = c.match-get_index_mut.self-inside.by_id.entries in
    let same : held ≡ c.args.self.now.entries = search rules in
    elim c.match-get_index_mut.branch as (λ w. OnErr c.match-get_index_mut.result (after ≡ c.args.self.now.entries)) [
      | in-Some w ↦
          subst (λ r. OnErr r (after ≡ c.args.self.now.entries)) (sym w.result-is)
          (on_err_weaker w.set_values.result
          (λ stays. left_alone held after c.args.place w.in-Some.record.now w.set_values.new.fields
          (ap option_copied_mut (sym w.in-Some.is) ∙ c.get_index_mut.ensures.value)
          (ap (λ s. s.by_id.entries) w.self-inside-is) stays ∙ same)
          w.set_values.ensures.err)
      | in-None w ↦ subst (λ r. OnErr r (after ≡ c.args.self.now.entries)) (sym w.result-is) tt
    ]

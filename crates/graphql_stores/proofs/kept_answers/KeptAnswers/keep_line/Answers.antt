use Rattle.std.proofs.Common.{rules, ◌≡◌, subst}
use Rattle.graphql_stores.specs.Keeping.{KeepsAtMost}
use Rattle.graphql_stores.proofs.kept_answers.KeptAnswers.keep_line.Goals as goal

pub returns-in-Ok-clause-by_line : goal.returns-in-Ok-clause-by_line
returns-in-Ok-clause-by_line c =
    let same : c.in-Ok.key.now ≡ c.args.line.now = search rules in
    subst (λ key. KeepsAtMost c.args.self.now.by_line c.keep.new.self key c.args.text.now) same c.keep.ensures

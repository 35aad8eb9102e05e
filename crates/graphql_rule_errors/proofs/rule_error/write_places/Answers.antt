use Rattle.std.proofs.Common.{refl, arith, ◌∙◌}
use Rattle.std.specs.Fmt.{HasWritten}
use Rattle.std.specs.List.{join_by}
use Rattle.std.specs.Prelude.{codes, ◌++◌, take, get_or}
use Rattle.std.proofs.Output.{has_written_append, has_written_of_eq}
use Rattle.graphql_scalars.proofs.JoinLemmas.{gap_later, gap_is_text, join_by-more}
use Rattle.graphql_text.specs.Position.{origin}
use Rattle.graphql_rule_errors.specs.RuleErrorText.{place_text}
use Rattle.graphql_rule_errors.proofs.rule_error.write_places.Goals as goal

pub loop-place-preserved : goal.loop-place-preserved
loop-place-preserved g c =
    let took = g.W.Write.write_str_gives in
    let places = c.as_slice-place-items.result.now in
    let at = c.loop-place.place-index in (
      gap_is_text,
      gap_later at,
      λ plain.
          let so_far : HasWritten took c.args.f.now (join_by place_text (codes ", ") (take at places)) c.loop-place.f = c.loop-place.invariant.2 plain in
          let between : HasWritten took c.loop-place.f c.loop-place.gap.now c.write_str.new.self = c.in_ok-write_str.ensures.writes so_far.plain refl in
          let here : HasWritten took c.write_str.new.self (place_text (get_or places at origin)) c.fmt.new.f = c.in_ok-fmt.ensures.writes between.plain refl in
          has_written_of_eq _ _ _ _ _
          ((λ i. (join_by place_text (codes ", ") (take at places) ++ c.loop-place.invariant.1 i) ++ place_text (get_or places at origin)) ∙ join_by-more place_text places at origin (omega arith))
          (has_written_append _ _ _ _ _ _ (has_written_append _ _ _ _ _ _ so_far between) here),
    )

use Rattle.std.proofs.Common.{◌≡◌, take}
use denote.Text.{Utf8}
use denote.Shadow.{shadow}
use Rattle.std.specs.Fmt.{HasWritten, IsPlainFormatter}
use Rattle.std.specs.List.{join_by}
use Rattle.std.specs.Prelude.{codes}
use Rattle.graphql_scalars.proofs.JoinLemmas.{gap}
use Rattle.graphql_rule_errors.specs.RuleErrorText.{place_text}
use Rattle.graphql_rule_errors.proofs.rule_error.write_places.Given as goal

abbrev pub invariant-loop-place : goal.invariant-loop-place
invariant-loop-place g l =
    shadow (Utf8 l.gap)
    × (l.gap ≡ gap l.place-index)
    × (IsPlainFormatter l.initial.f → HasWritten g.W.Write.write_str_gives l.initial.f (join_by place_text (codes ", ") (take l.place-index l.place-items)) l.f)

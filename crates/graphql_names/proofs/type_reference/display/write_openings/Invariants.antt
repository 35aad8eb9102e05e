use Rattle.std.proofs.Common.{take}
use Rattle.std.specs.List.{flat_map}
use Rattle.std.specs.Fmt.{HasWritten, IsPlainFormatter}
use Rattle.graphql_names.specs.TypeReference.{opening}
use Rattle.graphql_names.proofs.type_reference.display.write_openings.Given as goal

abbrev pub invariant-loop-modifier : goal.invariant-loop-modifier
invariant-loop-modifier g l =
    IsPlainFormatter l.initial.f → HasWritten g.W.Write.write_str_gives l.initial.f (flat_map opening (take l.modifier-index l.modifiers)) l.f

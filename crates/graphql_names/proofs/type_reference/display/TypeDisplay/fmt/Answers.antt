use Rattle.std.proofs.Common.{rules, sym}
use Rattle.std.specs.List.{flat_map}
use Rattle.std.specs.Fmt.{HasWritten}
use Rattle.std.proofs.Output.{has_written_append, has_written_of_eq}
use Rattle.graphql_names.specs.TypeReference.{opening, closing}
use Rattle.graphql_names.proofs.TypeLemmas.{written_is}
use Rattle.graphql_names.proofs.type_reference.display.TypeDisplay.fmt.Goals as goal

pub returns-clause-writes : goal.returns-clause-writes
returns-clause-writes g c plain ok =
    let took = g.W.Write.write_str_gives in
    let name = g.N.AsStr.text c.args.self.now.name in
    let modifiers = g.M.AsSlice.items c.args.self.now.modifiers in
    let opened : HasWritten took c.args.f.now (flat_map opening modifiers) c.write_openings.new.f = search rules in
    let named : HasWritten took c.write_openings.new.f name c.write_str.new.self = search rules in
    let closed : HasWritten took c.write_str.new.self (flat_map closing modifiers) c.write_closings.new.f = search rules in
    has_written_of_eq _ _ _ _ _ (sym (written_is name modifiers)) (has_written_append _ _ _ _ _ _ (has_written_append _ _ _ _ _ _ opened named) closed)

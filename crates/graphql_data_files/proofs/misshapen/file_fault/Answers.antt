use Rattle.std.proofs.Common.{sym, subst, ◌∙◌}
use Rattle.serde_json.specs.View.{view}
use Rattle.graphql_text.specs.Memory.{Gives}
use Rattle.graphql_data_files.specs.RecordShapes.{front_fault}
use Rattle.graphql_data_files.proofs.ShapeFaults.{found_so, not_found_so}
use Rattle.graphql_data_files.proofs.misshapen.file_fault.Goals as goal

pub returns-in-Some : goal.returns-in-Some
returns-in-Some c = found_so (front_fault (view c.args.json.now)) _ c.in-Some.place (sym c.front_fault.ensures ∙ c.in-Some.is)

pub returns-in-None : goal.returns-in-None
returns-in-None c = subst (Gives c.records_fault.result) (sym (not_found_so (front_fault (view c.args.json.now)) _ (sym c.front_fault.ensures ∙ c.in-None.is))) c.records_fault.ensures

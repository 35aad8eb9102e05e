use Rattle.graphql_stores.proofs.AllowedLines.{plain-passes, refused-passes}
use Rattle.graphql_stores.proofs.allowing_service.AllowingService+S+R+R+Context.passes.Goals as goal

pub returns-in-Ok-Plain : goal.returns-in-Ok-Plain
returns-in-Ok-Plain g c =
    plain-passes _ _ c.args.self.now.allowed c.args.line.now c.in-Ok-Plain.field-0 c.in-Ok-Plain.plain c.in-Ok-Plain.field-0-is
    c.in-Ok-Plain.ensures c.as_str.result.now c.as_str.ensures.value c.allows.result c.allows.ensures

pub returns-in-Ok-Refused : goal.returns-in-Ok-Refused
returns-in-Ok-Refused g c =
    refused-passes _ _ c.args.self.now.allowed c.args.line.now c.in-Ok-Refused.field-0 c.in-Ok-Refused.field-0-is
    c.in-Ok-Refused.ensures

-- Texts that a service keeps as valid (GraphQL October 2021, 5 Validation).
use Rattle.graphql_requests.specs.KeptTexts.{AreValid}
use Rattle.graphql_executor.specs.Requests.{Scalars}
use Rattle.graphql_service.specs.declared.service.Service.{Service}

-- by what scalars mean: of each text that it keeps every document is valid for its root node
abbrev pub AreKept : {S R X C : Type 0} → Scalars S C → Service S R X C → Type 0
AreKept scalars service = AreValid scalars service.root_node service.valid

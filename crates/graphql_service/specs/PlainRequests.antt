-- Plain texts of requests, for what stands on what they mean (GraphQL October 2021,
-- 6.1 Executing Requests).
pub use Rattle.graphql_plain_requests.specs.AcceptedAgain.{IsAcceptedAgain}
pub use Rattle.graphql_plain_requests.specs.PlainRequests.{HasNoPlainText, IsDocumentAgain}
pub use Rattle.graphql_plain_requests.specs.PlainRequests.{IsPlainTextWithin, asked_at, asked_of}
pub use Rattle.graphql_plain_requests.specs.StandIns.{HasTrue, TakesStandIn, TakesTrue}
pub use Rattle.graphql_plain_requests.specs.declared.plain_error.PlainError.{PlainError}
pub use Rattle.graphql_plain_requests.specs.declared.plain_error.PlainError.TheVariants.{
  Memory,
  Refused,
  TooLarge,
}

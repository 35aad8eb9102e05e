-- What a line asks of a store, by its plain text (GraphQL October 2021, 6.1 Executing Requests).
use Rattle.std.specs.Prelude.{if◌then◌else◌, ℕ, List, string_bytes}
use Rattle.serde_json.specs.Data.{Members, no_members, member}
use Rattle.graphql_names.specs.Names.{Bytes, is_one_of}
use Rattle.graphql_lines.specs.Request.{Request}
use Rattle.graphql_lines.specs.declared.refusal.LineRefusal.{LineRefusal}
use Rattle.graphql_requests.specs.declared.graphql_error.GraphQLError.{GraphQLError}
use Rattle.graphql_service.specs.Answers.{Answerer, IsNoRequest}
use Rattle.graphql_service.specs.PlainAnswers.{HasNoPlain, HasPlain}
use Rattle.graphql_service.specs.PlainRequests.{Refused, TooLarge}
use Rattle.graphql_stores.specs.declared.asked.Asked.{Asked}
use Rattle.graphql_stores.specs.declared.asked.Asked.TheVariants as asked

-- the members of these names
abbrev pub members_named : List Bytes → Members → Members
members_named names no_members = no_members
members_named names (member name d ms) =
    if is_one_of names name then member name d (members_named names ms) else members_named names ms

-- the request that asks another text, with the same operation name, and of the values for variables
-- those of these names
abbrev pub with_query : Request → Bytes → List Bytes → Request
with_query request text names = record {
  query = text;
  operation_name = request.operation_name;
  variables = members_named names request.variables;
}

-- by what a service answers, and by the greatest size of a plain text
module _ {S C N X : Type 0} (a : Answerer S C N X) (size_limit : ℕ) (line : Bytes) where
  -- the line is refused on its way to a plain text: it is no request, or its request is not
  -- executed
  pub data IsRefusedFirst : Type 0 where
    no_request : (refusal : LineRefusal) → IsNoRequest a line refusal → IsRefusedFirst
    no_plain : (why : GraphQLError) → HasNoPlain a size_limit line (Refused why) → IsRefusedFirst

  -- what the line asks
  abbrev pub IsAskedBy : Asked → Type 0
  IsAskedBy (asked.Plain plain) = HasPlain a size_limit line (string_bytes plain)
  IsAskedBy asked.TooLarge = HasNoPlain a size_limit line TooLarge
  IsAskedBy asked.Refused = IsRefusedFirst

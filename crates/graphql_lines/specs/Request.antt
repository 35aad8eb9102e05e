-- The request that a line describes, as `serde_json` reads it (GraphQL October 2021, 6.1 Executing
-- Requests).
use Rattle.std.specs.Prelude.{◌≡◌, ◌≢◌, ℕ, ℤ, Bool, List, if◌then◌else◌, Option, Some, None, Result}
use Rattle.std.specs.Prelude.{option_map, option_and_then, codes, string_bytes}
use Rattle.std.specs.Str.{is_utf8}
use Rattle.serde_json.specs.Data.{Data, null, boolean, number, string, array, object, Members}
use Rattle.serde_json.specs.Data.{no_members}
use Rattle.serde_json.specs.Read.{read}
use Rattle.serde_json.specs.Find.{get, get_member, as_str}
use Rattle.graphql_lines.specs.declared.refusal.LineRefusal.{LineRefusal}
use Rattle.graphql_lines.specs.declared.request.GraphQLRequest.{GraphQLRequest}
use Rattle.graphql_lines.specs.Variables.{HasValues, members_of_variables, AnswersAsked}

-- what a line asks: the text of the query, the operation's name, the members of its variables
pub record Request : Type 0 where
  pub query : List ℕ
  pub operation_name : Option (List ℕ)
  pub variables : Members

-- the values of names other than this one stay
abbrev pub KeepsOthers : List ℕ → Members → Members → Type 0
KeepsOthers name old new =
    (other : List ℕ) → other ≢ name → get_member other new ≡ get_member other old

-- the data of a line that is UTF-8 and JSON
abbrev pub data_of : List ℕ → Option Data
data_of line = if is_utf8 line then read line else None

-- a name that may be missing or null; none where it is of another kind
abbrev pub name_in : Option Data → Option (Option (List ℕ))
name_in None = Some None
name_in (Some null) = Some None
name_in (Some (boolean b)) = None
name_in (Some (number n)) = None
name_in (Some (string s)) = Some (Some s)
name_in (Some (array ds)) = None
name_in (Some (object ms)) = None

-- variables may be missing
abbrev pub variables_in : Option Data → Option Members
variables_in None = Some no_members
variables_in (Some d) = members_of_variables d

abbrev pub query_in : Data → Option (List ℕ)
query_in d = option_and_then as_str (get (codes "query") d)

-- the request that data describes; none where it is no object or a member is of another kind
abbrev pub request_in : Data → Option Request
request_in d =
    option_and_then (λ query. option_and_then
    (λ name. option_map (λ ms. record { query = query; operation_name = name; variables = ms })
    (variables_in (get (codes "variables") d))) (name_in (get (codes "operationName") d)))
    (query_in d)

-- the request of a line; none where it is no JSON, no object, or a member is of another kind
abbrev pub request_of : List ℕ → Option Request
request_of line = option_and_then request_in (data_of line)

module _ {S : Type 0} (of_bool : Bool → S) (of_int : ℤ → S) (of_text : List ℕ → S) where
  -- the request holds what was asked, its variables as values
  pub record HoldsRequest (asked : Request) (r : GraphQLRequest S) : Type 0 where
    pub query : string_bytes r.query ≡ asked.query
    pub operation_name : option_map (λ name. string_bytes name) r.operation_name
        ≡ asked.operation_name
    pub variables : HasValues of_bool of_int of_text asked.variables r.variables

  -- the request that may be asked, or the refusal that is due; want of memory tells nothing
  abbrev pub AnswersRequest : Result (GraphQLRequest S) LineRefusal → Option Request → Type 0
  AnswersRequest result asked =
      AnswersAsked of_bool of_int of_text HoldsRequest (λ q. q.variables) result asked

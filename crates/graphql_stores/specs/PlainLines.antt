-- The line of a plain text (GraphQL October 2021, 6.1 Executing Requests).
use Rattle.std.specs.Prelude.{◌≡◌, if◌then◌else◌, ℕ, List, Option, Some, None, is_some, codes}
use Rattle.std.specs.Str.{IsUtf8}
use Rattle.serde_json.specs.Data.{Data, string, Members, no_members, put, depth}
use Rattle.serde_json.specs.Find.{as_null}
use Rattle.graphql_names.specs.Names.{Bytes}
use Rattle.graphql_lines.specs.Request.{Request, request_of, variables_in}
use Rattle.graphql_stores.specs.Stored.{members_named, with_query}

-- the members with this data put at a name, unless it is null or missing
abbrev pub put_given : Bytes → Option Data → Members → Members
put_given name None ms = ms
put_given name (Some d) ms = if is_some (as_null d) then ms else put name d ms

-- the members of the line of a plain text, with what stands under the other names of a request
abbrev pub members_of_plain : Bytes → Option Data → Option Data → Members
members_of_plain plain name variables =
    put_given (codes "variables") variables
    (put_given (codes "operationName") name (put (codes "query") (string plain) no_members))

-- `key` asks what is asked, but for the text of the query, which is the plain text, and with the
-- values of the variables of these names alone; the query that is asked is UTF-8
abbrev pub AsksPlain : Option Request → Bytes → List Bytes → Bytes → Type 0
AsksPlain asked plain names key =
    (request : Request) → asked ≡ Some request
    → IsUtf8 request.query × (request_of key ≡ Some (with_query request plain names))

-- of the members of variables that are given those of these names are kept
abbrev pub KeepsMembers : List Bytes → Option Data → Option Data → Type 0
KeepsMembers names given kept =
    (ms : Members) → variables_in given ≡ Some ms
    → variables_in kept ≡ Some (members_named names ms)

-- how deep data nests, if it is there
abbrev pub depth_of : Option Data → ℕ
depth_of None = 0
depth_of (Some d) = depth d

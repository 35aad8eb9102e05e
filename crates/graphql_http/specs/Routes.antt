-- What a request of HTTP asks for.
use Rattle.std.specs.Prelude.{◌||◌, Bool, true, false, codes, bytes_eq, if◌then◌else◌, Option, Some, None}
use Rattle.http_header.specs.FieldValue.{FieldValue}
use Rattle.http_header.specs.HeaderMap.{Entries, get, get_all}
use Rattle.http_uri.specs.Uri.{uri_path}
use Rattle.http.specs.Request.{head_of}
use Rattle.http.specs.declared.request.Request.{Request}
use Rattle.graphql_http.specs.Accept.{accepted}
use Rattle.graphql_http.specs.Pieces.{Bytes}
use Rattle.graphql_http.specs.ContentType.{has_json}
use Rattle.graphql_http.specs.declared.media.Media.{Media}
use Rattle.graphql_http.specs.declared.refusal.HttpRefusal.TheVariants.{UnknownPath, OnlyRead, UnknownMethod, NotAcceptable, NotJson}
use Rattle.graphql_http.specs.declared.route.Route.{Route}
use Rattle.graphql_http.specs.declared.route.Route.TheVariants.{Body, Query, Page, Health, Options, Refused}

-- GET, or HEAD, whose response is that of GET without its body (RFC 9110, 9.3.2)
abbrev pub is_read : Bytes → Bool
is_read method = bytes_eq method (codes "GET") || bytes_eq method (codes "HEAD")

-- by POST the body is asked, which has to be JSON
abbrev pub route_of_post : Bool → Option Media → Route
route_of_post false accepted = Refused NotJson
route_of_post true None = Refused NotAcceptable
route_of_post true (Some media) = Body media

-- by GET and HEAD the target's query
abbrev pub route_of_get : Option Media → Route
route_of_get None = Refused NotAcceptable
route_of_get (Some media) = Query media

-- at the path of requests
abbrev pub route_of_requests : Bytes → Entries FieldValue → Route
route_of_requests method headers =
    if bytes_eq method (codes "POST")
    then route_of_post (has_json (get headers (codes "content-type"))) (accepted (get_all headers (codes "accept")))
    else if is_read method then route_of_get (accepted (get_all headers (codes "accept")))
    else if bytes_eq method (codes "OPTIONS") then Options else Refused UnknownMethod

-- at a path that is only read
abbrev pub route_of_read : Bytes → Route → Route
route_of_read method read = if is_read method then read else Refused OnlyRead

abbrev pub route_of : Request Bytes → Route
route_of request =
    let head = head_of request in
    let path = uri_path head.uri in
    if bytes_eq path (codes "/graphql") then route_of_requests head.method head.headers
    else if bytes_eq path (codes "/") then route_of_read head.method Page
    else if bytes_eq path (codes "/health") then route_of_read head.method Health
    else Refused UnknownPath

-- The line of a plain text asks what was asked, but for the text of the query.
use Rattle.std.proofs.Common.{◌≡◌, ◌≢◌, ◌≤◌, ℕ, max, Bool, true, false, List, if◌then◌else◌, Option, Some, None, IfSome, is_some, option_map, option_and_then, unwrap_or, codes, nat_cmp, Ordering, Less, Equal, Greater, refl, sym, ap, ◌∙◌, subst, arith}
use Rattle.std.specs.Cmp.Lexicographic.{slice_cmp}
use Rattle.std.specs.Ordering.{match_ordering}
use Rattle.std.specs.Str.{IsUtf8}
use Rattle.serde_json.specs.Data.{Data, null, boolean, number, string, array, object, Members, no_members, member, put, depth, members_depth}
use Rattle.serde_json.specs.Find.{as_null, as_object, as_str, get, get_member}
use Rattle.serde_json.specs.Read.{max_depth}
use Rattle.serde_json.proofs.Views.{get_member-put, get_member-put_other}
use Rattle.graphql_names.specs.Names.{Bytes}
use Rattle.graphql_lines.specs.Request.{Request, data_of, name_in, request_in, variables_in}
use Rattle.graphql_lines.specs.Variables.{members_of_variables}
use Rattle.graphql_stores.specs.PlainLines.{AsksPlain, KeepsMembers, depth_of, members_of_plain, put_given}
use Rattle.graphql_stores.specs.Stored.{members_named, with_query}

-- a fact of what may be given gives another
pub on-some : {A : Type 0} (o : Option A) (P Q : A → Type 0) → ((a : A) → P a → Q a) → IfSome o P → IfSome o Q
on-some (Some a) P Q f h = f a h
on-some None P Q f h = tt

-- ---- how deep it nests

one-nests : (o : Ordering) (a b c : Members) (n : ℕ) → members_depth a ≤ n → members_depth b ≤ n → members_depth c ≤ n
    → members_depth (match_ordering o a b c) ≤ n
one-nests Less a b c n p q r = p
one-nests Equal a b c n p q r = q
one-nests Greater a b c n p q r = r

put-nests : (k : Bytes) (d : Data) (ms : Members) (n : ℕ) → depth d ≤ n → members_depth ms ≤ n → members_depth (put k d ms) ≤ n
put-nests k d no_members n p q = omega arith
put-nests k d (member l e ms) n p q =
    one-nests _ (member k d (member l e ms)) (member l d ms) (member l e (put k d ms)) n (omega arith) (omega arith)
    (omega (arith, put-nests k d ms n p (omega arith)))

given-nests : (k : Bytes) (o : Option Data) (ms : Members) (n : ℕ) → depth_of o ≤ n → members_depth ms ≤ n
    → members_depth (put_given k o ms) ≤ n
given-nests k None ms n p q = q
given-nests k (Some d) ms n p q = on (is_some (as_null d))
  where
    on : (b : Bool) → members_depth (if b then ms else put k d ms) ≤ n
    on true = q
    on false = put-nests k d ms n p q

one-found : (o : Ordering) (r : Option Data) (e : Data) (n : ℕ) → depth_of r ≤ n → depth e ≤ n
    → depth_of (match_ordering o r (Some e) r) ≤ n
one-found Less r e n p q = p
one-found Equal r e n p q = q
one-found Greater r e n p q = p

found-nests : (k : Bytes) (ms : Members) → depth_of (get_member k ms) ≤ members_depth ms
found-nests k no_members = omega arith
found-nests k (member l e ms) =
    let behind = found-nests k ms in
    one-found (slice_cmp nat_cmp k l) (get_member k ms) e (max (depth e) (members_depth ms)) (omega arith) (omega arith)

pub plain-nests : (plain : Bytes) (ms : Members) (variables : Option Data)
    → depth_of variables ≤ depth_of (get_member (codes "variables") ms) → depth (object ms) ≤ max_depth
    → depth (object (members_of_plain plain (get_member (codes "operationName") ms) variables)) ≤ max_depth
plain-nests plain ms variables less within =
    let n : ℕ = members_depth ms in
    let name : Option Data = get_member (codes "operationName") ms in
    let query : Members = put (codes "query") (string plain) no_members in
    let named : members_depth (put_given (codes "operationName") name query) ≤ n =
    given-nests (codes "operationName") name query n (found-nests (codes "operationName") ms) (omega arith) in
    let all : members_depth (members_of_plain plain name variables) ≤ n =
    given-nests (codes "variables") variables (put_given (codes "operationName") name query) n
    (omega (arith, less, found-nests (codes "variables") ms)) named in
    omega (arith, all, within)

-- ---- what it asks

-- what is given, unless it is null
abbrev not_null : Option Data → Option Data
not_null None = None
not_null (Some d) = if is_some (as_null d) then None else Some d

at-given : (k : Bytes) (o : Option Data) (ms : Members) → get_member k ms ≡ None → get_member k (put_given k o ms) ≡ not_null o
at-given k None ms nothing = nothing
at-given k (Some d) ms nothing = on (is_some (as_null d))
  where
    on : (b : Bool) → get_member k (if b then ms else put k d ms) ≡ (if b then None else Some d)
    on true = nothing
    on false = get_member-put k d ms

past-given : (q k : Bytes) (o : Option Data) (ms : Members) → (q ≡ k → ⊥) → get_member q (put_given k o ms) ≡ get_member q ms
past-given q k None ms apart = refl
past-given q k (Some d) ms apart = on (is_some (as_null d))
  where
    on : (b : Bool) → get_member q (if b then ms else put k d ms) ≡ get_member q ms
    on true = refl
    on false = get_member-put_other q k d ms apart

name-given : (o : Option Data) → name_in (not_null o) ≡ name_in o
name-given None = refl
name-given (Some null) = refl
name-given (Some (boolean b)) = refl
name-given (Some (number n)) = refl
name-given (Some (string s)) = refl
name-given (Some (array ds)) = refl
name-given (Some (object ms)) = refl

variables-given : (o : Option Data) → variables_in (not_null o) ≡ variables_in o
variables-given None = refl
variables-given (Some null) = refl
variables-given (Some (boolean b)) = refl
variables-given (Some (number n)) = refl
variables-given (Some (string s)) = refl
variables-given (Some (array ds)) = refl
variables-given (Some (object ms)) = refl

abbrev asked_with : Option Bytes → Option (Option Bytes) → Option Members → Option Request
asked_with query name variables =
    option_and_then (λ q. option_and_then (λ n. option_map (λ ms. record { query = q; operation_name = n; variables = ms })
    variables) name) query

other-query : (plain query : Bytes) (names : List Bytes) (name : Option (Option Bytes)) (variables kept : Option Members)
    (request : Request) → ((ms : Members) → variables ≡ Some ms → kept ≡ Some (members_named names ms))
    → asked_with (Some query) name variables ≡ Some request
    → (request.query ≡ query) × (asked_with (Some plain) name kept ≡ Some (with_query request plain names))
other-query plain query names None variables kept request keeps e = absurd (cc)
other-query plain query names (Some n) None kept request keeps e = absurd (cc)
other-query plain query names (Some n) (Some ms) kept request keeps e =
    let here : Request = record { query = query; operation_name = n; variables = ms } in
    let same : request ≡ here = ap (λ (o : Option Request). unwrap_or o here) (sym e) in (
      ap (λ (r : Request). r.query) same,
      ap (λ (v : Option Members). asked_with (Some plain) (Some n) v) (keeps ms refl)
          ∙ ap (λ (r : Request). Some (with_query r plain names)) (sym same),
    )

abbrev without_values : Bytes → Option Data → Members
without_values plain name = put_given (codes "operationName") name (put (codes "query") (string plain) no_members)

module _ (plain : Bytes) (name variables : Option Data) where
  apart : codes "query" ≢ codes "variables"
  apart e = cc

  apart-name : codes "query" ≢ codes "operationName"
  apart-name e = cc

  apart-values : codes "operationName" ≢ codes "variables"
  apart-values e = cc

  values-apart : codes "variables" ≢ codes "operationName"
  values-apart e = cc

  at-query : get_member (codes "query") (members_of_plain plain name variables) ≡ Some (string plain)
  at-query =
      past-given (codes "query") (codes "variables") variables (without_values plain name) apart
      ∙ past-given (codes "query") (codes "operationName") name (put (codes "query") (string plain) no_members) apart-name

  at-name : get_member (codes "operationName") (members_of_plain plain name variables) ≡ not_null name
  at-name =
      past-given (codes "operationName") (codes "variables") variables (without_values plain name) apart-values
      ∙ at-given (codes "operationName") name (put (codes "query") (string plain) no_members) refl

  at-variables : get_member (codes "variables") (members_of_plain plain name variables) ≡ not_null variables
  at-variables =
      at-given (codes "variables") variables (without_values plain name)
      (past-given (codes "variables") (codes "operationName") name (put (codes "query") (string plain) no_members) values-apart)

  asks-with : request_in (object (members_of_plain plain name variables)) ≡ asked_with (Some plain) (name_in name) (variables_in variables)
  asks-with =
      ap (λ q. asked_with q (name_in (get_member (codes "operationName") (members_of_plain plain name variables)))
      (variables_in (get_member (codes "variables") (members_of_plain plain name variables)))) (ap (option_and_then as_str) at-query)
      ∙ ap (λ n. asked_with (Some plain) n (variables_in (get_member (codes "variables") (members_of_plain plain name variables))))
      (ap name_in at-name ∙ name-given name)
      ∙ ap (λ v. asked_with (Some plain) (name_in name) v) (ap variables_in at-variables ∙ variables-given variables)

  pub asks-plain : (d : Data) (query : Bytes) (names : List Bytes) (given : Option Data) → IsUtf8 query
      → get (codes "query") d ≡ Some (string query) → get (codes "operationName") d ≡ name
      → get (codes "variables") d ≡ given → KeepsMembers names given variables
      → (key : Bytes) → data_of key ≡ Some (object (members_of_plain plain name variables))
      → AsksPlain (request_in d) plain names key
  asks-plain d query names given utf8 has_query has_name has_variables keeps key reads request asked =
      let told : request_in d ≡ asked_with (Some query) (name_in name) (variables_in given) =
      ap (λ q. asked_with q (name_in (get (codes "operationName") d)) (variables_in (get (codes "variables") d)))
      (ap (option_and_then as_str) has_query)
      ∙ ap (λ n. asked_with (Some query) (name_in n) (variables_in (get (codes "variables") d))) has_name
      ∙ ap (λ v. asked_with (Some query) (name_in name) (variables_in v)) has_variables in
      let both = other-query plain query names (name_in name) (variables_in given) (variables_in variables) request keeps
      (sym told ∙ asked) in
      (subst IsUtf8 (sym both.0) utf8, ap (option_and_then request_in) reads ∙ asks-with ∙ both.1)

-- the data of an object, by its members
pub of-object : (d : Data) (ms : Members) → as_object d ≡ Some ms → d ≡ object ms
of-object null ms e = absurd (cc)
of-object (boolean b) ms e = absurd (cc)
of-object (number n) ms e = absurd (cc)
of-object (string s) ms e = absurd (cc)
of-object (array ds) ms e = absurd (cc)
of-object (object ns) ms e = ap (λ o. object (unwrap_or o ns)) e

-- variables that are no object are null, and give no members
pub no-object : (names : List Bytes) (d : Data) (ms : Members) → as_object d ≡ None
    → members_of_variables d ≡ Some ms → Some no_members ≡ Some (members_named names ms)
no-object names null ms none e = ap (λ (o : Option Members). Some (members_named names (unwrap_or o no_members))) e
no-object names (boolean b) ms none e = absurd (cc)
no-object names (number n) ms none e = absurd (cc)
no-object names (string s) ms none e = absurd (cc)
no-object names (array ds) ms none e = absurd (cc)
no-object names (object ns) ms none e = absurd (cc)

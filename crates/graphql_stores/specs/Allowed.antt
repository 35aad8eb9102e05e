-- Requests that a store allows (GraphQL October 2021, 6.1 Executing Requests).
use Rattle.std.specs.Prelude.{◌≡◌, true, ℕ}
use Rattle.graphql_names.specs.Names.{Bytes}
use Rattle.graphql_stores.specs.Stores.{is_allowed}
use Rattle.graphql_stores.specs.declared.allowed_queries.AllowedQueries.{AllowedQueries}
use Rattle.graphql_requests.specs.Asked.{Asking}
use Rattle.graphql_schema.specs.Scalars.{Scalars}
use Rattle.graphql_plain_requests.specs.PlainRequests.{IsPlainTextWithin}

-- by what scalars mean, a store, and the greatest size of a plain text
module _ {S C : Type 0} (s : Scalars S C) (store : AllowedQueries) (size_limit : ℕ) where
  -- what is asked has a plain text that is in the store
  pub record IsAllowed (a : Asking S C) : Type 0 where
    pub plain : Bytes
    pub is : IsPlainTextWithin s a size_limit plain
    pub stored : is_allowed store plain ≡ true

-- What is stored is allowed, however it is spelled, and stands for the requests that are allowed.
use Rattle.graphql_executor.specs.Resolvers.{Resolver}
use Rattle.graphql_plain_requests.specs.Laws.{PlainRequestsStay, SameTokensAreAskedAlike}
use Rattle.graphql_schema.specs.Scalars.{Scalars}
use Rattle.graphql_schema.specs.declared.root_node.RootNode.{RootNode}
use Rattle.graphql_service.specs.MeaningLaws.{PlainIsAnsweredToo, PlainMeansTheSame}
use Rattle.graphql_stores.specs.AllowedLaws.{SameTokensAreAllowedAlike, StoredTextsAreAllowed, StoredTextsStandForRequests}

module _ {S C : Type 0} (s : Scalars S C) (root : RootNode S C) where
  pub stored-allowed : PlainRequestsStay s root → StoredTextsAreAllowed s root
  stored-allowed stay takes store size_limit source name given plain utf8 is stored =
      record { plain = plain; is = (stay takes source name given size_limit plain utf8 is).is; stored = stored }

  pub tokens-allowed : SameTokensAreAskedAlike s root → SameTokensAreAllowedAlike s root
  tokens-allowed same store size_limit one other name given utf8 utf8_other alike =
      let plain = (same one other name given utf8 utf8_other alike).plain in (
        (λ h. record { plain = h.plain; is = (plain size_limit h.plain).0 h.is; stored = h.stored }),
        (λ h. record { plain = h.plain; is = (plain size_limit h.plain).1 h.is; stored = h.stored }),
      )

  pub texts-stand : {N X : Type 0} (r : Resolver S N X) → PlainRequestsStay s root → PlainMeansTheSame s root r
      → PlainIsAnsweredToo s root r → StoredTextsStandForRequests s root r
  texts-stand r stay means too takes store size_limit source name given utf8 h = record {
    text = h.plain;
    stored = h.stored;
    allowed = stored-allowed stay takes store size_limit source name given h.plain utf8 h.is h.stored;
    same = record {
      alike = means source name given h.plain utf8 h.is.plain;
      without_errors = too takes source name given h.plain utf8 h.is.plain;
    };
  }

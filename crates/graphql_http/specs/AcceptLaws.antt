-- Which media type is chosen, in the words of RFC 9110, 12.5.1 Accept.
use Rattle.std.specs.Prelude.{◌≡◌, ◌≢◌, ◌⊎◌, ◌<◌, ◌≤◌, List, [], All, Option, Some, None}
use Rattle.std.specs.List.{Contains}
use Rattle.http_header.specs.FieldValue.{FieldValue}
use Rattle.graphql_http.specs.Accept.{accepted, elements, kind_of, nearness, weight}
use Rattle.graphql_http.specs.Pieces.{Bytes}
use Rattle.graphql_http.specs.declared.media.Media.{Media}
use Rattle.graphql_http.specs.declared.media.Media.TheVariants.{Json}

-- a range is no rival of another one: it names the media type less nearly, or as nearly and with no
-- greater weight
abbrev pub IsNoRival : Bytes → Bytes → Bytes → Type 0
IsNoRival kind range other =
    (nearness kind other < nearness kind range)
    ⊎ ((nearness kind other ≡ nearness kind range) × (weight other ≤ weight range))

-- of these media ranges this one decides for the media type: it names it, and no other is its rival
pub record Decides (kind : Bytes) (ranges : List Bytes) (range : Bytes) : Type 0 where
  pub within : Contains ranges range
  pub names : 0 < nearness kind range
  pub nearest : All (IsNoRival kind range) ranges

-- the range that decides for the media type gives it some weight, and the one that decides for
-- another media type gives that no more
pub record IsPreferred (ranges : List Bytes) (media : Media) : Type 0 where
  pub range : Bytes
  pub decides : Decides (kind_of media) ranges range
  pub heavy : 0 < weight range
  pub heaviest : (other : Media) (rival : Bytes) → Decides (kind_of other) ranges rival → weight rival ≤ weight range

-- where none is chosen, each range that decides gives no weight
abbrev pub IsChoice : List Bytes → Option Media → Type 0
IsChoice ranges None = (media : Media) (range : Bytes) → Decides (kind_of media) ranges range → weight range ≡ 0
IsChoice ranges (Some media) = IsPreferred ranges media

-- a request without `Accept` gets `application/json`, any other what its ranges choose
pub record ChoosesByRanges : Type 0 where
  pub without : accepted [] ≡ Some Json
  pub chosen : (values : List FieldValue) → values ≢ [] → IsChoice (elements values) (accepted values)

-- Pairs of pieces whose fields stand together.
use Rattle.std.proofs.Common.{Bool}
use Rattle.graphql_merging.specs.Merging.{in_set, in_sets}
use Rattle.graphql_merging.specs.Pieces.{directly, in_fragment}
use Rattle.graphql_merging.specs.Laws.{PairsStayTogether}

pub pairs-stay-together : (S C : Type 0) (eq : S → S → Bool) → PairsStayTogether S C eq
pairs-stay-together S C eq types t ms owns = (
  (λ p piece f g i j key. in_set f.member g.member (piece.only f i) (piece.only g j) key),
  (λ p q r x meets i f g j k key. meets f g (in_fragment p r f i j) k key),
  (λ p q r x meets i f g j k key. meets f g j (in_fragment q r g i k) key),
  (λ p q f g x meets i j key h k u v under.
      in_sets x f.member g.member h.member k.member (meets f g (directly p f i) (directly q g j) key) ((owns p f i).only h u) ((owns q g j).only k v) under),
)

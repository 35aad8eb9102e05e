-- Requests whose texts have the same tokens are asked alike.
use Rattle.std.proofs.Common.{sym, ℕ, List}
use Rattle.std.specs.Str.{chars}
use Rattle.graphql_language.specs.Alike.{AreAlike}
use Rattle.graphql_schema.specs.Declarations.{declarations_of}
use Rattle.graphql_schema.specs.declared.root_node.RootNode.{RootNode}
use Rattle.graphql_schema.specs.Scalars.{Scalars}
use Rattle.graphql_plain_requests.specs.Laws.{AreValidAlike}
use Rattle.graphql_plain_requests.specs.Laws.{SameTokensAreAskedAlike}
use Rattle.graphql_plain_requests.proofs.AskedAlike.{executed-alike, refused-at-alike}
use Rattle.graphql_plain_requests.proofs.PlainAlike.{larger-alike, plain-alike}

pub other-way : (text other : List ℕ) → AreAlike text other → AreAlike other text
other-way text other h =
    record {
      tokens = h.others;
      others = h.tokens;
      divided = h.divided_other;
      divided_other = h.divided;
      same = sym h.same;
    }

pub same-tokens-are-asked-alike : {S C : Type 0} (s : Scalars S C) (root : RootNode S C)
    → AreValidAlike s (declarations_of root.schema)
    → SameTokensAreAskedAlike s root
same-tokens-are-asked-alike s root valid one other name given utf8 utf8_other alike =
    let back = other-way (chars one) (chars other) alike in
    record {
      refused = λ step. (
        refused-at-alike s root valid name given one other alike step,
        refused-at-alike s root valid name given other one back step,
      );
      executed = (
        executed-alike s root valid name given one other alike,
        executed-alike s root valid name given other one back,
      );
      plain = λ limit bytes. (
        plain-alike s root valid name given one other utf8 utf8_other alike limit bytes,
        plain-alike s root valid name given other one utf8_other utf8 back limit bytes,
      );
      larger = λ limit. (
        larger-alike s root valid name given one other utf8 utf8_other alike limit,
        larger-alike s root valid name given other one utf8_other utf8 back limit,
      );
    }

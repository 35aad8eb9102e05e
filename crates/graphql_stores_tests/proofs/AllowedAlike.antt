-- Texts that are found to have the same tokens are allowed alike.
use Rattle.std.proofs.Common.{◌↔◌, IsTrue, Bool, Result, Ok, Err, IfOk}
use Rattle.std.specs.Str.{chars, IsUtf8}
use Rattle.graphql_names.specs.Names.{Bytes}
use Rattle.graphql_schema.specs.declared.root_node.RootNode.{RootNode}
use Rattle.graphql_language.specs.Alike.{AreAlike}
use Rattle.graphql_schema.specs.Scalars.{Scalars}
use Rattle.graphql_stores.specs.AllowedLaws.{SameTokensAreAllowedAlike}
use Rattle.graphql_stores_tests.specs.Stored.{AreAllowedAlike}

pub alike-allowed : {S C E : Type 0} (s : Scalars S C) (root : RootNode S C) → SameTokensAreAllowedAlike s root
    → (one other : Bytes) → IsUtf8 one → IsUtf8 other → (found : Result Bool E)
    → IfOk found (λ same. IsTrue same ↔ AreAlike (chars one) (chars other))
    → IfOk found (λ same. IsTrue same → AreAllowedAlike s root one other)
alike-allowed s root law one other utf8 utf8_other (Ok same) h =
    λ is store size_limit name given. law store size_limit one other name given utf8 utf8_other (h.0 is)
alike-allowed s root law one other utf8 utf8_other (Err e) h = tt

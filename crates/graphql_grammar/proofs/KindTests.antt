-- Tests of the kind that stands next, as the steps say them.
use Rattle.std.proofs.Common.{◌≡◌, Bool, true, false, not, refl, sym}
use Rattle.graphql_grammar.specs.declared.kind.Kind.{Kind}
use Rattle.graphql_grammar.specs.Kinds.{only, same_kind}
use Rattle.graphql_grammar.specs.Input.{Input, peek_kind}
use Rattle.graphql_grammar.specs.Steps.{sees}
use Rattle.graphql_grammar.proofs.Turns.{sees_kind}

-- a test by `==`
pub asked_kind : (w : Kind) (i : Input) (v : Kind) (b : Bool) → v ≡ peek_kind i → b ≡ same_kind v w → sees (only w) i ≡ b
asked_kind w i v b is test = sees_kind (only w) i v b is (sym test)

not_true : (b : Bool) → true ≡ not b → b ≡ false
not_true true e = absurd (cc)
not_true false e = refl

not_false : (b : Bool) → false ≡ not b → b ≡ true
not_false true e = refl
not_false false e = absurd (cc)

-- a test by `!=`, where it holds
pub other_kind : (w : Kind) (i : Input) (v : Kind) → v ≡ peek_kind i → true ≡ not (same_kind v w) → sees (only w) i ≡ false
other_kind w i v is test = sees_kind (only w) i v false is (not_true (same_kind v w) test)

-- a test by `!=`, where it fails
pub this_kind : (w : Kind) (i : Input) (v : Kind) → v ≡ peek_kind i → false ≡ not (same_kind v w) → sees (only w) i ≡ true
this_kind w i v is test = sees_kind (only w) i v true is (not_false (same_kind v w) test)

-- What a test tells of what may be there.
use Rattle.std.proofs.Common.{◌≡◌, ◌↔◌, Bool, true, IsTrue, IfOk, Option, Some, None, IfSome, Result, sym, subst}
use Rattle.std.specs.declared.alloc.AllocError.{AllocError}
use Rattle.graphql_literal_checks.proofs.Decided.{holds}

module _ {A : Type 0} (P : A → Type 0) (o : Option A) where
  pub if_there : (x : A) (r : Result Bool AllocError) → o ≡ Some x → IfOk r (λ told. IsTrue told ↔ P x) → IfOk r (λ told. IsTrue told ↔ IfSome o P)
  if_there x r is told = subst (λ found. IfOk r (λ told. IsTrue told ↔ IfSome found P)) (sym is) told

  pub if_absent : o ≡ None → IsTrue true ↔ IfSome o P
  if_absent is = subst (λ found. IsTrue true ↔ IfSome found P) (sym is) (holds tt)

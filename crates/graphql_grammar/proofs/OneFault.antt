-- What is no tree has one first faulty token, and that token one fault.
use Rattle.std.proofs.Common.{◌≡◌, inl, inr, List, ◌∷◌, ap, ◌∙◌, sym, subst}
use Rattle.graphql_text.specs.declared.position.Span.{Span}
use Rattle.graphql_text.specs.declared.token.Token.TheVariants as t
use Rattle.graphql_text.specs.declared.token.ScalarToken.{ScalarToken}
use Rattle.graphql_grammar.specs.Input.{Input, Located, Fault}
use Rattle.graphql_grammar.specs.Faults.{Reading, BadScalar, FaultOf, unexpected_token, refused_scalar, FirstFaultyToken}
use Rattle.graphql_grammar.proofs.Fronts.{Fronts, fronts, begins_before}

same_token : (a b : Located) (u v : ScalarToken) → a ≡ b → a.item ≡ t.Scalar u → b.item ≡ t.Scalar v → u ≡ v
same_token a b u v same is at = let s : t.Scalar u ≡ t.Scalar v = sym is ∙ ap (λ (z : Located). z.item) same ∙ at in cc

module _ {S A : Type 0} (reads : Reading S) (Tree : Reading S → List Located → A → Type 0) where
  same_bad : (a b : Located) (e f : Fault) → a ≡ b → BadScalar reads a e → BadScalar reads b f → e ≡ f
  same_bad a b e f same x y =
      let r = sym x.reads_not ∙ ap reads (same_token a b x.token y.token same x.is y.is) ∙ y.reads_not in
      let error : x.error ≡ y.error = cc in
      x.fault ∙ ap (λ z. record { item = z; span = a.span }) error ∙ ap (λ (z : Located). record { item = y.error; span = z.span }) same ∙ sym y.fault

  same_fault : (f : Span) (before rest : List Located) (d e : Fault) → FaultOf reads Tree f before rest d → FaultOf reads Tree f before rest e → d ≡ e
  same_fault f before rest d e (unexpected_token x none) (unexpected_token y nothing) = x ∙ sym y
  same_fault f before rest d e (unexpected_token x none) (refused_scalar a more at bad takes) = absurd (none a more at (record { token = bad.token; is = bad.is }) takes)
  same_fault f before rest d e (refused_scalar a more at bad takes) (unexpected_token y none) = absurd (none a more at (record { token = bad.token; is = bad.is }) takes)
  same_fault f before rest d e (refused_scalar a more at bad takes) (refused_scalar b others is worse also) =
      let u : a ∷ more ≡ b ∷ others = sym at ∙ is in let same : a ≡ b = cc in same_bad a b d e same bad worse

  pub one_first_fault : (i : Input) (d e : Fault) → FirstFaultyToken reads Tree i d → FirstFaultyToken reads Tree i e → d ≡ e
  one_first_fault i d e x y = on (fronts x.before x.rest y.before y.rest (sym x.front ∙ y.front))
    where
      on : Fronts x.before x.rest y.before y.rest → d ≡ e
      on (inl s) = same_fault i.finish y.before y.rest d e (subst (λ zs. FaultOf reads Tree i.finish y.before zs d) s.1 (subst (λ zs. FaultOf reads Tree i.finish zs x.rest d) s.0 x.fault)) y.fault
      on (inr (inl g)) = absurd (x.impossible g.next g.behind g.rest_is (begins_before reads (Tree reads) x.before x.rest y.before g y.possible))
      on (inr (inr g)) = absurd (y.impossible g.next g.behind g.rest_is (begins_before reads (Tree reads) y.before y.rest x.before g x.possible))

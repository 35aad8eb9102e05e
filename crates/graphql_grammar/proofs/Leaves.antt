-- What stands behind some tokens in front.
use Rattle.std.proofs.Common.{◌≡◌, List, [], ◌∷◌, ◌++◌, drop, true, false, Bool, ap, ◌∙◌, sym, refl, subst, append_assoc}
use Rattle.graphql_text.specs.declared.position.Span.{Span}
use Rattle.graphql_text.specs.declared.position.SourcePosition.{SourcePosition}
use Rattle.graphql_grammar.specs.Kinds.{Kinds}
use Rattle.graphql_grammar.specs.Input.{Input, Located, end_after, next}
use Rattle.graphql_grammar.specs.Steps.{sees}
use Rattle.graphql_grammar.specs.Ahead.{mk}
use Rattle.graphql_grammar.specs.Relations.{end_of}
use Rattle.graphql_grammar.specs.Cursor.{after}
use Rattle.graphql_grammar.specs.Leaves.{Behind}
use Rattle.graphql_grammar.proofs.Cursors.{after_yes, after_no}
use Rattle.graphql_grammar.proofs.Stops.{end-append}

pub behind_same : {i j : Input} → j ≡ i → Behind i j
behind_same {i} {j} is = subst (λ z. Behind i z) (sym is) (record { tokens = []; front = refl; after = refl })

pub behind_then : {i m j : Input} → Behind i m → Behind m j → Behind i j
behind_then {i} {m} {j} a b = record {
  tokens = a.tokens ++ b.tokens;
  front = a.front ∙ ap (λ ts. a.tokens ++ ts) b.front ∙ sym (append_assoc a.tokens b.tokens j.ahead);
  after = b.after ∙ ap (λ z. mk j.ahead z (end_of m.end b.tokens)) (ap (λ (k : Input). k.finish) a.after) ∙ ap (λ z. mk j.ahead i.finish (end_of z b.tokens)) (ap (λ (k : Input). k.end) a.after)
      ∙ ap (λ z. mk j.ahead i.finish z) (sym (end-append i.end a.tokens b.tokens));
}

-- ---- the next token

behind_first : (f : Span) (e : SourcePosition) (xs : List Located) → Behind (mk xs f e) (mk (drop 1 xs) f (end_after e xs))
behind_first f e [] = record { tokens = []; front = refl; after = refl }
behind_first f e (x ∷ xs) = record { tokens = x ∷ []; front = refl; after = refl }

pub behind_next : {i j : Input} → j ≡ next i → Behind i j
unfolding next
behind_next {i} {j} is = subst (λ z. Behind i z) (sym is) (behind_first i.finish i.end i.ahead)

behind_seen : (kinds : Kinds) (i : Input) (b : Bool) → sees kinds i ≡ b → Behind i (after kinds i)
behind_seen kinds i true seen = behind_next (after_yes kinds i seen)
behind_seen kinds i false seen = behind_same (after_no kinds i seen)

pub behind_after : (kinds : Kinds) {i j : Input} → j ≡ after kinds i → Behind i j
behind_after kinds {i} {j} is = subst (λ z. Behind i z) (sym is) (behind_seen kinds i (sees kinds i) refl)

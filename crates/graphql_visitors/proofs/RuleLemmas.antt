-- What rules tell over a document.
use Rattle.std.proofs.Common.{◌≡◌, List, [], ◌∷◌, ◌++◌, refl, sym, ap, subst, ◌∙◌, append_assoc}
use Rattle.std.specs.List.{flat_map}
use Rattle.std.proofs.lemmas.Grind.{flat_map-append}
use Rattle.std.proofs.lemmas.List.Sorted.{IsPermutation-append_comm, IsPermutation-append_left, IsPermutation-append_right, IsPermutation-refl, IsPermutation-trans}
use Rattle.std.specs.Prelude.{IsPermutation}
use Rattle.graphql_occurrences.specs.Nodes.{Seen}
use Rattle.graphql_occurrences.specs.PartsOf.{parts_of}
use Rattle.graphql_rule_errors.specs.Places.{Places}
use Rattle.graphql_visitors.specs.Rules.{Rule, Relation, Tell, local, locally, both_steps, silent}
use Rattle.graphql_visitors.specs.Runs.{VisitorStep, Runs, joined}
use Rattle.graphql_visitors.specs.Subjects.{Subject}
use Rattle.graphql_visitors.specs.declared.multi.MultiVisitorCons.{MultiVisitorCons}
use Rattle.graphql_visitors.specs.declared.multi.MultiVisitorNil.{MultiVisitorNil}

module _ {V S C : Type 0} (rule : Rule S C) (subject : Subject S C) where
  -- what a local rule tells of events
  pub runs_local : (v w : V) (es : List (Seen S C)) (ts : List Places) → Runs (local rule) subject v es w ts → joined ts ≡ flat_map (rule subject) (flat_map parts_of es)
  runs_local v w [] [] h = refl
  runs_local v w [] (t ∷ ts) h = absurd h
  runs_local v w (e ∷ es) [] h = absurd h
  runs_local v w (e ∷ es) (t ∷ ts) h =
      (λ i. (h.1).1 i ++ runs_local h.0 w es ts h.2 i) ∙ sym (flat_map-append (rule subject) (parts_of e) (flat_map parts_of es))

module _ {X : Type 0} (Says : X → Places → Type 0) where
  pub tell_append : (xs ys : List X) (ts us : Places) → Tell Says xs ts → Tell Says ys us → Tell Says (xs ++ ys) (ts ++ us)
  tell_append [] ys ts us h k = subst (λ x. Tell Says ys (x ++ us)) (sym h) k
  tell_append (x ∷ xs) ys ts us h k =
      let first = h.0 in
      let rest = h.1 in
      (first, rest ++ us, ap (λ z. z ++ us) h.2 ∙ append_assoc first rest us, h.3, tell_append xs ys rest us h.4 k)

module _ {V S C : Type 0} (Says : Relation S C) (subject : Subject S C) where
  -- what a rule that asks tells of events
  pub runs_locally : (v w : V) (es : List (Seen S C)) (ts : List Places) → Runs (locally Says) subject v es w ts → Tell (Says subject) (flat_map parts_of es) (joined ts)
  runs_locally v w [] [] h = refl
  runs_locally v w [] (t ∷ ts) h = absurd h
  runs_locally v w (e ∷ es) [] h = absurd h
  runs_locally v w (e ∷ es) (t ∷ ts) h = tell_append (Says subject) (parts_of e) (flat_map parts_of es) t (joined ts) (h.1).1 (runs_locally h.0 w es ts h.2)

-- two middles change places
exchanged : {A : Type 0} (a b c d : List A) → IsPermutation ((a ++ b) ++ (c ++ d)) ((a ++ c) ++ (b ++ d))
exchanged a b c d =
    subst (λ x. IsPermutation x ((a ++ c) ++ (b ++ d))) (sym (append_assoc a b (c ++ d)))
    (subst (λ x. IsPermutation (a ++ (b ++ (c ++ d))) x) (sym (append_assoc a c (b ++ d)))
    (IsPermutation-append_right a (b ++ (c ++ d)) (c ++ (b ++ d))
    (subst (λ x. IsPermutation x (c ++ (b ++ d))) (append_assoc b c d)
    (subst (λ x. IsPermutation ((b ++ c) ++ d) x) (append_assoc c b d)
    (IsPermutation-append_left d (b ++ c) (c ++ b) (IsPermutation-append_comm b c))))))

module _ {A B S C : Type 0} (one : VisitorStep A S C) (other : VisitorStep B S C) (subject : Subject S C) where
  -- what two visitors tell: each what it tells alone
  pub runs_both : (v w : MultiVisitorCons A B) (es : List (Seen S C)) (ts : List Places) → Runs (both_steps one other) subject v es w ts →
      (xs : List Places) × (ys : List Places) × Runs one subject v.first es w.first xs × Runs other subject v.second es w.second ys × IsPermutation (joined xs ++ joined ys) (joined ts)
  runs_both v w [] [] h = ([], [], ap (λ z. z.first) h, ap (λ z. z.second) h, IsPermutation-refl [])
  runs_both v w [] (t ∷ ts) h = absurd h
  runs_both v w (e ∷ es) [] h = absurd h
  runs_both v w (e ∷ es) (t ∷ ts) h =
      let u = h.0 in
      let did = h.1 in
      let rest = runs_both u w es ts h.2 in
      let x = did.0 in
      let y = did.1 in (
        x ∷ rest.0,
        y ∷ rest.1,
        (u.first, did.3, rest.2),
        (u.second, did.4, rest.3),
        IsPermutation-trans ((x ++ joined rest.0) ++ (y ++ joined rest.1)) ((x ++ y) ++ (joined rest.0 ++ joined rest.1)) (t ++ joined ts)
            (exchanged x (joined rest.0) y (joined rest.1))
            (subst (λ z. IsPermutation ((x ++ y) ++ (joined rest.0 ++ joined rest.1)) (z ++ joined ts)) (sym did.2)
            (IsPermutation-append_right (x ++ y) (joined rest.0 ++ joined rest.1) (joined ts) rest.4)),
      )

module _ {S C : Type 0} (subject : Subject S C) where
  pub runs_silent : (v w : MultiVisitorNil) (es : List (Seen S C)) (ts : List Places) → Runs silent subject v es w ts → joined ts ≡ []
  runs_silent v w [] [] h = refl
  runs_silent v w [] (t ∷ ts) h = absurd h
  runs_silent v w (e ∷ es) [] h = absurd h
  runs_silent v w (e ∷ es) (t ∷ ts) h = ap (λ z. z ++ joined ts) (h.1).1 ∙ runs_silent h.0 w es ts h.2

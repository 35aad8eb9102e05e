-- The first faulty token of a text is that of each text with the same tokens, for any grammar that does not see places.
use Rattle.std.proofs.Common.{◌≡◌, inl, inr, List, [], ◌∷◌, ◌++◌, drop, ap, ◌∙◌, sym, refl, subst}
use Rattle.std.proofs.lemmas.List.{map-append}
use Rattle.graphql_text.specs.declared.position.Span.{Span}
use Rattle.graphql_text.specs.declared.position.SourcePosition.{SourcePosition}
use Rattle.graphql_text.specs.declared.token.Token.TheVariants as t
use Rattle.graphql_grammar.specs.Input.{Located, Fault, first, unexpected}
use Rattle.graphql_grammar.specs.Ahead.{mk}
use Rattle.graphql_grammar.specs.Faults.{Reading, IsScalarToken, BadScalar, Begins, TakesScalar, FaultOf, unexpected_token, refused_scalar, FirstFaultyToken}
use Rattle.graphql_grammar.specs.Alike.{tokens_of, SameTokens, Corresponding}
use Rattle.graphql_grammar.proofs.Alike.{same_first}
use Rattle.graphql_grammar.proofs.FirstFaults.{fault_span}

-- ---- the same tokens, cut and joined

pub same_append : (ts us vs ws : List Located) → SameTokens ts us → SameTokens vs ws → SameTokens (ts ++ vs) (us ++ ws)
same_append ts us vs ws h l = let item = λ (a : Located). a.item in
    map-append item ts vs ∙ ap (λ z. z ++ tokens_of vs) h ∙ ap (λ z. tokens_of us ++ z) l ∙ sym (map-append item us ws)

same_tail : (a b : Located) (ts us : List Located) → SameTokens (a ∷ ts) (b ∷ us) → SameTokens ts us
same_tail a b ts us h = ap (λ z. drop 1 z) h

same_head : (a b : Located) (ts us : List Located) → SameTokens (a ∷ ts) (b ∷ us) → a.item ≡ b.item
same_head a b ts us h = cc

same_cons : (a b : Located) (ts us : List Located) → a.item ≡ b.item → SameTokens ts us → SameTokens (a ∷ ts) (b ∷ us)
same_cons a b ts us h l = ap (λ z. z ∷ tokens_of ts) h ∙ ap (λ z. b.item ∷ z) l

-- what is like two parts has two parts like them
pub same_split : (front back us : List Located) → SameTokens (front ++ back) us → (l : List Located) × (r : List Located) × (us ≡ l ++ r) × SameTokens front l × SameTokens back r
same_split [] back us h = ([], us, refl, refl, h)
same_split (a ∷ front) back [] h = absurd (cc)
same_split (a ∷ front) back (b ∷ us) h = let s = same_split front back us (same_tail a b (front ++ back) us h) in
    (b ∷ s.0, s.1, ap (λ z. b ∷ z) s.2, same_cons a b front s.0 (same_head a b (front ++ back) us h) s.3, s.4)

-- the end of a text, at its place
abbrev pub end_at : Span → Located
end_at f = record { item = t.EndOfFile; span = f }

-- what stands next in two texts stands at corresponding places
first_corresponds : (before l rest r : List Located) (f g : Span) → SameTokens before l → SameTokens rest r
    → Corresponding ((before ++ rest) ++ end_at f ∷ []) ((l ++ r) ++ end_at g ∷ []) (first f rest).span (first g r).span
first_corresponds [] [] [] [] f g h u = inl (refl, refl)
first_corresponds [] [] (a ∷ rest) (b ∷ r) f g h u = inl (refl, refl)
first_corresponds [] [] [] (b ∷ r) f g h u = absurd (cc)
first_corresponds [] [] (a ∷ rest) [] f g h u = absurd (cc)
first_corresponds (a ∷ before) (b ∷ l) rest r f g h u = inr (first_corresponds before l rest r f g (same_tail a b before l h) u)
first_corresponds [] (b ∷ l) rest r f g h u = absurd (cc)
first_corresponds (a ∷ before) [] rest r f g h u = absurd (cc)

-- ---- the first faulty token

module _ {S A : Type 0} (Tree : Reading S → List Located → A → Type 0) (again : (reads : Reading S) (ts us : List Located) (x : A) → SameTokens ts us → Tree reads ts x → (y : A) × Tree reads us y) (reads : Reading S) where
  begins_again : (ts us : List Located) → SameTokens ts us → Begins reads (Tree reads) ts → Begins reads (Tree reads) us
  begins_again ts us h b = let r = again reads (ts ++ b.more) (us ++ b.more) b.tree (same_append ts us b.more b.more h refl) b.spells in record { more = b.more; tree = r.0; spells = r.1 }

  -- the next token in place of one like it
  begins_with : (ts us : List Located) (a b : Located) → SameTokens ts us → a.item ≡ b.item → Begins reads (Tree reads) (ts ++ a ∷ []) → Begins reads (Tree reads) (us ++ b ∷ [])
  begins_with ts us a b h is = begins_again (ts ++ a ∷ []) (us ++ b ∷ []) (same_append ts us (a ∷ []) (b ∷ []) h (ap (λ z. z ∷ []) is))

module _ {S A : Type 0} (reads : Reading S) (Tree : Reading S → List Located → A → Type 0) (again : (reads : Reading S) (ts us : List Located) (x : A) → SameTokens ts us → Tree reads ts x → (y : A) × Tree reads us y) where
  takes_again : (ts us : List Located) → SameTokens ts us → TakesScalar Tree ts → TakesScalar Tree us
  takes_again ts us h takes = record { reading = takes.reading; at = takes.at; scalar = takes.scalar; begins = begins_with Tree again takes.reading ts us takes.at takes.at h refl takes.begins }

  -- the same fault at what stands next
  abbrev moved : Span → List Located → Fault → Fault
  moved g r e = record { item = e.item; span = (first g r).span }

  none_again : (before l rest r : List Located) → SameTokens before l → SameTokens rest r → ((a : Located) (more : List Located) → rest ≡ a ∷ more → IsScalarToken a → TakesScalar Tree before → ⊥)
      → (a : Located) (more : List Located) → r ≡ a ∷ more → IsScalarToken a → TakesScalar Tree l → ⊥
  none_again before l [] r h u none a more at s takes = absurd (cc)
  none_again before l (x ∷ rest) r h u none a more at s takes =
      none x rest refl (record { token = s.token; is = same_head x a rest more (u ∙ ap tokens_of at) ∙ s.is }) (takes_again l before (sym h) takes)

  scalar_again : (g : Span) (before l rest r : List Located) (e : Fault) (a : Located) (more : List Located) → SameTokens before l → SameTokens rest r → rest ≡ a ∷ more → BadScalar reads a e
      → TakesScalar Tree before → FaultOf reads Tree g l r (moved g r e)
  scalar_again g before l rest [] e a more h u at bad takes = absurd (cc)
  scalar_again g before l rest (b ∷ r) e a more h u at bad takes = let like = same_head a b more r (sym (ap tokens_of at) ∙ u) in
      refused_scalar b r refl
      (record { token = bad.token; error = bad.error; is = sym like ∙ bad.is; reads_not = bad.reads_not; fault = ap (λ (z : Fault). moved b.span [] z) bad.fault })
      (takes_again before l h takes)

  fault_again : (f g : Span) (before l rest r : List Located) (e : Fault) → SameTokens before l → SameTokens rest r → FaultOf reads Tree f before rest e → FaultOf reads Tree g l r (moved g r e)
  fault_again f g before l rest r e h u (unexpected_token is none) =
      unexpected_token (ap (λ z. record { item = z; span = (first g r).span }) (ap (λ (z : Fault). z.item) is ∙ ap unexpected (same_first f g rest r u))) (none_again before l rest r h u none)
  fault_again f g before l rest r e h u (refused_scalar a more at bad takes) = scalar_again g before l rest r e a more h u at bad takes

  impossible_again : (before l rest r : List Located) → SameTokens before l → SameTokens rest r → ((a : Located) (more : List Located) → rest ≡ a ∷ more → Begins reads (Tree reads) (before ++ a ∷ []) → ⊥)
      → (a : Located) (more : List Located) → r ≡ a ∷ more → Begins reads (Tree reads) (l ++ a ∷ []) → ⊥
  impossible_again before l [] r h u none a more at b = absurd (cc)
  impossible_again before l (x ∷ rest) r h u none a more at b = none x rest refl (begins_with Tree again reads l before a x (sym h) (sym (same_head x a rest more (u ∙ ap tokens_of at))) b)

  too_short_again : (before l rest r : List Located) → SameTokens before l → SameTokens rest r → (rest ≡ [] → (x : A) → Tree reads before x → ⊥) → r ≡ [] → (x : A) → Tree reads l x → ⊥
  too_short_again before l [] r h u short ends x spells = let y = again reads l before x (sym h) spells in short refl y.0 y.1
  too_short_again before l (a ∷ rest) r h u short ends x spells = absurd (cc)

  corresponds : (f g : Span) (ts us before l rest r : List Located) (e : Fault) → ts ≡ before ++ rest → us ≡ l ++ r → SameTokens before l → SameTokens rest r → e.span ≡ (first f rest).span
      → Corresponding (ts ++ end_at f ∷ []) (us ++ end_at g ∷ []) e.span (first g r).span
  corresponds f g ts us before l rest r e is other h u at =
      subst (λ z. Corresponding (z ++ end_at f ∷ []) (us ++ end_at g ∷ []) e.span (first g r).span) (sym is)
      (subst (λ z. Corresponding ((before ++ rest) ++ end_at f ∷ []) (z ++ end_at g ∷ []) e.span (first g r).span) (sym other)
      (subst (λ z. Corresponding ((before ++ rest) ++ end_at f ∷ []) ((l ++ r) ++ end_at g ∷ []) z (first g r).span) (sym at) (first_corresponds before l rest r f g h u)))

  -- where a text is refused, one with the same tokens is refused with the same fault, at the corresponding token
  pub first_fault_again : (ts us : List Located) (f g : Span) (s u : SourcePosition) (e : Fault) → SameTokens ts us → FirstFaultyToken reads Tree (mk ts f s) e
      → (d : Fault) × FirstFaultyToken reads Tree (mk us g u) d × (d.item ≡ e.item) × Corresponding (ts ++ end_at f ∷ []) (us ++ end_at g ∷ []) e.span d.span
  first_fault_again ts us f g s u e h at = let c = same_split at.before at.rest us (sym (ap tokens_of at.front) ∙ h) in (
    moved g c.1 e,
    record {
      before = c.0;
      rest = c.1;
      front = c.2;
      possible = begins_again Tree again reads at.before c.0 c.3 at.possible;
      impossible = impossible_again at.before c.0 at.rest c.1 c.3 c.4 at.impossible;
      too_short = too_short_again at.before c.0 at.rest c.1 c.3 c.4 at.too_short;
      fault = fault_again f g at.before c.0 at.rest c.1 e c.3 c.4 at.fault;
    },
    refl,
    corresponds f g ts us at.before c.0 at.rest c.1 e at.front c.2 c.3 c.4 (fault_span reads Tree f at.before at.rest e at.fault),
  )

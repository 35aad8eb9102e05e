-- Plain sets over other scalars and at other places.
use Rattle.std.proofs.Common.{◌≡◌, refl, sym, ◌∙◌, ap, ap₂, Bool, true, false, not, ◌&&◌, ◌+◌, cond, []}
use Rattle.graphql_text.specs.declared.position.SourcePosition.{SourcePosition}
use Rattle.graphql_written_out.specs.Trees.{Directives, Tree, none, field, inline, is_empty, IsFilled}
use Rattle.graphql_plain_tree.specs.Plain.{drops_all, plain, plain_set, size}
use Rattle.graphql_moved.specs.MovedTrees.{moved_head, moved_marks, moved_tree}

module _ {S T : Type 0} (f : S → T) (at : SourcePosition → SourcePosition) where
  abbrev M : Tree S → Tree T
  M = moved_tree f at

  pub empty-moved : (t : Tree S) → is_empty (M t) ≡ is_empty t
  empty-moved none = refl
  empty-moved (field head directives below rest) = refl
  empty-moved (inline on directives below rest) = refl

  pub size-moved : (t : Tree S) → size (M t) ≡ size t
  size-moved none = refl
  size-moved (field head directives below rest) = ap₂ (λ m n. 1 + m + n) (size-moved below)
      (size-moved rest)
  size-moved (inline on directives below rest) = ap₂ (λ m n. 1 + m + n) (size-moved below)
      (size-moved rest)

  -- where sets stand
  pub filled-moved : (t : Tree S) → IsFilled t → IsFilled (M t)
  filled-moved none h = tt
  filled-moved (field head directives below rest) h =
      (h.0 ∙ sym (ap not (empty-moved below)), filled-moved below h.1, filled-moved rest h.2)
  filled-moved (inline on directives below rest) h =
      (empty-moved below ∙ h.0, filled-moved below h.1, filled-moved rest h.2)

  pub filled-back : (t : Tree S) → IsFilled (M t) → IsFilled t
  filled-back none h = tt
  filled-back (field head directives below rest) h =
      (h.0 ∙ ap not (empty-moved below), filled-back below h.1, filled-back rest h.2)
  filled-back (inline on directives below rest) h =
      (sym (empty-moved below) ∙ h.0, filled-back below h.1, filled-back rest h.2)

  -- where the same directives leave out, and those of the stand-in are the others'
  module _ (drops : Directives S → Bool) (others : Directives T → Bool)
      (same : (ds : Directives S) → others (moved_marks f at ds) ≡ drops ds)
      (stand_in : Directives S) (other_in : Directives T)
      (stands : moved_marks f at stand_in ≡ other_in) where
    all-moved : (t : Tree S) → drops_all others (M t) ≡ drops_all drops t
    all-moved none = refl
    all-moved (field head directives below rest) = ap₂ (λ a b. a && b) (same directives)
        (all-moved rest)
    all-moved (inline on directives below rest) = ap₂ (λ a b. a && b) (same directives)
        (all-moved rest)

    abbrev P : Bool → Tree S → Tree S
    P = plain_set drops stand_in

    abbrev Q : Bool → Tree T → Tree T
    Q = plain_set others other_in

    either : (b : Bool) (x y : Tree T) (u v : Tree S) → x ≡ M u → y ≡ M v → cond b x y
        ≡ M (cond b u v)
    either true x y u v h l = h
    either false x y u v h l = l

    plain-set-moved : (t : Tree S) (out : Bool) → Q out (M t) ≡ M (P out t)
    plain-set-moved none out = refl
    plain-set-moved (field head directives below rest) true =
        λ i. field (moved_head f at head) (sym stands i)
        ((ap (λ b. Q b (M below)) (all-moved below)
        ∙ plain-set-moved below (drops_all drops below)) i) none
    plain-set-moved (field head directives below rest) false =
        let inner = ap (λ b. Q b (M below)) (all-moved below)
        ∙ plain-set-moved below (drops_all drops below) in
        let more = plain-set-moved rest false in
        ap (λ b. cond b (Q false (M rest)) (field (moved_head f at head) []
        (Q (drops_all others (M below)) (M below)) (Q false (M rest)))) (same directives)
        ∙ either (drops directives) _ _ (P false rest)
        (field head [] (P (drops_all drops below) below) (P false rest)) more
        (λ i. field (moved_head f at head) [] (inner i) (more i))
    plain-set-moved (inline on directives below rest) true =
        λ i. inline on (sym stands i)
        ((ap (λ b. Q b (M below)) (all-moved below)
        ∙ plain-set-moved below (drops_all drops below)) i) none
    plain-set-moved (inline on directives below rest) false =
        let inner = ap (λ b. Q b (M below)) (all-moved below)
        ∙ plain-set-moved below (drops_all drops below) in
        let more = plain-set-moved rest false in
        ap (λ b. cond b (Q false (M rest)) (inline on [] (Q (drops_all others (M below)) (M below))
        (Q false (M rest)))) (same directives)
        ∙ either (drops directives) _ _ (P false rest)
        (inline on [] (P (drops_all drops below) below) (P false rest)) more
        (λ i. inline on [] (inner i) (more i))

    pub plain-moved : (t : Tree S) → plain others other_in (M t) ≡ M (plain drops stand_in t)
    plain-moved t = ap (λ b. Q b (M t)) (all-moved t) ∙ plain-set-moved t (drops_all drops t)

-- Where nothing is left to compare, all merges.
use Rattle.std.proofs.Common.{◌≡◌, ap, sym, subst, ◌∙◌, ℕ, Bool, false, ◌||◌, List}
use Rattle.std.specs.List.{Contains}
use Rattle.graphql_schema.specs.declared.meta.MetaType.{MetaType}
use Rattle.graphql_merging.specs.Members.{Member, members_below}
use Rattle.graphql_merging.specs.Merging.{Agree, Merging, Together, in_set, in_sets, apart}
use Rattle.graphql_merging.specs.Pieces.{Pieces, PieceField, StandsIn, directly, in_fragment, IsPieceOf, HasOwnPieces, IsSettled}
use Rattle.graphql_merging.proofs.Standing.{merging-from}

module _ {S C : Type 0} (eq : S → S → Bool) (types : List (MetaType S C)) (t : Pieces S C) (Begun : ℕ → ℕ → Bool → Type 0)
    (owns : HasOwnPieces t eq types) (settled : IsSettled t eq types Begun) where
  -- two fields stand directly in two pieces that were begun
  pub record Compared (x : Bool) (f g : PieceField S C) : Type 0 where
    pub left : ℕ
    pub right : ℕ
    pub begun : Begun left right x
    pub on_left : Contains (t.direct left) f
    pub on_right : Contains (t.direct right) g

  sink-right : (p q : ℕ) (f g : PieceField S C) (x : Bool) → Begun p q x → Contains (t.direct p) f → StandsIn t q g → Compared x f g
  sink-right p _ f _ x b i (directly q g j) = record { left = p; right = q; begun = b; on_left = i; on_right = j }
  sink-right p _ f _ x b i (in_fragment q r g j s) = sink-right p r f g x (settled.right p q r x b j) i s

  sink : (p q : ℕ) (f g : PieceField S C) (x : Bool) → Begun p q x → StandsIn t p f → StandsIn t q g → Compared x f g
  sink _ q _ g x b (directly p f i) s = sink-right p q f g x b i s
  sink _ q _ g x b (in_fragment p r f i h) s = sink r q f g x (settled.left p q r x b i) h s

  -- two members are fields of the document that were compared
  pub record Reached (x : Bool) (a b : Member S C) : Type 0 where
    pub f : PieceField S C
    pub g : PieceField S C
    pub left : f.member ≡ a
    pub right : g.member ≡ b
    pub compared : Compared x f g

  module _ (p : ℕ) (ms : List (Member S C)) (itself : Begun p p false) (piece : IsPieceOf t p ms) where
    reached-keys : (x : Bool) (a b : Member S C) → Together eq types ms x a b → a.head.key ≡ b.head.key
    reached-keys _ _ _ (in_set a b i j e) = e
    reached-keys _ _ _ (in_sets x a b c d s i j e) = e

    key-of : (x : Bool) (a b : Member S C) → Together eq types ms x a b → (r : Reached x a b) → r.f.member.head.key ≡ r.g.member.head.key
    key-of x a b s r = ap (λ (m : Member S C). m.head.key) r.left ∙ reached-keys x a b s ∙ sym (ap (λ (m : Member S C). m.head.key) r.right)

    reached : (x : Bool) (a b : Member S C) → Together eq types ms x a b → Reached x a b
    reached _ _ _ (in_set a b i j e) =
        let f = piece.has a i in
        let g = piece.has b j in
        record { f = f.0; g = g.0; left = f.2; right = g.2; compared = sink p p f.0 g.0 false itself f.1 g.1 }
    reached _ _ _ (in_sets x a b c d s i j e) =
        let r = reached x a b s in
        let k = r.compared in
        let below = (settled.fields k.left k.right r.f r.g x k.begun k.on_left k.on_right (key-of x a b s r)).1 in
        let h = (owns k.left r.f k.on_left).has c (subst (λ m. Contains (members_below types m) c) (sym r.left) i) in
        let l = (owns k.right r.g k.on_right).has d (subst (λ m. Contains (members_below types m) d) (sym r.right) j) in
        let excused : (x || apart r.f.member r.g.member) ≡ (x || apart a b) = (λ k. x || apart (r.left k) (r.right k)) in
        record {
          f = h.0;
          g = l.0;
          left = h.2;
          right = l.2;
          compared = subst (λ y. Compared y h.0 l.0) excused (sink r.f.own r.g.own h.0 l.0 (x || apart r.f.member r.g.member) below h.1 l.1);
        }

    all-agree : (x : Bool) (a b : Member S C) → Together eq types ms x a b → Agree eq types x a b
    all-agree x a b s =
        let r = reached x a b s in
        let k = r.compared in
        let here = (settled.fields k.left k.right r.f r.g x k.begun k.on_left k.on_right (key-of x a b s r)).0 in
        subst (λ m. Agree eq types x m b) r.left (subst (λ m. Agree eq types x r.f.member m) r.right here)

    pub settled-piece : Merging eq types ms
    settled-piece = merging-from eq types ms all-agree

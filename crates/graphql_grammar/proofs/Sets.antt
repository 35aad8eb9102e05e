-- Sets of kinds: what holds of each kind holds of one.
use Rattle.std.proofs.Common.{◌≡◌, Bool, true, false, ◌||◌, ◌&&◌, not, List, [], ◌∷◌, ap, ◌∙◌, refl}
use denote.Enum.Bare.{same_true}
use Rattle.graphql_grammar.specs.declared.kind.Kind.{Kind}
use Rattle.graphql_grammar.specs.declared.kind.Kind.TheVariants as k
use Rattle.graphql_grammar.specs.contracts.kind.Kind.{the_type}
use Rattle.graphql_grammar.specs.Kinds.{Kinds, same_kind, all_kinds, all_of, every, apart, are_among}

pub and_left : (a b : Bool) → (a && b) ≡ true → a ≡ true
and_left true b h = refl
and_left false b h = h

pub and_right : (a b : Bool) → (a && b) ≡ true → b ≡ true
and_right true b h = h
and_right false b h = absurd (cc)

pub or_left : (a b : Bool) → (a || b) ≡ false → a ≡ false
or_left true b h = h
or_left false b h = refl

pub or_right : (a b : Bool) → (a || b) ≡ false → b ≡ false
or_right true b h = absurd (cc)
or_right false b h = h

pub in_left : (a b : Bool) → a ≡ true → (a || b) ≡ true
in_left true b h = refl
in_left false b h = absurd (cc)

pub in_right : (a b : Bool) → b ≡ true → (a || b) ≡ true
in_right true b h = refl
in_right false b h = h

pub is_kind : (v w : Kind) → same_kind v w ≡ true → v ≡ w
is_kind v w h = same_true the_type tt v w h

is_in : Kind → List Kind → Bool
is_in v [] = false
is_in v (w ∷ ws) = same_kind v w || is_in v ws

of_each_by : (s : Kinds) (v w : Kind) (ws : List Kind) (b : Bool) → ((is_in v ws ≡ true) → s v ≡ true) → s w ≡ true → same_kind v w ≡ b → (b || is_in v ws) ≡ true → s v ≡ true
of_each_by s v w ws true others holds same h = ap s (is_kind v w same) ∙ holds
of_each_by s v w ws false others holds same h = others h

of_each : (s : Kinds) (v : Kind) (ws : List Kind) → all_of s ws ≡ true → is_in v ws ≡ true → s v ≡ true
unfolding is_in
of_each s v [] h m = absurd (cc)
of_each s v (w ∷ ws) h m = of_each_by s v w ws (same_kind v w) (of_each s v ws (and_right (s w) (all_of s ws) h)) (and_left (s w) (all_of s ws) h) refl m

listed : (v : Kind) → is_in v all_kinds ≡ true
unfolding is_in
listed k.Name = refl
listed k.On = refl
listed k.Query = refl
listed k.Mutation = refl
listed k.Subscription = refl
listed k.Fragment = refl
listed k.True = refl
listed k.False = refl
listed k.Null = refl
listed k.Scalar = refl
listed k.ExclamationMark = refl
listed k.Dollar = refl
listed k.ParenOpen = refl
listed k.ParenClose = refl
listed k.BracketOpen = refl
listed k.BracketClose = refl
listed k.CurlyOpen = refl
listed k.CurlyClose = refl
listed k.Ellipsis = refl
listed k.Colon = refl
listed k.Equals = refl
listed k.At = refl
listed k.Pipe = refl
listed k.EndOfFile = refl

-- what holds of every kind holds of each
pub of_every : (s : Kinds) → every s ≡ true → (v : Kind) → s v ≡ true
of_every s h v = of_each s v all_kinds h (listed v)

not_both : (a b : Bool) → not (a && b) ≡ true → a ≡ true → b ≡ false
not_both true true h is = absurd (cc)
not_both true false h is = refl
not_both false b h is = absurd (cc)

or_else : (a b : Bool) → (not a || b) ≡ true → a ≡ true → b ≡ true
or_else true b h is = h
or_else false b h is = absurd (cc)

-- a kind of one set is not of a set apart from it
pub apart_is : (s u : Kinds) → apart s u ≡ true → (v : Kind) → s v ≡ true → u v ≡ false
apart_is s u h v is = not_both (s v) (u v) (of_every (λ w. not (s w && u w)) h v) is

pub within_is : (s u : Kinds) → are_among s u ≡ true → (v : Kind) → s v ≡ true → u v ≡ true
within_is s u h v is = or_else (s v) (u v) (of_every (λ w. not (s w) || u w) h v) is

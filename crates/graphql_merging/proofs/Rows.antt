-- Selection sets over a schema with interfaces, objects and a union: what stands together, agrees and merges.
use Rattle.std.proofs.Common.{◌≡◌, refl, sym, subst, lit<, ℕ, ◌+◌, zero, suc, Bool, true, false, not, List, [], ◌∷◌, Some, inl, inr}
use Rattle.std.specs.Prelude.{codes, nat_eq}
use Rattle.std.specs.Cmp.{nat_eq_equiv}
use Rattle.std.specs.List.{Any, Contains}
use Rattle.std.specs.Str.{bytes_eq}
use Rattle.std.proofs.lemmas.Bool.{false≢true}
use Rattle.std.proofs.lemmas.Slice.Eq.{bytes_eq-Decides}
use Rattle.graphql_names.specs.Names.{Bytes}
use Rattle.graphql_text.specs.declared.position.SourcePosition.{SourcePosition}
use Rattle.graphql_values.specs.declared.input_value.InputValue.TheVariants as value
use Rattle.graphql_values.specs.InputValues.{unplaced_pair}
use Rattle.graphql_values.specs.Laws.{SameAsItself}
use Rattle.graphql_values.proofs.SameValueLaws.{same_as_itself}
use Rattle.graphql_tree.specs.Arguments.{Argument}
use Rattle.graphql_schema.specs.declared.meta.MetaType.{MetaType}
use Rattle.graphql_rule_errors.specs.Places.{Places}
use Rattle.graphql_schema.proofs.Rows.{beings, being, dog, either, human}
use Rattle.graphql_written_out.specs.Trees.{Head, Tree, none, field, inline}
use Rattle.graphql_merging.specs.Members.{Member, members_below}
use Rattle.graphql_merging.specs.Merging.{SameArguments, SameField, Agree, Merges, Merge, Merging, Together, in_set, in_sets, apart}
use Rattle.graphql_merging.specs.Sets.{Set, members_of, directs_of}
use Rattle.graphql_merging.specs.Told.{Names, Tells, nothing, conflict, AgreeIfOneKey, later_pairs}
use Rattle.graphql_merging.specs.Contract.{IsConflict}
use Rattle.graphql_merging.proofs.Nested.{in-nothing, one-only}
use Rattle.graphql_merging.proofs.Standing.{arguments-self, merging-is-agreement, disagreement-is-conflict, agreement-is-mutual, merging-is-mutual, agrees-with-itself}
use Rattle.graphql_merging.proofs.DirectFields.{In, to-In, direct-conflicts-are-named, direct-conflicts-are-conflicts}

abbrev pub at : ℕ → SourcePosition
at n = record { index = n; line = 0; column = n }

-- a field that is written at a place
abbrev pub head : ℕ → Bytes → Bytes → List (Argument ℕ) → Bool → Head ℕ
head n key name arguments has_set = record {
  key = key;
  name = name;
  is_aliased = not (bytes_eq key name);
  arguments = arguments;
  has_set = has_set;
  place = at n;
}

abbrev pub member_of : MetaType ℕ ℕ → Head ℕ → Tree ℕ → Member ℕ ℕ
member_of parent head below = record { parent = parent; head = head; below = below }

-- `(form: 1)`
abbrev pub form : List (Argument ℕ)
form = unplaced_pair (codes "form", value.Scalar 1) ∷ []

-- `x: name(form: 1)`, `x: nick` and `friend { x: name(form: 1) }`
abbrev pub name_at : ℕ → Head ℕ
name_at n = head n (codes "x") (codes "name") form false

abbrev pub nick_at : ℕ → Head ℕ
nick_at n = head n (codes "x") (codes "nick") [] false

abbrev pub friend_at : ℕ → Head ℕ
friend_at n = head n (codes "friend") (codes "friend") [] true

abbrev pub name_set : ℕ → Tree ℕ
name_set n = field (name_at n) [] none none

abbrev pub friend_set : ℕ → Tree ℕ
friend_set n = field (friend_at n) [] (name_set (n + 1)) none

-- `{ ... on Human { friend { x: name(form: 1) } } ... on Being { friend { x: name(form: 1) } } }` at the union `Either`
abbrev pub friends : Set ℕ ℕ
friends = record {
  scope = Some either;
  tree = inline (Some (codes "Human")) [] (friend_set 10) (inline (Some (codes "Being")) [] (friend_set 20) none);
}

-- the field of a human and that of a being, and those of their sets
abbrev pub human_friend : Member ℕ ℕ
human_friend = member_of human (friend_at 10) (name_set 11)

abbrev pub being_friend : Member ℕ ℕ
being_friend = member_of being (friend_at 20) (name_set 21)

abbrev pub human_name : Member ℕ ℕ
human_name = member_of human (name_at 11) none

abbrev pub being_name : Member ℕ ℕ
being_name = member_of being (name_at 21) none

-- the union's set has both fields, each under the type of its fragment
pub members_of_friends : members_of beings friends ≡ human_friend ∷ being_friend ∷ []
members_of_friends = refl

-- a human's friend is a human, a being's a being
pub below_human_friend : members_below beings human_friend ≡ human_name ∷ []
below_human_friend = refl

pub below_being_friend : members_below beings being_friend ≡ being_name ∷ []
below_being_friend = refl

-- ---- the set merges

abbrev pub Agreeing : Member ℕ ℕ → Member ℕ ℕ → Type 0
Agreeing = Agree nat_eq beings false

abbrev pub Mergeable : Member ℕ ℕ → Member ℕ ℕ → Type 0
Mergeable = Merge nat_eq beings false

pub itself : SameAsItself nat_eq
itself = same_as_itself nat_eq nat_eq_equiv

pub same_form : SameArguments nat_eq form form
same_form = arguments-self nat_eq itself form

-- the two names are one field with one argument, and so are the two friends, of which both have fields
pub names_agree : Agreeing human_name being_name
names_agree = ((λ _. (refl, same_form)), (refl, λ _. refl))

pub friends_agree : Agreeing human_friend being_friend
friends_agree = ((λ _. (refl, arguments-self nat_eq itself [])), (refl, λ leaf. absurd (false≢true leaf)))

-- fields without sets merge where they agree
leaves_merge : (a b : Member ℕ ℕ) → members_below beings a ≡ [] → Agreeing a b → Mergeable a b
leaves_merge a b empty agree zero = tt
leaves_merge a b empty agree (suc n) = (agree, λ c d i. in-nothing c (subst (λ ms. Contains ms c) empty i))

-- what holds of each two of two fields
each_two : (R : Member ℕ ℕ → Member ℕ ℕ → Type 0) (p q : Member ℕ ℕ) → R p p → R p q → R q p → R q q
    → (a b : Member ℕ ℕ) → In a (p ∷ q ∷ []) → In b (p ∷ q ∷ []) → R a b
each_two R p q pp pq qp qq a b (inl e) (inl f) = subst (λ x. R x b) (sym e) (subst (R p) (sym f) pp)
each_two R p q pp pq qp qq a b (inl e) (inr (inl f)) = subst (λ x. R x b) (sym e) (subst (R p) (sym f) pq)
each_two R p q pp pq qp qq a b (inr (inl e)) (inl f) = subst (λ x. R x b) (sym e) (subst (R q) (sym f) qp)
each_two R p q pp pq qp qq a b (inr (inl e)) (inr (inl f)) = subst (λ x. R x b) (sym e) (subst (R q) (sym f) qq)
each_two R p q pp pq qp qq a b (inr (inr i)) j = absurd i
each_two R p q pp pq qp qq a b i (inr (inr j)) = absurd j

-- fields merge where they agree and the one field of each of their sets merges with the other's
below_merge : (a b c d : Member ℕ ℕ) → members_below beings a ≡ c ∷ [] → members_below beings b ≡ d ∷ []
    → apart a b ≡ false → Agreeing a b → Mergeable c d → Mergeable a b
below_merge a b c d e f near agree merge zero = tt
below_merge a b c d e f near agree merge (suc n) = (
  agree,
  λ u v i j k.
      let p : c ≡ u = one-only c u (subst (λ ms. Contains ms u) e i) in
      let q : d ≡ v = one-only d v (subst (λ ms. Contains ms v) f j) in
      let there : Merges nat_eq beings n false u v =
      subst (λ w. Merges nat_eq beings n false w v) p (subst (Merges nat_eq beings n false c) q (merge n)) in
      subst (λ x. Merges nat_eq beings n x u v) (sym near) there,
)

-- a field merges with itself, since it agrees with itself
itself_agrees : (a : Member ℕ ℕ) → Agreeing a a
itself_agrees a = agrees-with-itself ℕ ℕ nat_eq itself beings false a

human_names_merge : Mergeable human_name human_name
human_names_merge = leaves_merge human_name human_name refl (itself_agrees human_name)

being_names_merge : Mergeable being_name being_name
being_names_merge = leaves_merge being_name being_name refl (itself_agrees being_name)

pub names_merge : Mergeable human_name being_name
names_merge = leaves_merge human_name being_name refl names_agree

-- the friend of a human merges with that of a being, and so the other way round
pub human_and_being_merge : Mergeable human_friend being_friend
human_and_being_merge =
    below_merge human_friend being_friend human_name being_name refl refl refl friends_agree names_merge

pub being_and_human_merge : Mergeable being_friend human_friend
being_and_human_merge = merging-is-mutual ℕ ℕ nat_eq beings false human_friend being_friend human_and_being_merge

-- the set merges
pub friends_merge : Merging nat_eq beings (members_of beings friends)
friends_merge a b i j key =
    each_two Mergeable human_friend being_friend
    (below_merge human_friend human_friend human_name human_name refl refl refl
    (itself_agrees human_friend) human_names_merge)
    human_and_being_merge being_and_human_merge
    (below_merge being_friend being_friend being_name being_name refl refl refl
    (itself_agrees being_friend) being_names_merge)
    a b (to-In a (members_of beings friends) i) (to-In b (members_of beings friends) j)

-- the names stand together in the sets of the friends, and so agree
pub names_stand_together : Together nat_eq beings (members_of beings friends) false human_name being_name
names_stand_together =
    in_sets false human_friend being_friend human_name being_name
    (in_set human_friend being_friend (0, lit< tt, refl) (1, lit< tt, refl) refl)
    (0, lit< tt, refl) (0, lit< tt, refl) refl

pub names_of_friends_agree : Agreeing human_name being_name
names_of_friends_agree =
    (merging-is-agreement nat_eq beings (members_of beings friends)).0 friends_merge
    false human_name being_name names_stand_together

-- ---- two objects

-- `{ ... on Human { x: name(form: 1) } ... on Dog { x: nick } }`: no object has both, so they agree, either way round
pub human_and_dog_agree : Agreeing human_name (member_of dog (nick_at 40) none)
human_and_dog_agree = ((λ near. absurd (false≢true (sym near))), (refl, λ _. refl))

pub dog_and_human_agree : Agreeing (member_of dog (nick_at 40) none) human_name
dog_and_human_agree =
    agreement-is-mutual ℕ ℕ nat_eq beings false human_name (member_of dog (nick_at 40) none) human_and_dog_agree

-- ---- a conflict

-- `{ x: name(form: 1) x: nick }` at `Dog`
abbrev pub dog_set : Set ℕ ℕ
dog_set = record { scope = Some dog; tree = field (name_at 30) [] none (field (nick_at 40) [] none none) }

abbrev pub dog_name : Member ℕ ℕ
dog_name = member_of dog (name_at 30) none

abbrev pub dog_nick : Member ℕ ℕ
dog_nick = member_of dog (nick_at 40) none

-- two names, so the two do not agree, and do not merge
pub dog_names_differ : SameField nat_eq beings dog_name dog_nick → ⊥
dog_names_differ same = false≢true ((bytes_eq-Decides (codes "name") (codes "nick")).1 same.0)

pub dog_names_disagree : Agreeing dog_name dog_nick → ⊥
dog_names_disagree agree = dog_names_differ (agree.0 refl)

pub dog_names_conflict : Mergeable dog_name dog_nick → ⊥
dog_names_conflict = disagreement-is-conflict nat_eq beings false dog_name dog_nick dog_names_disagree

-- one error names both, at their places
abbrev pub dog_errors : Places
dog_errors = (at 30 ∷ at 40 ∷ []) ∷ []

pub told_of_dog : Tells (AgreeIfOneKey nat_eq beings false) (later_pairs (directs_of beings dog_set)) dog_errors
told_of_dog =
    conflict dog_name dog_nick (at 30 ∷ at 40 ∷ []) [] [] (λ fits. dog_names_disagree (fits refl)) refl nothing

-- so the pair is named, and what is named is a conflict of the set
pub dog_pair_is_named : Any (λ e. Names e dog_name dog_nick) dog_errors
dog_pair_is_named =
    direct-conflicts-are-named ℕ ℕ nat_eq beings dog_set dog_errors told_of_dog
    dog_name dog_nick (0, lit< tt, refl) refl dog_names_differ

pub dog_error_is_a_conflict :
    (a : Member ℕ ℕ) × (b : Member ℕ ℕ) × IsConflict nat_eq beings (dog_set ∷ []) a b × Names (at 30 ∷ at 40 ∷ []) a b
dog_error_is_a_conflict =
    direct-conflicts-are-conflicts ℕ ℕ nat_eq beings dog_set dog_errors told_of_dog 0 [] (lit< tt)

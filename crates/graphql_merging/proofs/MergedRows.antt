-- What is collected of sets for a human and for a dog, over a schema with interfaces, objects and a union.
use Rattle.std.proofs.Common.{◌≡◌, refl, sym, lit<, ℕ, Bool, false, List, [], ◌∷◌, Some}
use Rattle.std.specs.Prelude.{codes, nat_eq}
use Rattle.std.specs.List.{All}
use Rattle.std.proofs.lemmas.Bool.{false≢true}
use Rattle.std.proofs.lemmas.List.Elements.{All-cons, All-nil}
use Rattle.std.proofs.lemmas.Slice.Eq.{bytes_eq-Decides}
use Rattle.graphql_names.specs.Names.{Bytes}
use Rattle.graphql_schema.specs.Subtypes.{is_named_subtype}
use Rattle.graphql_schema.proofs.Rows.{beings, being, dog, either, human}
use Rattle.graphql_written_out.specs.Trees.{Directives, none, inline}
use Rattle.graphql_written_out.specs.Fields.{fields}
use Rattle.graphql_merging.specs.Merging.{SameField, Merging}
use Rattle.graphql_merging.specs.Sets.{Set}
use Rattle.graphql_merging.proofs.Rows.{friend_set, friends, human_friend, being_friend, human_name, being_name, friends_merge}
use Rattle.graphql_merging.specs.Chosen.{found_of, own_set, ConditionsAreKnown, IsAbove, IsTypeAbove}
use Rattle.graphql_merging.proofs.OneObject.{chosen-are-collected, one-object, one-field, own-sets-merge, one-field-of-object}

-- no directive leaves anything out
abbrev pub none_dropped : Directives ℕ → Bool
none_dropped directives = false

-- the types that are above a human, and those above a dog
abbrev pub above_human : Bytes → Bool
above_human = is_named_subtype beings (codes "Human")

abbrev pub above_dog : Bytes → Bool
above_dog = is_named_subtype beings (codes "Dog")

-- ---- collected fields

-- `Human` and `Being`, the conditions of the set, are types of the schema
pub friends_are_known : ConditionsAreKnown beings friends.tree
friends_are_known = (refl, tt, (refl, tt, tt))

-- for a human both fields are collected, for a dog that of the interface alone
pub friends_of_a_human :
    fields none_dropped above_human friends.tree ≡ found_of human_friend ∷ found_of being_friend ∷ []
friends_of_a_human =
    sym (chosen-are-collected ℕ ℕ beings none_dropped above_human either friends.tree friends_are_known)

pub friends_of_a_dog : fields none_dropped above_dog friends.tree ≡ found_of being_friend ∷ []
friends_of_a_dog =
    sym (chosen-are-collected ℕ ℕ beings none_dropped above_dog either friends.tree friends_are_known)

-- ---- one object

-- the dog, an object too, is not above the human
pub dog_is_not_above_human : IsTypeAbove beings above_human dog → ⊥
dog_is_not_above_human above =
    false≢true ((bytes_eq-Decides (codes "Dog") (codes "Human")).1 (one-object beings (codes "Human") dog above refl))

-- ---- two sets that merge together

-- `{ ... on Human { friend { x: name(form: 1) } } }` at the union, `{ friend { x: name(form: 1) } }` at the interface
abbrev pub union_set : Set ℕ ℕ
union_set = record { scope = Some either; tree = inline (Some (codes "Human")) [] (friend_set 10) none }

abbrev pub interface_set : Set ℕ ℕ
interface_set = record { scope = Some being; tree = friend_set 20 }

abbrev pub both_sets : List (Set ℕ ℕ)
both_sets = union_set ∷ interface_set ∷ []

abbrev Above : Set ℕ ℕ → Type 0
Above = IsAbove beings above_human

two_above : (s t : Set ℕ ℕ) → Above s → Above t → All Above (s ∷ t ∷ [])
two_above s t h k = All-cons Above s (t ∷ []) h (All-cons Above t [] k (All-nil Above))

-- the union and the interface are above the human
pub both_are_above : All Above both_sets
both_are_above = two_above union_set interface_set (refl, refl) (refl, refl)

-- so the two friends of a human are one field
pub friends_are_one_field : SameField nat_eq beings human_friend being_friend
friends_are_one_field =
    one-field ℕ ℕ nat_eq beings none_dropped above_human (codes "Human") both_sets
    (one-object beings (codes "Human")) both_are_above friends_merge
    human_friend being_friend (0, lit< tt, refl) (1, lit< tt, refl) refl

-- and their own sets merge together
pub own_sets_of_friends_merge : Merging nat_eq beings (human_name ∷ being_name ∷ [])
own_sets_of_friends_merge =
    own-sets-merge ℕ ℕ nat_eq beings none_dropped above_human (codes "Human") (codes "friend") both_sets
    (one-object beings (codes "Human")) both_are_above friends_merge

-- whose types are above a human too, so the names in them are one field with one argument
abbrev pub own_sets : List (Set ℕ ℕ)
own_sets = own_set beings human_friend ∷ own_set beings being_friend ∷ []

pub own_sets_are_above : All Above own_sets
own_sets_are_above = two_above (own_set beings human_friend) (own_set beings being_friend) (refl, refl) (refl, refl)

pub names_are_one_field : SameField nat_eq beings human_name being_name
names_are_one_field =
    one-field ℕ ℕ nat_eq beings none_dropped above_human (codes "Human") own_sets
    (one-object beings (codes "Human")) own_sets_are_above own_sets_of_friends_merge
    human_name being_name (0, lit< tt, refl) (1, lit< tt, refl) refl

-- ---- one set

-- at the object itself the set of both fragments gives one field
pub friends_at_human : SameField nat_eq beings human_friend being_friend
friends_at_human =
    one-field-of-object ℕ ℕ nat_eq beings none_dropped human friends.tree refl friends_merge
    human_friend being_friend (0, lit< tt, refl) (1, lit< tt, refl) refl

-- Registries that the object of the rows comes into.
use Rattle.std.proofs.Common.{◌≡◌, List, [], ◌∷◌, Option, Some, None, Result, Ok, Err, codes, ap, sym, refl, ◌∙◌}
use Rattle.std.proofs.lemmas.Option.{none-some}
use Rattle.std.specs.Prelude.{IfOk, OnErr, OnOk}
use Rattle.std.specs.BTreeMap.{BTreeMap, IsUnchanged, insert_entry, is_at, values}
use Rattle.std.specs.Map.{lookup, values_of}
use Rattle.std.specs.Cmp.Lexicographic.{slice_cmp}
use Rattle.std.specs.Ordering.{nat_cmp}
use Rattle.std.specs.Str.{chars}
use Rattle.std.specs.declared.alloc.AllocError.{AllocError}
use Rattle.std.specs.declared.cmp.Ordering.{Ordering}
use Rattle.graphql_text.specs.Memory.{Gives}
use Rattle.graphql_text.specs.Grammar.{IsName}
use Rattle.graphql_names.specs.Names.{Bytes}
use Rattle.graphql_schema.specs.Types.{own_name}
use Rattle.graphql_schema.specs.declared.meta.MetaType.{MetaType}
use Rattle.graphql_schema.specs.declared.meta.MetaType.TheVariants as meta
use Rattle.graphql_registry.specs.Registries.{Registers}
use Rattle.graphql_tests.specs.RegistryRows.{object_a}

abbrev by_bytes : Bytes → Bytes → Ordering
by_bytes = slice_cmp nat_cmp

is_name : IsName (chars (codes "A"))
unfolding chars
is_name = (refl, tt)

module _ (S C : Type 0) where
  abbrev a : MetaType S C
  a = meta.Object object_a

  abbrev Types : Type 0
  Types = BTreeMap Bytes (MetaType S C)

  abbrev Comes : Types → Types → Option (MetaType S C) → Type 0
  Comes old new back = Registers own_name by_bytes old a new back

  -- it is the only type there
  abbrev pub HoldsA : Types → Type 0
  HoldsA types = types.entries ≡ (codes "A", a) ∷ []

  comes_first : (old new : Types) → old.entries ≡ [] → (back : Option (MetaType S C)) → Comes old new back → (back ≡ None) × HoldsA new
  comes_first old new none None told = (refl, told.1 ∙ ap (λ es. insert_entry by_bytes es (codes "A") a) none)
  comes_first old new none (Some back) told = absurd (told.2 (is_name, ap (lookup (is_at (by_bytes (codes "A")))) none))

  comes_again : (old new : Types) → HoldsA old → (back : Option (MetaType S C)) → Comes old new back → (back ≡ Some a) × HoldsA new
  comes_again old new holds None told = absurd (none-some a (sym told.0.1 ∙ ap (lookup (is_at (by_bytes (codes "A")))) holds))
  comes_again old new holds (Some back) told = (ap Some told.0, told.1 ∙ holds)

  module _ (old new : Types) where
    -- into no types it is taken
    pub is_taken : old.entries ≡ [] → (result : Result (Option (MetaType S C)) AllocError) → IfOk result (Comes old new) → Gives result None
    is_taken none (Ok back) told = (comes_first old new none back told).0
    is_taken none (Err e) told = tt

    pub then_holds : old.entries ≡ [] → (result : Result (Option (MetaType S C)) AllocError) → IfOk result (Comes old new) → OnOk result (HoldsA new)
    then_holds none (Ok back) told = (comes_first old new none back told).1
    then_holds none (Err e) told = tt

  abbrev Outcome : Type 0
  Outcome = Result (Option (MetaType S C)) AllocError

  -- then it is handed back
  pub is_back : (old new : Types) (first : Outcome) → OnOk first (HoldsA old) → (result : Outcome) → IfOk result (Comes old new) → OnOk first (Gives result (Some a))
  is_back old new (Ok x) holds (Ok back) told = (comes_again old new holds back told).0
  is_back old new (Ok x) holds (Err e) told = tt
  is_back old new (Err e) holds result told = tt

  pub still_holds :
      (old new : Types) (first : Outcome) → OnOk first (HoldsA old) → (result : Outcome) → IfOk result (Comes old new) → OnErr result (IsUnchanged old new) → OnOk first (HoldsA new)
  still_holds old new (Ok x) holds (Ok back) told stays = (comes_again old new holds back told).1
  still_holds old new (Ok x) holds (Err e) told stays = stays ∙ holds
  still_holds old new (Err e) holds result told stays = tt

  -- and is the only one
  pub is_one : (types : Types) (first : Outcome) → OnOk first (HoldsA types) → (result : Result (List (MetaType S C)) AllocError) → Gives result (values types) → OnOk first (Gives result (a ∷ []))
  is_one types (Ok x) holds (Ok metadata) told = told ∙ ap values_of holds
  is_one types (Ok x) holds (Err e) told = tt
  is_one types (Err e) holds result told = tt

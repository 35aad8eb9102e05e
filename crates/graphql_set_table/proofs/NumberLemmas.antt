-- Where fragments are defined.
use Rattle.std.proofs.Common.{◌≡◌, refl, ap, sym, ◌∙◌, ℕ, suc, ◌+◌, ◌<◌, arith, Bool, true, false, cond, List, [], ◌∷◌, ◌++◌, map, Option, Some, None, Bor, length, get_or, take, slice_get}
use Rattle.std.specs.HashMap.{HashMap, UpdatesBy, get_by}
use Rattle.std.specs.List.{AllZip}
use Rattle.std.specs.Option.{option_map, option_or, option_to_list, is_some}
use Rattle.std.specs.Str.{bytes_eq}
use Rattle.std.proofs.lemmas.List.{length-map, length-take-le, take_more}
use Rattle.std.proofs.lemmas.Map.Text.{hash_map_updates_str}
use Rattle.std.proofs.lemmas.Option.{slice_get_within}
use Rattle.std.proofs.lemmas.Slice.Eq.{bytes_eq-Decides}
use Rattle.graphql_names.specs.Names.{Bytes}
use Rattle.graphql_values.specs.InputValues.{Placed}
use Rattle.graphql_tree.specs.declared.document.Definition.{Definition}
use Rattle.graphql_tree.specs.declared.document.Definition.TheVariants as definition
use Rattle.graphql_tree.specs.declared.document.Fragment.{Fragment}
use Rattle.graphql_schema.specs.Declarations.{Declarations}
use Rattle.graphql_written_out.specs.Written.{fragment_meant}
use Rattle.graphql_tree.specs.Definitions.{fragments_listed}
use Rattle.graphql_written_out.specs.FragmentNumbers.{fragment_number}
use Rattle.graphql_set_table.specs.Numbered.{IsNumberOf, DefinitionsFirst}
use Rattle.graphql_set_table.specs.SetsAt.{SetAt, definition_set, fragment_set}
use Rattle.graphql_set_table.proofs.Rows.{zip-weaker, slice_get-take}

module _ {S C : Type 0} (schema : Declarations S C) where
  abbrev At : List (Definition S) → ℕ → SetAt S C → Type 0
  At document n set = slice_get (map (definition_set schema) document) n ≡ Some set

  later : (d : Definition S) (ds : List (Definition S)) (o : Option ℕ) (sets : List (SetAt S C)) → AllZip (At ds) (option_to_list o) sets → AllZip (At (d ∷ ds)) (option_to_list (option_map suc o)) sets
  later d ds None [] h = h
  later d ds None (s ∷ sets) h = h
  later d ds (Some n) [] h = h
  later d ds (Some n) (s ∷ sets) h = (h.0, rest sets h.1)
    where
      rest : (sets : List (SetAt S C)) → AllZip (At ds) [] sets → AllZip (At (d ∷ ds)) [] sets
      rest [] h = tt
      rest (s ∷ sets) h = absurd h

  meant-there : (document : List (Definition S)) (name : Bytes)
      → AllZip (At document) (option_to_list (fragment_number document name)) (option_to_list (option_map (fragment_set schema) (fragment_meant (fragments_listed document) name)))
  meant-there [] name = tt
  meant-there (definition.Operation o ∷ ds) name = later (definition.Operation o) ds (fragment_number ds name) _ (meant-there ds name)
  meant-there (definition.Fragment f ∷ ds) name = either (bytes_eq f.item.name.item name) (later (definition.Fragment f) ds (fragment_number ds name) _ (meant-there ds name))
    where
      either : (b : Bool) → AllZip (At (definition.Fragment f ∷ ds)) (option_to_list (option_map suc (fragment_number ds name))) (option_to_list (option_map (fragment_set schema) (fragment_meant (fragments_listed ds) name)))
          → AllZip (At (definition.Fragment f ∷ ds)) (option_to_list (cond b (Some 0) (option_map suc (fragment_number ds name))))
          (option_to_list (option_map (fragment_set schema) (cond b (Some f.item) (fragment_meant (fragments_listed ds) name))))
      either true h = (refl, tt)
      either false h = h

  -- the number of the fragment that a spread means has its set
  pub meant-number : (document : List (Definition S)) (all : List (SetAt S C)) → DefinitionsFirst schema document all → (name : Bytes)
      → AllZip (IsNumberOf all) (option_to_list (fragment_number document name)) (option_to_list (option_map (fragment_set schema) (fragment_meant (fragments_listed document) name)))
  meant-number document all first name = zip-weaker (At document) (IsNumberOf all) there _ _ (meant-there document name)
    where
      there : (n : ℕ) (set : SetAt S C) → At document n set → IsNumberOf all n set
      there n set e =
          let lengths : length (map (definition_set schema) document) ≡ length document = length-map document (definition_set schema) in
          let within : n < length document = omega (arith, slice_get_within (map (definition_set schema) document) n set e, lengths) in
          sym (slice_get-take (length document) all n within) ∙ ap (λ xs. slice_get xs n) first ∙ e

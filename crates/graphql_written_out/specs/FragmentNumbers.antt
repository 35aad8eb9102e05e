-- Where the fragments of a document are defined (GraphQL October 2021, 2.8 Fragments, 5.5.2.1
-- Fragment Spread Target Defined).
use Rattle.std.specs.Prelude.{ℕ, suc, Bool, false, List, [], ◌∷◌, Option, Some, None, if◌then◌else◌}
use Rattle.std.specs.Option.{option_map}
use Rattle.std.specs.Str.{bytes_eq}
use Rattle.graphql_names.specs.Names.{Bytes}
use Rattle.graphql_tree.specs.declared.document.Definition.{Definition}
use Rattle.graphql_tree.specs.declared.document.Definition.TheVariants as definition

module _ {S : Type 0} where
  -- it defines a fragment of this name
  abbrev pub defines_fragment : Bytes → Definition S → Bool
  defines_fragment name (definition.Operation o) = false
  defines_fragment name (definition.Fragment f) = bytes_eq f.item.name.item name

  -- the number of the first definition of a fragment of this name, counted from zero
  abbrev pub fragment_number : List (Definition S) → Bytes → Option ℕ
  fragment_number [] name = None
  fragment_number (d ∷ definitions) name =
      if defines_fragment name d then Some 0 else option_map suc (fragment_number definitions name)

-- What an operation reaches.
use Rattle.std.proofs.Common.{◌≡◌, refl, sym, ◌∙◌, ap, subst, arith, List, map, Some, inl, inr}
use Rattle.std.specs.List.{Contains, flat_map}
use Rattle.std.proofs.lemmas.Slice.Eq.{bytes_eq-Decides}
use Rattle.graphql_names.proofs.NameMaps.{found_is_in}
use Rattle.graphql_values.specs.InputValues.{Placed}
use Rattle.graphql_tree.specs.Definitions.{fragment_in, fragments_listed, fragments_of}
use Rattle.graphql_tree.specs.declared.document.Definition.{Definition}
use Rattle.graphql_tree.specs.declared.document.Definition.TheVariants as definition
use Rattle.graphql_tree.specs.declared.document.Fragment.{Fragment}
use Rattle.graphql_tree.specs.declared.document.Operation.{Operation}
use Rattle.graphql_schema.specs.Declarations.{Declarations}
use Rattle.graphql_occurrences.specs.Occurrences.{definition_parts, fragment_parts, occurrences, operation_parts}
use Rattle.graphql_occurrences.specs.Parts.{Part, SpreadPart, ASpread}
use Rattle.graphql_rules_document.specs.Reached.{IsReached, at_once, through}
use Rattle.graphql_rules_document.specs.Scopes.{Spread, fragment_scope, fragment_scopes, operation_scope, spread_at}
use Rattle.graphql_written_out.specs.Written.{fragment_meant}
use Rattle.graphql_rules_document.proofs.ListItems.{contains-map, image-of, nothing-in, only-one}
use Rattle.graphql_plain_validity.specs.StemmingParts.{Reaches}
use Rattle.graphql_plain_validity.proofs.EachItem.{flat-from, flat-in}

module _ {S : Type 0} where
  in-definition : (x : Definition S) (p : Placed (Fragment S)) → Contains (fragment_in x) p
      → x ≡ definition.Fragment p
  in-definition (definition.Operation o) p i = nothing-in p i
  in-definition (definition.Fragment f) p i = ap definition.Fragment (only-one f p i)

  -- the fragments of a document are definitions of it
  pub fragment-defined : (document : List (Definition S)) (p : Placed (Fragment S))
      → Contains (fragments_of document) p → Contains document (definition.Fragment p)
  fragment-defined document p i =
      let d = flat-from fragment_in document p i in
      subst (Contains document) (in-definition d.0 p d.2) d.1

module _ {S C : Type 0} (schema : Declarations S C) (document : List (Definition S))
    (o : Placed (Operation S)) where
  pub reached-parts-occur : Contains document (definition.Operation o) → (x : Part S C)
      → Reaches schema document o x → Contains (occurrences schema document) x
  unfolding occurrences
  reached-parts-occur among x (inl i) =
      flat-in (definition_parts schema) document (definition.Operation o) x among i
  reached-parts-occur among x (inr r) =
      flat-in (definition_parts schema) document (definition.Fragment r.fragment) x
      (fragment-defined document r.fragment r.among) r.there

  -- a name that a part spreads is spread
  name-spread : (parts : List (Part S C)) (s : SpreadPart S C) → Contains parts (ASpread s)
      → Contains (map (λ (t : Spread). t.name) (flat_map spread_at parts)) s.name.item
  name-spread parts s i =
      let t : Spread = record { name = s.name.item; place = s.place } in
      contains-map (λ (t : Spread). t.name) (flat_map spread_at parts) t
      (flat-in spread_at parts (ASpread s) t i (0, omega arith, refl))

  -- what a reached spread names is reached
  name-reached : (s : SpreadPart S C) → Reaches schema document o (ASpread s)
      → IsReached (fragment_scopes schema document) (operation_scope schema o).spreads s.name.item
  name-reached s (inl i) = at_once s.name.item (name-spread (operation_parts schema o.item) s i)
  name-reached s (inr r) =
      through (fragment_scope schema r.fragment) s.name.item
      (contains-map (fragment_scope schema) (fragments_of document) r.fragment r.among) r.reached
      (name-spread (fragment_parts schema r.fragment.item) s r.there)

  -- the parts of the fragment that it means are reached
  pub fragment-reached : (s : SpreadPart S C) (f : Fragment S)
      → Reaches schema document o (ASpread s)
      → fragment_meant (fragments_listed document) s.name.item ≡ Some f
      → (x : Part S C) → Contains (fragment_parts schema f) x → Reaches schema document o x
  fragment-reached s f reached meant x i =
      let found =
      found_is_in (λ (g : Fragment S). g.name.item)
      (fragments_listed document) s.name.item f meant in
      let p = image-of (λ (g : Placed (Fragment S)). g.item) (fragments_of document) f found.1 in
      let same : s.name.item ≡ p.0.item.name.item =
      sym (ap (λ (g : Fragment S). g.name.item) p.2
      ∙ (bytes_eq-Decides f.name.item s.name.item).0 found.0) in
      inr (record {
        fragment = p.0;
        among = p.1;
        reached =
            subst (IsReached (fragment_scopes schema document) (operation_scope schema o).spreads) same
            (name-reached s reached);
        there = subst (λ (g : Fragment S). Contains (fragment_parts schema g) x) (sym p.2) i;
      })

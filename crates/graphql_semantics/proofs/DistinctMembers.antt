-- Data that fit have distinct keys, however deep.
use Rattle.std.proofs.Common.{◌≡◌, refl, sym, ◌∙◌, ap, subst, List, [], ◌∷◌, map, Option, Some, None}
use Rattle.std.specs.Prelude.{IfSome}
use Rattle.std.specs.List.{All, IsDistinct}
use Rattle.std.specs.Map.{keys_of, values_of}
use Rattle.std.specs.Str.{bytes_eq}
use Rattle.std.proofs.lemmas.List.Elements.{All-nil, All-cons}
use Rattle.graphql_names.specs.Names.{Bytes}
use Rattle.graphql_names.specs.declared.type_modifier.TypeModifier.{TypeModifier}
use Rattle.graphql_output_values.specs.DistinctKeys.{HasDistinctKeysThroughout}
use Rattle.graphql_output_values.specs.declared.value.Value.{Value}
use Rattle.graphql_output_values.proofs.DistinctKeyLaws.{by_forms}
use Rattle.graphql_written_out.specs.Trees.{Tree}
use Rattle.graphql_written_out.specs.Fields.{Found}
use Rattle.graphql_written_out.specs.Groups.{groups}
use Rattle.graphql_semantics.specs.Engines.{Engine}
use Rattle.graphql_semantics.specs.Completion.{Members, object_members}
use Rattle.graphql_semantics.specs.Evaluation.{Group, evaluate, found_in}
use Rattle.graphql_semantics.specs.Fitting.{Holds, leaf, object, list, required, Fits, holds, null, EachFits, no_items, more_items, FieldFits, declared, undeclared, MembersFit, no_members, more_members}
use Rattle.graphql_semantics.specs.Laws.{DataHaveDistinctKeys}
use Rattle.graphql_semantics.proofs.FittingData.{data-fit}
use Rattle.graphql_semantics.proofs.GroupKeys.{distinct-groups}

module _ {S N : Type 0} (e : Engine S N) where
  keys-fit : {of : Bytes} {gs : List (Group S)} {ms : Members S} → MembersFit e of gs ms → keys_of ms ≡ map (λ (g : Group S). g.0) gs
  keys-fit (no_members of) = refl
  keys-fit (more_members of key xs v gs ms h r) = ap (λ ks. key ∷ ks) (keys-fit r)

  mutual
    of-held : {sets : List (Tree S)} {name : Bytes} {wraps : List TypeModifier} {v : Value S} → Holds e sets name wraps v → HasDistinctKeysThroughout v
    of-held (leaf sets name s t) = (by_forms {S = S}).1 s
    of-held (object sets name of members t fit) =
        ((by_forms {S = S}).3 (record { fields = members })).1 (subst (IsDistinct bytes_eq) (sym (keys-fit fit)) (distinct-groups (found_in e of sets)), of-members fit)
    of-held (list sets name size wraps items each) = ((by_forms {S = S}).2 items).1 (of-each each)
    of-held (required sets name wraps v h) = of-held h

    of-fit : {sets : List (Tree S)} {name : Bytes} {wraps : List TypeModifier} {v : Value S} → Fits e sets name wraps v → HasDistinctKeysThroughout v
    of-fit (holds sets name wraps v h) = of-held h
    of-fit (null sets name wraps t) = (by_forms {S = S}).0

    of-each : {sets : List (Tree S)} {name : Bytes} {wraps : List TypeModifier} {vs : List (Value S)} → EachFits e sets name wraps vs → All HasDistinctKeysThroughout vs
    of-each (no_items sets name wraps) = All-nil HasDistinctKeysThroughout
    of-each (more_items sets name wraps v vs h r) = All-cons HasDistinctKeysThroughout v vs (of-fit h) (of-each r)

    of-field : {of : Bytes} {xs : List (Found S)} {v : Value S} → FieldFits e of xs v → HasDistinctKeysThroughout v
    of-field (declared of x xs type v p h) = of-fit h
    of-field (undeclared of x xs p) = (by_forms {S = S}).0

    of-members : {of : Bytes} {gs : List (Group S)} {ms : Members S} → MembersFit e of gs ms → All HasDistinctKeysThroughout (values_of ms)
    of-members (no_members of) = All-nil HasDistinctKeysThroughout
    of-members (more_members of key xs v gs ms h r) = All-cons HasDistinctKeysThroughout v (values_of ms) (of-field h) (of-members r)

  of-object : (of : Bytes) (sets : List (Tree S)) (members : Members S) → MembersFit e of (groups (found_in e of sets)) members → HasDistinctKeysThroughout (object_members members)
  of-object of sets members fit =
      ((by_forms {S = S}).3 (record { fields = members })).1 (subst (IsDistinct bytes_eq) (sym (keys-fit fit)) (distinct-groups (found_in e of sets)), of-members fit)

  if-distinct : (of : Bytes) (sets : List (Tree S)) (members : Option (Members S)) → IfSome members (MembersFit e of (groups (found_in e of sets)))
      → IfSome members (λ ms. HasDistinctKeysThroughout (object_members ms))
  if-distinct of sets None h = tt
  if-distinct of sets (Some ms) h = of-object of sets ms h

pub distinct-keys : (S N : Type 0) → DataHaveDistinctKeys S N
distinct-keys S N e path of node sets = if-distinct e of sets (evaluate e path of node sets).value (data-fit S N e path of node sets)

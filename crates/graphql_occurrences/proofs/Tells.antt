-- What events within a definition tell of its parts: one after the other, and node by node.
use Rattle.std.proofs.Common.{◌≡◌, Bool, true, false, List, [], ◌∷◌, ◌++◌, refl, sym, ap, subst, ◌∙◌, append-nil, append_assoc}
use Rattle.std.specs.List.{All, flat_map}
use Rattle.std.proofs.lemmas.Grind.{flat_map-append}
use Rattle.std.proofs.lemmas.List.Elements.{All-head, All-tail}
use Rattle.graphql_occurrences.specs.Parts.{Part}
use Rattle.graphql_occurrences.specs.Nodes.{Around, Seen, Event, Enter, Leave, Head, Inner}
use Rattle.graphql_occurrences.specs.Events.{seen_event, through}
use Rattle.graphql_occurrences.specs.PartsOf.{parts_of, parts_at}

-- of a part within a definition
abbrev pub is_inner : {S : Type 0} → Event S → Bool
is_inner (Enter (Inner p)) = true
is_inner (Leave (Inner p)) = true
is_inner _ = false

module _ {S C : Type 0} where
  abbrev pub AllInner : List (Seen S C) → Type 0
  AllInner [] = Unit {0}
  AllInner (e ∷ es) = (is_inner e.event ≡ true) × AllInner es

  -- these events are within a definition, and tell these parts
  pub record Tells (es : List (Seen S C)) (ps : List (Part S C)) : Type 0 where
    pub inner : AllInner es
    pub told : flat_map parts_of es ≡ ps

  inner_append : (es fs : List (Seen S C)) → AllInner es → AllInner fs → AllInner (es ++ fs)
  inner_append [] fs h k = k
  inner_append (e ∷ es) fs h k = (h.0, inner_append es fs h.1 k)

  pub tells_nil : Tells [] []
  tells_nil = record { inner = tt; told = refl }

  pub tells_append : (es fs : List (Seen S C)) (ps qs : List (Part S C)) → Tells es ps → Tells fs qs → Tells (es ++ fs) (ps ++ qs)
  tells_append es fs ps qs h k = record { inner = inner_append es fs h.inner k.inner; told = flat_map-append parts_of es fs ∙ (λ i. h.told i ++ k.told i) }

  pub tells_as : (es fs : List (Seen S C)) (ps qs : List (Part S C)) → es ≡ fs → ps ≡ qs → Tells es ps → Tells fs qs
  tells_as es fs ps qs e p h = record { inner = subst AllInner e h.inner; told = ap (flat_map parts_of) (sym e) ∙ h.told ∙ p }

  pub tells_three : (es fs gs : List (Seen S C)) (ps qs rs : List (Part S C)) → Tells es ps → Tells fs qs → Tells gs rs → Tells (es ++ (fs ++ gs)) ((ps ++ qs) ++ rs)
  tells_three es fs gs ps qs rs h k l = tells_as (es ++ (fs ++ gs)) (es ++ (fs ++ gs)) (ps ++ (qs ++ rs)) ((ps ++ qs) ++ rs) refl (sym (append_assoc ps qs rs)) (tells_append es (fs ++ gs) ps (qs ++ rs) h (tells_append fs gs qs rs k l))

  -- a part is entered and left: it is told, and then what is within it
  pub tells_it : (part : Head S) (inner : List (Seen S C)) (around : Around S C) (ps : List (Part S C)) → Tells inner ps → Tells (through (Inner part) inner around) (parts_at around part ++ ps)
  tells_it part inner around ps h = record {
    inner = (refl, inner_append inner (seen_event around (Leave (Inner part)) ∷ []) h.inner (refl, tt));
    told = ap (λ x. parts_at around part ++ x) (flat_map-append parts_of inner (seen_event around (Leave (Inner part)) ∷ []) ∙ append-nil (flat_map parts_of inner) ∙ h.told);
  }

  pub tells_all : {A : Type 0} (f : A → List (Seen S C)) (g : A → List (Part S C)) (xs : List A) → All (λ x. Tells (f x) (g x)) xs → Tells (flat_map f xs) (flat_map g xs)
  tells_all f g [] h = tells_nil
  tells_all f g (x ∷ xs) h = tells_append (f x) (flat_map f xs) (g x) (flat_map g xs) (All-head (λ x. Tells (f x) (g x)) x xs h) (tells_all f g xs (All-tail (λ x. Tells (f x) (g x)) x xs h))

  pub tells_each : {A : Type 0} (f : A → List (Seen S C)) (g : A → List (Part S C)) → ((x : A) → Tells (f x) (g x)) → (xs : List A) → Tells (flat_map f xs) (flat_map g xs)
  tells_each f g h [] = tells_nil
  tells_each f g h (x ∷ xs) = tells_append (f x) (flat_map f xs) (g x) (flat_map g xs) (h x) (tells_each f g h xs)

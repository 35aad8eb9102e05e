-- Steps of a walk over a document.
use Rattle.graphql_scalars.specs.ScalarAnswers.{ScalarAnswer}
use Rattle.std.proofs.Common.{◌≡◌, ◌⊎◌, ⊎_elim, sym, ◌∙◌, ap, subst, ℕ, ◌+◌, ◌<◌, ◌≤◌, arith, List, [], ◌∷◌, ◌++◌, map, length, take, get_or, Option, Some, None}
use Rattle.std.specs.List.{flat_map}
use Rattle.std.proofs.lemmas.List.{take_more, map-append}
use Rattle.graphql_values.specs.InputValues.{Placed}
use Rattle.graphql_tree.specs.declared.selection.Field.{Field}
use Rattle.graphql_tree.specs.declared.selection.Selection.{Selection}
use Rattle.graphql_collected.specs.declared.request.Request.{Request}
use Rattle.graphql_collected.specs.declared.collected_field.CollectedField.{CollectedField}
use Rattle.graphql_written_out.specs.Trees.{Directives, Tree, height}
use Rattle.graphql_names.specs.Names.{Bytes}
use Rattle.graphql_written_out.specs.Written.{written_selection, written, write, spread_as, listed, fragment_meant}
use Rattle.graphql_written_out.proofs.Layers.{deep, deep-Field, deep-Spread, deep-Inline, written-cons, written-nil, fields-written, height-one}
use Rattle.graphql_tree.specs.declared.document.Fragment.{Fragment}
use Rattle.graphql_tree.proofs.SelectionInduction.{selection_ind}
use Rattle.graphql_written_out.specs.Fields.{Found}
use Rattle.graphql_collected.specs.Requests.{drops_in, is_below_in, fragments_in, fields_in, found_at, written_in}
use Rattle.graphql_collect.specs.Grouped.{Lent, all_found}
use Rattle.graphql_collect.specs.Walks.{Walk, with_found}
use Rattle.graphql_collect.specs.declared.open_set.OpenSet.{OpenSet}
use Rattle.graphql_collect.specs.OpenSets.{Open, rest_of}
use Rattle.graphql_collect.specs.Walked.{Ready, Walked, WalksAll}
use Rattle.graphql_collect.specs.Collecting.{means_in, state, trees_in, ReadyIn, CompleteIn, WalkedIn, LeadsIn, Steps, Entered, Stands, Enters, below_in}
use Rattle.graphql_semantics.proofs.RepeatLemmas.{flat-last}
use Rattle.graphql_collect.proofs.WalkLaws.{walked-none, walked-then, walked-field, walked-visited, complete-ready, complete-after}
use Rattle.graphql_collect.proofs.LeadLaws.{leads-first, leads-walked, leads-end, leads-apart, leads-set, leads-fragment}
use Rattle.graphql_collect.proofs.SizeLaws.{rests-push}

-- what follows a selection is no higher than both
height-others : {S : Type 0} (fragments : List (Fragment S)) (x : Selection S) (rest : List (Selection S)) → height (written fragments rest) ≤ height (written fragments (x ∷ rest))
height-others {S} fragments x rest = rw (written-cons fragments x rest) (before x (written fragments rest))
  where
    spread : (directives : Directives S) (below : Tree S) (f : Option (Fragment S)) → height below ≤ height (spread_as (write (length fragments) fragments) directives below f)
    spread directives below None = omega arith
    spread directives below (Some f) = omega arith

    before : (y : Selection S) (below : Tree S) → height below ≤ height (deep fragments y below)
    before = selection_ind (λ y. (below : Tree S) → height below ≤ height (deep fragments y below))
        (λ y h below. rw (deep-Field fragments y below) (omega arith))
        (λ y below. rw (deep-Spread fragments y below) (spread (listed y.item.directives) below (fragment_meant fragments y.item.name.item)))
        (λ y h below. rw (deep-Inline fragments y below) (omega arith))

module _ {S C : Type 0} (answer : S → ScalarAnswer) (request : Request S C) (object : Bytes) where
  abbrev F : Tree S → List (Found S)
  F = fields_in answer request object

  abbrev at : Selection S → List (Found S)
  at x = F (written_selection (fragments_in request) x)

  abbrev W : List (Found S) → Walk S → Walk S → Type 0
  W = Walked (drops_in answer request) (is_below_in request object) (means_in request)

  abbrev R : ℕ → Walk S → Type 0
  R = Ready (drops_in answer request) (is_below_in request object) (means_in request)

  pub ends : (xs : List (Found S)) (v : List Bytes) (f : Lent S) (v1 : List Bytes) (f1 : Lent S) (v2 : List Bytes) (f2 : Lent S) → v2 ≡ v1 → f2 ≡ f1
      → WalkedIn answer request object xs v f v1 f1 → WalkedIn answer request object xs v f v2 f2
  ends xs v f v1 f1 v2 f2 p q w = subst (λ (z : List Bytes). W xs (state request v f) (state request z f2)) (sym p) (subst (λ (z : Lent S). W xs (state request v f) (state request v1 z)) (sym q) w)

  pub begins : (v : List Bytes) (f : Lent S) → WalkedIn answer request object [] v f v f
  begins v f = walked-none (drops_in answer request) (is_below_in request object) (means_in request) (state request v f)

  brought-nothing : (h : ℕ) (t : Tree S) (v : List Bytes) (f : Lent S) → height t ≤ h → ReadyIn answer request object h v f
      → (F t ≡ []) ⊎ Entered answer request object v t → WalkedIn answer request object (F t) v f v f
  brought-nothing h t v f low r = ⊎_elim
      (λ e. subst (λ zs. W zs (state request v f) (state request v f)) (sym e) (begins v f))
      (λ (w : Entered answer request object v t). walked-visited (drops_in answer request) (is_below_in request object) (means_in request) w.name (F t) h (state request v f) r w.is_visited w.applies (let less = w.lower in omega arith) w.same)

  brought-field : (t : Tree S) (x : Placed (Field S)) (v : List Bytes) (f f2 : Lent S) (o : CollectedField S) → F t ≡ found_at request x ∷ [] → f2 ≡ f ++ o ∷ [] → o.field.now ≡ x
      → WalkedIn answer request object (F t) v f v f2
  brought-field t x v f f2 o is grown same =
      let there : all_found (fragments_in request) f2 ≡ all_found (fragments_in request) f ++ found_at request x ∷ [] =
      ap (all_found (fragments_in request)) grown ∙ map-append (λ (y : CollectedField S). found_at request y.field.now) f (o ∷ [])
      ∙ ap (λ y. all_found (fragments_in request) f ++ found_at request y ∷ []) same in
      let kept_one : W (found_at request x ∷ []) (state request v f) (with_found (found_at request x) (state request v f)) =
      walked-field (drops_in answer request) (is_below_in request object) (means_in request) (found_at request x) [] (state request v f) (with_found (found_at request x) (state request v f))
      (walked-none (drops_in answer request) (is_below_in request object) (means_in request) (with_found (found_at request x) (state request v f))) in
      subst (λ zs. W zs (state request v f) (state request v f2)) (sym is)
      (subst (λ (ys : List (Found S)). W (found_at request x ∷ []) (state request v f) (record { visited = v; found = ys })) (sym there) kept_one)

  abbrev Leading : List (Found S) → Walk S → List (Tree S) → Walk S → Type 0
  Leading = WalksAll (drops_in answer request) (is_below_in request object) (means_in request)

  abbrev Goes : List (Tree S) → List Bytes → Lent S → List (Tree S) → List Bytes → Lent S → Type 0
  Goes = Steps answer request object

  pub enters-nothing : (t : Tree S) (ts : List (Tree S)) (v : List Bytes) (f : Lent S) → (F t ≡ []) ⊎ Entered answer request object v t → Goes (t ∷ ts) v f ts v f
  enters-nothing t ts v f e = λ xs start l.
      leads-walked (drops_in answer request) (is_below_in request object) (means_in request) xs start ts (state request v f) t (state request v f)
      (brought-nothing (height t) t v f (omega arith) l.0 e) l

  pub enters-field : (t : Tree S) (ts : List (Tree S)) (x : Placed (Field S)) (v : List Bytes) (f f2 : Lent S) (o : CollectedField S) → F t ≡ found_at request x ∷ []
      → f2 ≡ f ++ o ∷ [] → o.field.now ≡ x → Goes (t ∷ ts) v f ts v f2
  enters-field t ts x v f f2 o is grown same = λ xs start l.
      leads-walked (drops_in answer request) (is_below_in request object) (means_in request) xs start ts (state request v f) t (state request v f2)
      (brought-field t x v f f2 o is grown same) l

  module _ (sets more_sets : Open S) (inner : OpenSet S) (pushed : more_sets ≡ sets ++ inner ∷ []) where
    trees-push : trees_in request more_sets ≡ written_in request (rest_of inner) ∷ trees_in request sets
    trees-push = ap (map (written_in request)) (rests-push sets more_sets inner pushed)

    pub enters-set : (t : Tree S) (v : List Bytes) (f : Lent S) → Stands answer request object t (written_in request (rest_of inner))
        → Goes (t ∷ trees_in request sets) v f (trees_in request more_sets) v f
    enters-set t v f s = λ xs start l.
        subst (λ ts. Leading xs start ts (state request v f)) (sym trees-push)
        (leads-set (drops_in answer request) (is_below_in request object) (means_in request) xs start (trees_in request sets) (state request v f) t (written_in request (rest_of inner)) s.same s.lower l)

    pub enters-fragment : (t : Tree S) (name : Bytes) (v v2 : List Bytes) (f : Lent S) → Enters answer request object v t (written_in request (rest_of inner)) name
        → v2 ≡ v ++ name ∷ [] → Goes (t ∷ trees_in request sets) v f (trees_in request more_sets) v2 f
    enters-fragment t name v v2 f e grown = λ xs start l.
        subst (λ ts. Leading xs start ts (state request v2 f)) (sym trees-push)
        (subst (λ (z : List Bytes). Leading xs start (written_in request (rest_of inner) ∷ trees_in request sets) (state request z f)) (sym grown)
        (leads-fragment (drops_in answer request) (is_below_in request object) (means_in request) xs start (trees_in request sets) (state request v f) name t (written_in request (rest_of inner))
        e.stands.same e.stands.lower e.means l))

    -- the first of what is left of a set, before the others
    pub goes-on : (x : Selection S) (rest : List (Selection S)) (v : List Bytes) (f : Lent S) → rest ≡ x ∷ rest_of inner
        → Goes (written_in request rest ∷ trees_in request sets) v f (written_selection (fragments_in request) x ∷ trees_in request more_sets) v f
    goes-on x rest v f is = λ xs start l.
        subst (λ ts. Leading xs start (written_selection (fragments_in request) x ∷ ts) (state request v f)) (sym trees-push)
        (leads-apart (drops_in answer request) (is_below_in request object) (means_in request) xs start (trees_in request sets) (state request v f)
        (written_in request (x ∷ rest_of inner)) (written_selection (fragments_in request) x) (written_in request (rest_of inner))
        (fields-apart x (rest_of inner)) (height-one (fragments_in request) (x ∷ rest_of inner) 0 x (omega arith)) (height-others (fragments_in request) x (rest_of inner))
        (subst (λ zs. Leading xs start (written_in request zs ∷ trees_in request sets) (state request v f)) is l))
      where
        fields-apart : (y : Selection S) (ys : List (Selection S)) → F (written_in request (y ∷ ys)) ≡ F (written_selection (fragments_in request) y) ++ F (written_in request ys)
        fields-apart y ys =
            fields-written (fragments_in request) (drops_in answer request) (is_below_in request object) (y ∷ ys)
            ∙ ap (λ zs. F (written_selection (fragments_in request) y) ++ zs) (sym (fields-written (fragments_in request) (drops_in answer request) (is_below_in request object) ys))

    -- a set that is gone into is the innermost
    pub goes-back : (xs : List (Found S)) (start : Walk S) (v : List Bytes) (f : Lent S) → LeadsIn answer request object xs start (trees_in request more_sets) v f
        → LeadsIn answer request object xs start (written_in request (rest_of inner) ∷ trees_in request sets) v f
    goes-back xs start v f l = subst (λ ts. Leading xs start ts (state request v f)) trees-push l

  pub ends-set : (rest : List (Selection S)) (ts : List (Tree S)) (v : List Bytes) (f : Lent S) → rest ≡ [] → Goes (written_in request rest ∷ ts) v f ts v f
  ends-set rest ts v f none = λ xs start l.
      leads-end (drops_in answer request) (is_below_in request object) (means_in request) xs start ts (state request v f) (written_in request rest)
      (ap (λ zs. F (written_in request zs)) none ∙ ap F (written-nil (fragments_in request))) l

  pub leads-now : (set : OpenSet S) (none_open sets : Open S) (v : List Bytes) (f : Lent S) → none_open ≡ [] → sets ≡ none_open ++ set ∷ []
      → ReadyIn answer request object (height (written_in request (rest_of set))) v f
      → LeadsIn answer request object (F (written_in request (rest_of set))) (state request v f) (trees_in request sets) v f
  leads-now set none_open sets v f none pushed r =
      subst (λ (zs : Open S). Leading (F (written_in request (rest_of set))) (state request v f) (trees_in request zs) (state request v f))
      (sym (pushed ∙ ap (λ zs. zs ++ set ∷ []) none))
      (leads-first (drops_in answer request) (is_below_in request object) (means_in request) (written_in request (rest_of set)) (state request v f) r)

  pub leads-last : (xs : List (Found S)) (v : List Bytes) (f : Lent S) (sets : Open S) (v2 : List Bytes) (f2 : Lent S) → sets ≡ []
      → LeadsIn answer request object xs (state request v f) (trees_in request sets) v2 f2 → WalkedIn answer request object xs v f v2 f2
  leads-last xs v f sets v2 f2 none l = subst (λ (zs : Open S). Leading xs (state request v f) (trees_in request zs) (state request v2 f2)) none l

  pub ready-first : (h : ℕ) (v : List Bytes) (f : Lent S) → CompleteIn answer request object v f → ReadyIn answer request object h v f
  ready-first h v f c = complete-ready (drops_in answer request) (is_below_in request object) (means_in request) h (state request v f) c

  pub complete-now : (xs : List (Found S)) (v : List Bytes) (f : Lent S) (v1 : List Bytes) (f1 : Lent S) → CompleteIn answer request object v f
      → WalkedIn answer request object xs v f v1 f1 → CompleteIn answer request object v1 f1
  complete-now xs v f v1 f1 c w = complete-after (drops_in answer request) (is_below_in request object) (means_in request) xs (state request v f) (state request v1 f1) w c

  pub complete-first : CompleteIn answer request object [] []
  complete-first name is a = cc

  pub more-below : (xs : Lent S) (i : ℕ) (x : CollectedField S) (v : List Bytes) (f : Lent S) (v1 : List Bytes) (f1 : Lent S) (v2 : List Bytes) (f2 : Lent S)
      → i < length xs → x ≡ get_or xs i x → WalkedIn answer request object (flat_map F (map (below_in request) (take i xs))) v f v1 f1
      → WalkedIn answer request object (F (below_in request x)) v1 f1 v2 f2
      → WalkedIn answer request object (flat_map F (map (below_in request) (take (i + 1) xs))) v f v2 f2
  more-below xs i x v f v1 f1 v2 f2 within is a b =
      let grown : flat_map F (map (below_in request) (take (i + 1) xs)) ≡ flat_map F (map (below_in request) (take i xs)) ++ F (below_in request x) =
      ap (λ zs. flat_map F (map (below_in request) zs)) (take_more xs i x within ∙ ap (λ z. take i xs ++ z ∷ []) (sym is))
      ∙ ap (flat_map F) (map-append (below_in request) (take i xs) (x ∷ [])) ∙ flat-last F (below_in request x) (map (below_in request) (take i xs)) in
      subst (λ zs. W zs (state request v f) (state request v2 f2)) (sym grown)
      (walked-then (drops_in answer request) (is_below_in request object) (means_in request) _ _ (state request v f) (state request v1 f1) (state request v2 f2) a b)

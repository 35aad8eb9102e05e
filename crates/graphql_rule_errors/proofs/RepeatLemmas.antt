-- Names that are mentioned more than once, looked for one mention after another.
use Rattle.std.proofs.Common.{◌≡◌, ◌↔◌, ℕ, ◌+◌, ◌<◌, List, [], ◌∷◌, ◌++◌, Bool, true, false, ◌||◌, cond, Option, Some, None, map, length, get_or, take, refl, sym, ap, subst, ◌∙◌, append-nil, append_assoc, arith}
use Rattle.std.specs.List.{AllByRecursion as Each, IsDistinct}
use Rattle.std.specs.Option.{option_map}
use Rattle.std.specs.Str.{bytes_eq}
use Rattle.std.proofs.lemmas.Bool.{cond-false, or_from}
use Rattle.std.proofs.lemmas.Cmp.{nat_list_eq_equiv}
use Rattle.std.proofs.lemmas.List.{take_more, map-append}
use Rattle.std.proofs.lemmas.Simd.{map-map}
use Rattle.std.proofs.lemmas.Map.Keys.{IsDistinct-head, IsDistinct-push, IsDistinct-tail}
use Rattle.graphql_names.specs.Names.{Bytes, is_one_of, named}
use Rattle.graphql_names.proofs.NameLemmas.{eq_either_way}
use Rattle.graphql_rule_errors.specs.Repeats.{Mention, behind_first, repeats_behind, repeats}
use Rattle.graphql_rule_errors.proofs.NoFaultLemmas.{append_none}

abbrev first_of : List Mention → Bytes → Option Mention
first_of = named (λ m. m.name)

repeats_behind-append : (before xs ys : List Mention) → repeats_behind before (xs ++ ys) ≡ repeats_behind before xs ++ repeats_behind (before ++ xs) ys
repeats_behind-append before [] ys = ap (λ b. repeats_behind b ys) (sym (append-nil before))
repeats_behind-append before (x ∷ xs) ys =
    let here = behind_first (first_of before x.name) x in
    ap (λ ps. here ++ ps) (repeats_behind-append (before ++ x ∷ []) xs ys ∙ ap (λ b. repeats_behind (before ++ x ∷ []) xs ++ repeats_behind b ys) (append_assoc before (x ∷ []) xs))
    ∙ sym (append_assoc here (repeats_behind (before ++ x ∷ []) xs) (repeats_behind (before ++ x ∷ xs) ys))

-- one mention more
repeats_more : (xs : List Mention) (x : Mention) → repeats (xs ++ x ∷ []) ≡ repeats xs ++ behind_first (first_of xs x.name) x
repeats_more xs x = repeats_behind-append [] xs (x ∷ []) ∙ ap (λ ps. repeats xs ++ ps) (append-nil (behind_first (first_of xs x.name) x))

-- of one mention, none is a later one
pub repeats_few : {A : Type 0} (mention_of : A → Mention) (xs : List A) → length xs < 2 → repeats (map mention_of xs) ≡ []
repeats_few mention_of [] few = refl
repeats_few mention_of (x ∷ []) few = refl
repeats_few mention_of (x ∷ y ∷ xs) few = absurd (omega arith)

module _ {A : Type 0} (mention_of : A → Mention) where
  abbrev name_of : A → Bytes
  name_of a = (mention_of a).name

  first_mapped : (xs : List A) (name : Bytes) → option_map mention_of (named name_of xs name) ≡ first_of (map mention_of xs) name
  first_mapped [] name = refl
  first_mapped (x ∷ xs) name = either (bytes_eq (mention_of x).name name) (first_mapped xs name)
    where
      either : (b : Bool) → option_map mention_of (named name_of xs name) ≡ first_of (map mention_of xs) name
          → option_map mention_of (cond b (Some x) (named name_of xs name)) ≡ cond b (Some (mention_of x)) (first_of (map mention_of xs) name)
      either true others = refl
      either false others = others

  -- a loop past i of the items, which finds the first of the next one's name
  pub repeats_next : (xs : List A) (i : ℕ) (x : A) → i < length xs → x ≡ get_or xs i x → (first : Option A) → first ≡ named name_of (take i xs) (name_of x)
      → repeats (map mention_of (take i xs)) ++ behind_first (option_map mention_of first) (mention_of x) ≡ repeats (map mention_of (take (i + 1) xs))
  repeats_next xs i x within is first found =
      let so_far = map mention_of (take i xs) in
      let next : map mention_of (take (i + 1) xs) ≡ so_far ++ mention_of x ∷ [] =
      ap (map mention_of) (take_more xs i x within ∙ ap (λ y. take i xs ++ y ∷ []) (sym is)) ∙ map-append mention_of (take i xs) (x ∷ []) in
      ap (λ f. repeats so_far ++ behind_first f (mention_of x)) (ap (option_map mention_of) found ∙ first_mapped (take i xs) (name_of x))
      ∙ sym (ap repeats next ∙ repeats_more so_far (mention_of x))

-- ---- no later mention

abbrev names_in : List Mention → List Bytes
names_in = map (λ m. m.name)

abbrev Once : List Mention → Type 0
Once ms = IsDistinct bytes_eq (names_in ms)

is_first : (first : Option Mention) (x : Mention) → behind_first first x ≡ [] → first ≡ None
is_first None x h = refl
is_first (Some f) x h = cc

not_before : (ms : List Mention) (name : Bytes) → first_of ms name ≡ None → is_one_of (names_in ms) name ≡ false
not_before [] name h = refl
not_before (m ∷ ms) name h = either (bytes_eq m.name name) refl h (not_before ms name)
  where
    either : (b : Bool) → bytes_eq m.name name ≡ b → cond b (Some m) (first_of ms name) ≡ None → (first_of ms name ≡ None → is_one_of (names_in ms) name ≡ false)
        → (bytes_eq name m.name || is_one_of (names_in ms) name) ≡ false
    either true same e others = cc
    either false differs e others = or_from (bytes_eq name m.name) (is_one_of (names_in ms) name) (eq_either_way name m.name ∙ differs) (others e)

once_behind : (before xs : List Mention) → Once before → repeats_behind before xs ≡ [] → Once (before ++ xs)
once_behind before [] once h = subst Once (sym (append-nil before)) once
once_behind before (x ∷ xs) once h =
    let parts = append_none (behind_first (first_of before x.name) x) (repeats_behind (before ++ x ∷ []) xs) h in
    let fresh = not_before before x.name (is_first (first_of before x.name) x parts.0) in
    let more : Once (before ++ x ∷ []) =
    subst (IsDistinct bytes_eq) (sym (map-append (λ m. m.name) before (x ∷ []))) (IsDistinct-push nat_list_eq_equiv (names_in before) x.name once fresh) in
    subst Once (append_assoc before (x ∷ []) xs) (once_behind (before ++ x ∷ []) xs more parts.1)

differs_from : (name : Bytes) (before : List Mention) (x : Mention) (xs : List Mention) → Each (λ n. bytes_eq name n ≡ false) (names_in (before ++ x ∷ xs)) → bytes_eq name x.name ≡ false
differs_from name [] x xs h = h.0
differs_from name (m ∷ before) x xs h = differs_from name before x xs h.1

none_before : (before : List Mention) (x : Mention) (xs : List Mention) → Once (before ++ x ∷ xs) → first_of before x.name ≡ None
none_before [] x xs once = refl
none_before (m ∷ before) x xs once =
    cond-false (bytes_eq m.name x.name) (Some m) (first_of before x.name)
    (differs_from m.name before x xs (IsDistinct-head bytes_eq m.name (names_in (before ++ x ∷ xs)) once))
    ∙ none_before before x xs (IsDistinct-tail bytes_eq m.name (names_in (before ++ x ∷ xs)) once)

none_behind : (before xs : List Mention) → Once (before ++ xs) → repeats_behind before xs ≡ []
none_behind before [] once = refl
none_behind before (x ∷ xs) once =
    (λ i. behind_first (none_before before x xs once i) x ++ none_behind (before ++ x ∷ []) xs (subst Once (sym (append_assoc before (x ∷ []) xs)) once) i)

none_once : Once []
unfolding IsDistinct
none_once = tt

-- no name is mentioned again exactly where no two names are the same
pub no_repeats : (ms : List Mention) → (repeats ms ≡ []) ↔ IsDistinct bytes_eq (map (λ m. m.name) ms)
no_repeats ms = (once_behind [] ms none_once, none_behind [] ms)

-- the same of what is mentioned
pub no_repeats_of : {A : Type 0} (mention_of : A → Mention) (xs : List A) → (repeats (map mention_of xs) ≡ []) ↔ IsDistinct bytes_eq (map (λ x. (mention_of x).name) xs)
no_repeats_of mention_of xs =
    subst (λ names. (repeats (map mention_of xs) ≡ []) ↔ IsDistinct bytes_eq names) (map-map (λ m. m.name) mention_of xs) (no_repeats (map mention_of xs))

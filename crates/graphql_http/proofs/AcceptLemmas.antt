-- The range that decides for a media type, and what is chosen by two of them.
use Rattle.std.proofs.Common.{◌≡◌, ◌≢◌, ℕ, ◌+◌, ◌<◌, ◌≤◌, ◌⊎◌, Bool, true, false, cond, ◌==◌, ◌&&◌, nat_lt, List, [], ◌∷◌, ◌++◌, fold, All, Some, None, refl, sym, ap, ◌∙◌, subst, inl, inr, ⊎_elim, append_assoc, append-nil, arith}
use Rattle.std.specs.List.{Contains}
use Rattle.std.proofs.lemmas.Bool.{cases_lt, cases_eq, eq-eqb, ne_eqb, lt-ltb, le-ltb}
use Rattle.std.proofs.lemmas.List.Elements.{All-append, All-cons, All-nil, All-weaker, Contains-append_left, Contains-append_right}
use Rattle.http_header.specs.FieldValue.{FieldValue}
use Rattle.graphql_http.specs.Accept.{Preference, accepted, elements, kind_of, nearer, nearness, preference_after, preference_in, preference_of, preferred, unnamed, weight}
use Rattle.graphql_http.specs.AcceptLaws.{ChoosesByRanges, Decides, IsChoice, IsNoRival, IsPreferred}
use Rattle.graphql_http.specs.Pieces.{Bytes}
use Rattle.graphql_http.specs.declared.media.Media.{Media}
use Rattle.graphql_http.specs.declared.media.Media.TheVariants.{Json, Response}

-- the other takes the place of a preference: it names the type, and is nearer, or as near and heavier
abbrev Replaces : Preference → Preference → Type 0
Replaces old new =
    (0 < new.nearness)
    × ((old.nearness < new.nearness) ⊎ ((new.nearness ≡ old.nearness) × (old.weight < new.weight)))

-- or it does not
abbrev Yields : Preference → Preference → Type 0
Yields old new =
    (new.nearness ≡ 0)
    ⊎ ((new.nearness < old.nearness) ⊎ ((new.nearness ≡ old.nearness) × (new.weight ≤ old.weight)))

abbrev Turns : Preference → Preference → Type 0
Turns old new = (Replaces old new × (nearer old new ≡ new)) ⊎ (Yields old new × (nearer old new ≡ old))

turns_as_near : (old new : Preference) → 0 < new.nearness → new.nearness ≡ old.nearness → Turns old new
turns_as_near old new named same =
    let short : nat_lt old.nearness new.nearness ≡ false = le-ltb old.nearness new.nearness (omega (arith, same)) in
    ⊎_elim
    (λ heavier. inl (
      (named, inr (same, heavier)),
      rw (lt-ltb 0 new.nearness named, short, eq-eqb new.nearness old.nearness same, lt-ltb old.weight new.weight heavier) refl,
    ))
    (λ lighter. inr (
      inr (inr (same, lighter)),
      rw (lt-ltb 0 new.nearness named, short, eq-eqb new.nearness old.nearness same, le-ltb old.weight new.weight lighter) refl,
    ))
    (cases_lt old.weight new.weight)

turns_named : (old new : Preference) → 0 < new.nearness → Turns old new
turns_named old new named =
    ⊎_elim
    (λ nearer. inl ((named, inl nearer), rw (lt-ltb 0 new.nearness named, lt-ltb old.nearness new.nearness nearer) refl))
    (λ far. ⊎_elim
    (λ same. turns_as_near old new named same)
    (λ other. inr (
      inr (inl (omega (arith, far, other))),
      rw (lt-ltb 0 new.nearness named, le-ltb old.nearness new.nearness far, ne_eqb new.nearness old.nearness other) refl,
    ))
    (cases_eq new.nearness old.nearness))
    (cases_lt old.nearness new.nearness)

turns : (old new : Preference) → Turns old new
turns old new =
    ⊎_elim
    (λ named. turns_named old new named)
    (λ none. inr (inl (omega (arith, none)), rw (le-ltb 0 new.nearness none) refl))
    (cases_lt 0 new.nearness)

module _ (kind : Bytes) where
  -- no range names the type, or one decides
  abbrev Stands : List Bytes → Preference → Type 0
  Stands ranges said =
      (All (λ range. nearness kind range ≡ 0) ranges × (said ≡ unnamed))
      ⊎ ((range : Bytes) × Decides kind ranges range × (said ≡ preference_of kind range))

  last_within : (ranges : List Bytes) (range : Bytes) → Contains (ranges ++ range ∷ []) range
  last_within ranges range = Contains-append_right ranges (range ∷ []) range (0, omega arith, refl)

  pushed : (P : Bytes → Type 0) (ranges : List Bytes) (range : Bytes) → All P ranges → P range → All P (ranges ++ range ∷ [])
  pushed P ranges range all one = All-append P ranges (range ∷ []) all (All-cons P range [] one (All-nil P))

  -- the next range decides, where none did
  first_decides : (ranges : List Bytes) (range : Bytes) → All (λ other. nearness kind other ≡ 0) ranges
      → 0 < nearness kind range → Decides kind (ranges ++ range ∷ []) range
  first_decides ranges range none named = record {
    within = last_within ranges range;
    names = named;
    nearest =
        pushed (IsNoRival kind range) ranges range
        (All-weaker (λ other. nearness kind other ≡ 0) (IsNoRival kind range) (λ other is. inl (omega (arith, is, named))) ranges none)
        (inr (refl, omega arith));
  }

  below_next : (range next other : Bytes) → Replaces (preference_of kind range) (preference_of kind next)
      → IsNoRival kind range other → IsNoRival kind next other
  below_next range next other (named, inl nearer) (inl less) = inl (omega (arith, nearer, less))
  below_next range next other (named, inl nearer) (inr (same, light)) = inl (omega (arith, nearer, same))
  below_next range next other (named, inr (as_near, heavier)) (inl less) = inl (omega (arith, as_near, less))
  below_next range next other (named, inr (as_near, heavier)) (inr (same, light)) =
      inr (same ∙ sym as_near, omega (arith, heavier, light))

  -- the next range decides in place of another one
  next_decides : (ranges : List Bytes) (range next : Bytes) → Decides kind ranges range
      → Replaces (preference_of kind range) (preference_of kind next) → Decides kind (ranges ++ next ∷ []) next
  next_decides ranges range next decides replaces = record {
    within = last_within ranges next;
    names = replaces.0;
    nearest =
        pushed (IsNoRival kind next) ranges next
        (All-weaker (IsNoRival kind range) (IsNoRival kind next) (λ other rival. below_next range next other replaces rival) ranges decides.nearest)
        (inr (refl, omega arith));
  }

  no_rival : (range next : Bytes) → 0 < nearness kind range → Yields (preference_of kind range) (preference_of kind next)
      → IsNoRival kind range next
  no_rival range next named (inl none) = inl (omega (arith, named, none))
  no_rival range next named (inr rival) = rival

  -- a range goes on deciding
  still_decides : (ranges : List Bytes) (range next : Bytes) → Decides kind ranges range
      → Yields (preference_of kind range) (preference_of kind next) → Decides kind (ranges ++ next ∷ []) range
  still_decides ranges range next decides yields = record {
    within = Contains-append_left ranges (next ∷ []) range decides.within;
    names = decides.names;
    nearest = pushed (IsNoRival kind range) ranges next decides.nearest (no_rival range next decides.names yields);
  }

  unnamed_stays : (range : Bytes) → Yields unnamed (preference_of kind range) → nearness kind range ≡ 0
  unnamed_stays range (inl none) = none
  unnamed_stays range (inr (inl less)) = absurd (omega (arith, less))
  unnamed_stays range (inr (inr same)) = same.0

  stands_next : (ranges : List Bytes) (said : Preference) (next : Bytes) → Stands ranges said
      → Turns said (preference_of kind next) → Stands (ranges ++ next ∷ []) (preference_after kind said next)
  stands_next ranges said next (inl none) (inl turned) =
      inr (next, first_decides ranges next none.0 turned.0.0, turned.1)
  stands_next ranges said next (inl none) (inr turned) =
      let zero = unnamed_stays next (subst (λ p. Yields p (preference_of kind next)) none.1 turned.0) in
      inl (pushed (λ range. nearness kind range ≡ 0) ranges next none.0 zero, turned.1 ∙ none.1)
  stands_next ranges said next (inr some) (inl turned) =
      inr (
        next,
        next_decides ranges some.0 next some.1 (subst (λ p. Replaces p (preference_of kind next)) some.2 turned.0),
        turned.1,
      )
  stands_next ranges said next (inr some) (inr turned) =
      inr (
        some.0,
        still_decides ranges some.0 next some.1 (subst (λ p. Yields p (preference_of kind next)) some.2 turned.0),
        turned.1 ∙ some.2,
      )

  stands_after : (more ranges : List Bytes) (said : Preference) → Stands ranges said
      → Stands (ranges ++ more) (fold (preference_after kind) said more)
  stands_after [] ranges said stands = subst (λ rs. Stands rs said) (sym (append-nil ranges)) stands
  stands_after (next ∷ more) ranges said stands =
      subst (λ rs. Stands rs (fold (preference_after kind) said (next ∷ more))) (append_assoc ranges (next ∷ []) more)
      (stands_after more (ranges ++ next ∷ []) (preference_after kind said next)
      (stands_next ranges said next stands (turns said (preference_of kind next))))

  -- what values say of the type is said by the range that decides
  pub stands_in : (ranges : List Bytes) → Stands ranges (fold (preference_after kind) unnamed ranges)
  stands_in ranges = stands_after ranges [] unnamed (inl (All-nil (λ range. nearness kind range ≡ 0), refl))

  at_element : (P : Bytes → Type 0) (ranges : List Bytes) (range : Bytes) → All P ranges → Contains ranges range → P range
  at_element P ranges range all within = subst P within.2 (all within.0 range within.1)

  rivals_weigh : (range rival : Bytes) → IsNoRival kind range rival → IsNoRival kind rival range → weight rival ≡ weight range
  rivals_weigh range rival (inl less) (inl more) = absurd (omega (arith, less, more))
  rivals_weigh range rival (inl less) (inr (same, light)) = absurd (omega (arith, less, same))
  rivals_weigh range rival (inr (same, light)) (inl less) = absurd (omega (arith, less, same))
  rivals_weigh range rival (inr (same, light)) (inr (equal, heavy)) = omega (arith, light, heavy)

  -- each range that decides gives the weight that is said
  pub said_by : (ranges : List Bytes) (said : Preference) (range : Bytes) → Stands ranges said
      → Decides kind ranges range → weight range ≡ said.weight
  said_by ranges said range (inl none) decides =
      absurd (omega (arith, decides.names, at_element (λ other. nearness kind other ≡ 0) ranges range none.0 decides.within))
  said_by ranges said range (inr some) decides =
      rivals_weigh some.0 range
      (at_element (IsNoRival kind some.0) ranges range some.1.nearest decides.within)
      (at_element (IsNoRival kind range) ranges some.0 decides.nearest some.1.within)
      ∙ sym (ap (λ (p : Preference). p.weight) some.2)

and_false : (b : Bool) → (b && false) ≡ false
and_false true = refl
and_false false = refl

preferred_heavier : (response json : Preference) → json.weight < response.weight → preferred response json ≡ Some Response
unfolding preferred
preferred_heavier response json heavier = rw (lt-ltb json.weight response.weight heavier) refl

preferred_tied : (response json : Preference) (named : Bool) → (response.nearness == 3) ≡ named → 0 < response.weight
    → response.weight ≡ json.weight → preferred response json ≡ cond named (Some Response) (Some Json)
unfolding preferred
preferred_tied response json true is some same =
    rw (le-ltb json.weight response.weight (omega (arith, same)), is, lt-ltb 0 response.weight some, eq-eqb response.weight json.weight same) refl
preferred_tied response json false is some same =
    rw (le-ltb json.weight response.weight (omega (arith, same)), is, lt-ltb 0 json.weight (omega (arith, some, same))) refl

preferred_lighter : (response json : Preference) → response.weight < json.weight → preferred response json ≡ Some Json
unfolding preferred
preferred_lighter response json lighter =
    let other : response.weight ≢ json.weight = λ same. absurd (omega (arith, lighter, same)) in
    rw (
      le-ltb json.weight response.weight (omega (arith, lighter)),
      ne_eqb response.weight json.weight other,
      and_false (nat_lt 0 response.weight),
      and_false (response.nearness == 3),
      lt-ltb 0 json.weight (omega (arith, lighter)),
    ) refl

preferred_none : (response json : Preference) → response.weight ≡ 0 → json.weight ≡ 0 → preferred response json ≡ None
unfolding preferred
preferred_none response json light none =
    rw (
      le-ltb json.weight response.weight (omega (arith, light, none)),
      le-ltb 0 response.weight (omega (arith, light)),
      and_false (response.nearness == 3),
      le-ltb 0 json.weight (omega (arith, none)),
    ) refl

module _ (ranges : List Bytes) (response json : Preference) (stands_response : Stands (kind_of Response) ranges response)
    (stands_json : Stands (kind_of Json) ranges json) where
  no_heavier : (most : ℕ) → response.weight ≤ most → json.weight ≤ most → (other : Media) (rival : Bytes)
      → Decides (kind_of other) ranges rival → weight rival ≤ most
  no_heavier most first second Response rival decides =
      omega (arith, first, said_by (kind_of Response) ranges response rival stands_response decides)
  no_heavier most first second Json rival decides =
      omega (arith, second, said_by (kind_of Json) ranges json rival stands_json decides)

  is_preferred : (media : Media) (said : Preference) → Stands (kind_of media) ranges said → 0 < said.weight
      → response.weight ≤ said.weight → json.weight ≤ said.weight → IsPreferred ranges media
  is_preferred media said (inl none) some first second = absurd (omega (arith, some, ap (λ (p : Preference). p.weight) none.1))
  is_preferred media said (inr decided) some first second =
      let same = ap (λ (p : Preference). p.weight) decided.2 in record {
        range = decided.0;
        decides = decided.1;
        heavy = omega (arith, some, same);
        heaviest = no_heavier (weight decided.0) (omega (arith, first, same)) (omega (arith, second, same));
      }

  chooses_tied : (named : Bool) → 0 < response.weight → response.weight ≡ json.weight
      → IsChoice ranges (cond named (Some Response) (Some Json))
  chooses_tied true some same =
      is_preferred Response response stands_response some (omega arith) (omega (arith, same))
  chooses_tied false some same =
      is_preferred Json json stands_json (omega (arith, some, same)) (omega (arith, same)) (omega arith)

  chooses_equal : response.weight ≡ json.weight → IsChoice ranges (preferred response json)
  chooses_equal same =
      ⊎_elim
      (λ some. rw (preferred_tied response json (response.nearness == 3) refl some same) (chooses_tied (response.nearness == 3) some same))
      (λ none. rw (preferred_none response json (omega (arith, none)) (omega (arith, none, same)))
      (λ media rival decides. omega (arith, no_heavier 0 none (omega (arith, none, same)) media rival decides)))
      (cases_lt 0 response.weight)

  pub chooses : IsChoice ranges (preferred response json)
  chooses =
      ⊎_elim
      (λ heavier. rw (preferred_heavier response json heavier)
      (is_preferred Response response stands_response (omega (arith, heavier)) (omega arith) (omega (arith, heavier))))
      (λ light. ⊎_elim chooses_equal
      (λ other. rw (preferred_lighter response json (omega (arith, light, other)))
      (is_preferred Json json stands_json (omega (arith, light, other)) (omega (arith, light)) (omega arith)))
      (cases_eq response.weight json.weight))
      (cases_lt json.weight response.weight)

chosen_of : (values : List FieldValue) → values ≢ [] → IsChoice (elements values) (accepted values)
chosen_of [] some = absurd (some refl)
chosen_of (value ∷ values) some =
    let ranges = elements (value ∷ values) in
    chooses ranges (preference_in (kind_of Response) (value ∷ values)) (preference_in (kind_of Json) (value ∷ values))
    (stands_in (kind_of Response) ranges) (stands_in (kind_of Json) ranges)

pub chooses_by_ranges : ChoosesByRanges
chooses_by_ranges = record { without = refl; chosen = chosen_of }

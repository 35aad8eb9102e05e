-- The members of some names, and what is found at these.
use Rattle.std.proofs.Common.{◌≡◌, ◌≤◌, refl, sym, ap, ◌∙◌, arith, max, Bool, true, false, if◌then◌else◌, cond, List, [], ◌∷◌, length, Option, Some, None, String, Global, Ordering, Less, Equal, Greater, nat_cmp, option_and_then, string_bytes}
use Rattle.std.specs.Cmp.Lexicographic.{slice_cmp}
use Rattle.std.specs.List.{Contains, filter}
use Rattle.std.specs.Ordering.{is_eq, match_ordering}
use Rattle.std.proofs.lemmas.Cmp.{nat_list_eq_equiv}
use Rattle.std.proofs.lemmas.Bool.{true≢false}
use Rattle.std.proofs.lemmas.Map.Text.{is_eq-slice_cmp}
use Rattle.std.proofs.lemmas.Map.Views.{list_any-from_Contains}
use Rattle.std.proofs.lemmas.Slice.Eq.{bytes_eq-Decides}
use Rattle.serde_json.specs.Data.{Data, Members, no_members, member, depth, members_depth}
use Rattle.serde_json.specs.Find.{get_member}
use Rattle.serde_json.specs.View.{members_view, view}
use Rattle.serde_json.specs.declared.value.Value.{Value}
use Rattle.graphql_names.specs.Names.{Bytes, is_one_of}
use Rattle.graphql_executor.specs.Requests.{Scalars}
use Rattle.graphql_lines.specs.Request.{Request}
use Rattle.graphql_lines.specs.Variables.{input_of}
use Rattle.graphql_plain_print.specs.NameSets.{AreSame}
use Rattle.graphql_plain_requests.specs.AcceptedAgain.{AreEqualOn}
use Rattle.graphql_service.specs.Answers.{given}
use Rattle.graphql_stores.specs.Stored.{members_named, with_query}

-- there is nothing in a list of no length
pub empty-is : {A : Type 0} (xs : List A) → length xs ≡ 0 → xs ≡ []
empty-is [] e = refl
empty-is (x ∷ xs) e = absurd (omega (arith, e))

one-nests : (b : Bool) (l : Bytes) (e : Data) (kept ms : Members) → members_depth kept ≤ members_depth ms
    → members_depth (if b then member l e kept else kept) ≤ max (depth e) (members_depth ms)
one-nests true l e kept ms less = omega (arith, less)
one-nests false l e kept ms less = omega (arith, less)

past : (o : Ordering) (r e : Option Data) → (o ≡ Equal → ⊥) → match_ordering o r e r ≡ r
past Less r e other = refl
past Equal r e other = absurd (other refl)
past Greater r e other = refl

one-found : (b : Bool) (k l : Bytes) (e : Data) (kept ms : Members) → get_member k kept ≡ get_member k ms
    → (b ≡ false → slice_cmp nat_cmp k l ≡ Equal → ⊥)
    → get_member k (if b then member l e kept else kept) ≡ get_member k (member l e ms)
one-found true k l e kept ms same apart =
    ap (λ r. match_ordering (slice_cmp nat_cmp k l) r (Some e) r) same
one-found false k l e kept ms same apart =
    same ∙ sym (past (slice_cmp nat_cmp k l) (get_member k ms) (Some e) (apart refl))

abbrev Entry : Type 0
Entry = String Global × Value

one-view : (b : Bool) (e : Entry) (es : List Entry) (kept : Members) → members_view es ≡ kept
    → members_view (cond b (e ∷ es) es) ≡ (if b then member (string_bytes e.0) (view e.1) kept else kept)
one-view true e es kept same = ap (member (string_bytes e.0) (view e.1)) same
one-view false e es kept same = same

module _ (names : List Bytes) where
  -- they nest no deeper
  pub kept-nests : (ms : Members) → members_depth (members_named names ms) ≤ members_depth ms
  kept-nests no_members = omega arith
  kept-nests (member l e ms) =
      one-nests (is_one_of names l) l e (members_named names ms) ms (kept-nests ms)

  -- a name that is none of them is another than one that is
  apart : (k l : Bytes) → is_one_of names k ≡ true → is_one_of names l ≡ false
      → slice_cmp nat_cmp k l ≡ Equal → ⊥
  apart k l among away e =
      let same : k ≡ l = (bytes_eq-Decides k l).0 (sym (is_eq-slice_cmp k l) ∙ ap is_eq e) in
      true≢false (sym among ∙ ap (is_one_of names) same ∙ away)

  -- what is found at one of the names stays
  pub kept-member : (k : Bytes) (ms : Members) → is_one_of names k ≡ true
      → get_member k (members_named names ms) ≡ get_member k ms
  kept-member k no_members among = refl
  kept-member k (member l e ms) among =
      one-found (is_one_of names l) k l e (members_named names ms) ms (kept-member k ms among)
      (λ away. apart k l among away)

  -- those of a map whose entries are tested by their names
  pub kept-view : (entries : List Entry)
      → members_view (filter (λ (e : Entry). is_one_of names (string_bytes e.0)) entries)
      ≡ members_named names (members_view entries)
  kept-view [] = refl
  kept-view (e ∷ es) =
      one-view (is_one_of names (string_bytes e.0)) e
      (filter (λ (e : Entry). is_one_of names (string_bytes e.0)) es)
      (members_named names (members_view es)) (kept-view es)

-- the values of names that are kept are those that are given
pub values-kept : {S C : Type 0} (s : Scalars S C) (request : Request) (plain : Bytes) (names used : List Bytes)
    → AreSame names used → AreEqualOn (given s request) (given s (with_query request plain names)) used
values-kept s request plain names used same name i =
    ap (option_and_then (input_of s.of_bool s.of_int s.of_text))
    (kept-member names name request.variables
    (same.same name ∙ list_any-from_Contains nat_list_eq_equiv name used i))

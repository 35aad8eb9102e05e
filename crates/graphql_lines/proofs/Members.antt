-- An object's members, some of them taken out.
use Rattle.std.proofs.Common.{◌≡◌, ◌≢◌, ℕ, Bool, true, false, cond, is_eq, nat_cmp, List, [], ◌∷◌, Option, Some, unwrap_or, codes, string_bytes, refl, sym, ap, ◌∙◌}
use Rattle.std.specs.BTreeMap.{is_at}
use Rattle.std.specs.Cmp.Lexicographic.{slice_cmp}
use Rattle.std.specs.Map.{remove_entry}
use Rattle.std.specs.Ordering.{match_ordering}
use Rattle.std.proofs.lemmas.Map.Text.{is_eq-slice_cmp}
use Rattle.std.proofs.lemmas.Slice.Eq.{bytes_eq-Decides}
use Rattle.serde_json.specs.Data.{Data, null, boolean, number, string, array, object, Members}
use Rattle.serde_json.specs.Find.{get, get_member, as_object}
use Rattle.serde_json.specs.View.{view, members_view}
use Rattle.serde_json.proofs.Views.{Entry, member_later}
use Rattle.graphql_lines.specs.Request.{KeepsOthers}

module _ (gone other : List ℕ) (apart : other ≢ gone) where
  abbrev left : List Entry → List Entry
  left es = remove_entry (is_at (λ k. slice_cmp nat_cmp gone (string_bytes k))) es

  one_more : (b : Bool) (e : Entry) (es : List Entry) → is_eq (slice_cmp nat_cmp gone (string_bytes e.0)) ≡ b
      → get_member other (members_view (left es)) ≡ get_member other (members_view es) → get_member other (members_view (cond b es (e ∷ left es))) ≡ get_member other (members_view (e ∷ es))
  one_more true e es is behind =
      let same : gone ≡ string_bytes e.0 = (bytes_eq-Decides gone (string_bytes e.0)).0 (sym (is_eq-slice_cmp gone (string_bytes e.0)) ∙ is) in
      sym (member_later other e es (λ h. apart (h ∙ sym same)))
  one_more false e es is behind = ap (λ r. match_ordering (slice_cmp nat_cmp other (string_bytes e.0)) r (Some (view e.1)) r) behind

  -- the members of other names stay
  pub others_stay : (es : List Entry) → get_member other (members_view (left es)) ≡ get_member other (members_view es)
  others_stay [] = refl
  others_stay (e ∷ es) = one_more (is_eq (slice_cmp nat_cmp gone (string_bytes e.0))) e es refl (others_stay es)

-- what stands under a name of an object
under_name : (d : Data) (ms : Members) → as_object d ≡ Some ms → (name : List ℕ) → get name d ≡ get_member name ms
under_name null ms e name = absurd (cc)
under_name (boolean b) ms e name = absurd (cc)
under_name (number n) ms e name = absurd (cc)
under_name (string s) ms e name = absurd (cc)
under_name (array ds) ms e name = absurd (cc)
under_name (object ns) ms e name = ap (λ o. get_member name (unwrap_or o ns)) e

operation_name_is_no_query : codes "operationName" ≢ codes "query"
operation_name_is_no_query e = cc

variables_are_no_query : codes "variables" ≢ codes "query"
variables_are_no_query e = cc

variables_are_no_operation_name : codes "variables" ≢ codes "operationName"
variables_are_no_operation_name e = cc

-- what is taken out of an object, one name after the other, is what stands there
pub taken_apart : (d : Data) (all without_query without_name : Members) (query name variables : Option Data) → as_object d ≡ Some all
    → query ≡ get_member (codes "query") all → KeepsOthers (codes "query") all without_query
    → name ≡ get_member (codes "operationName") without_query → KeepsOthers (codes "operationName") without_query without_name
    → variables ≡ get_member (codes "variables") without_name
    → (get (codes "query") d ≡ query) × (get (codes "operationName") d ≡ name) × (get (codes "variables") d ≡ variables)
taken_apart d all without_query without_name query name variables is at_query past_query at_name past_name at_variables =
    let under = under_name d all is in (
      (under (codes "query") ∙ sym at_query),
      (under (codes "operationName") ∙ sym (at_name ∙ past_query (codes "operationName") operation_name_is_no_query)),
      (under (codes "variables") ∙ sym (at_variables ∙ past_name (codes "variables") variables_are_no_operation_name ∙ past_query (codes "variables") variables_are_no_query)),
    )

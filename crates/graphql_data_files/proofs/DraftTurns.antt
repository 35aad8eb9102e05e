-- One turn of a loop that drafts the items of a list, and of one that makes records of drafts.
use Rattle.std.proofs.Common.{◌≡◌, ℕ, ◌+◌, ◌<◌, List, [], ◌∷◌, ◌++◌, map, drop, length, get_or, Option, Some, None, ap, ◌∙◌}
use Rattle.std.proofs.lemmas.List.{at_drop_more, map-append}
use Rattle.serde_json.specs.View.{view, items_view}
use Rattle.serde_json.specs.declared.value.Value.{Value}
use Rattle.graphql_json.specs.Parts.{◌>>=◌, each_read}
use Rattle.graphql_json.proofs.EachTurns.{each_turn, from}
use Rattle.graphql_names.specs.Names.{Bytes}
use Rattle.graphql_records.specs.Tables.{Entries}
use Rattle.graphql_records.specs.declared.record.Record.{Record}
use Rattle.graphql_data_files.specs.Drafts.{Draft, draft_of, record_of, records_of}
use Rattle.graphql_data_files.specs.LentDrafts.{draft_told}
use Rattle.graphql_data_files.specs.declared.drafts.Draft.{Draft as LentDraft}
use Rattle.graphql_data_files.proofs.ValueTurns.{behind}

pub draft_turn : (whole : Option (List Draft)) (items : List Value) (i : ℕ) (this : Value) (x : LentDraft) (found new : List LentDraft)
    → i < length items → get_or items i this ≡ this → draft_of (view this) ≡ Some (draft_told x) → new ≡ found ++ x ∷ []
    → whole ≡ from (map draft_told found) (each_read draft_of (items_view (drop i items)))
    → whole ≡ from (map draft_told new) (each_read draft_of (items_view (drop (i + 1) items)))
draft_turn whole items i this x found new inside here means pushed so_far =
    let told = ap (map draft_told) pushed ∙ map-append draft_told found (x ∷ []) in
    each_turn draft_of whole items i this (draft_told x) (map draft_told found) (map draft_told new) inside here means told so_far

record_found : (found : Entries) (x : Draft) (xs : List Draft) (r : Bytes × Record) → record_of x ≡ Some r → from found (records_of (x ∷ xs)) ≡ from (found ++ r ∷ []) (records_of xs)
record_found found x xs r e = rw e (behind found r (records_of xs))

module _ (whole : Option Entries) (drafts : List LentDraft) (i : ℕ) (this : LentDraft) (found : Entries) (inside : i < length drafts) (here : get_or drafts i this ≡ this)
    (so_far : whole ≡ from found (records_of (map draft_told (drop i drafts)))) where
  next : whole ≡ from found (records_of (draft_told this ∷ map draft_told (drop (i + 1) drafts)))
  next =
      let left : List LentDraft → Option Entries = λ xs. from found (records_of (map draft_told xs)) in
      so_far ∙ at_drop_more left drafts i this inside ∙ ap (λ x. left (x ∷ drop (i + 1) drafts)) here

  pub record_turn : (r : Bytes × Record) (new : Entries) → record_of (draft_told this) ≡ Some r → new ≡ found ++ r ∷ [] → whole ≡ from new (records_of (map draft_told (drop (i + 1) drafts)))
  record_turn r new means pushed = rw pushed (next ∙ record_found found (draft_told this) (map draft_told (drop (i + 1) drafts)) r means)

  -- where one is none, so is the whole
  pub record_stops : record_of (draft_told this) ≡ None → whole ≡ None
  record_stops lacks = next ∙ ap (λ o. from found (o >>= λ r. records_of (map draft_told (drop (i + 1) drafts)) >>= λ rs. Some (r ∷ rs))) lacks

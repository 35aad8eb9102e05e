-- Drafts that are lent from a file's JSON, as what it says.
use Rattle.std.specs.Prelude.{map}
use Rattle.serde_json.specs.View.{members_view}
use Rattle.graphql_data_files.specs.Drafts.{Draft, Drafts}
use Rattle.graphql_data_files.specs.declared.drafts.Draft.{Draft as LentDraft}
use Rattle.graphql_data_files.specs.declared.drafts.Drafts.{Drafts as LentDrafts}

-- the record that a lent one stands for
abbrev pub draft_told : LentDraft → Draft
draft_told draft =
    record {
      id = draft.id;
      type_name = draft.type_name;
      fields = members_view draft.fields.now.entries;
    }

-- the file that a lent one stands for
abbrev pub file_told : LentDrafts → Drafts
file_told file = record { root = file.root; records = map draft_told file.records }

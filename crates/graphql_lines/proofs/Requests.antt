-- What a line describes, by what is read of it.
use Rattle.std.proofs.Common.{◌≡◌, ℕ, ℤ, List, [], Bool, true, false, cond, Option, Some, None, Ok, option_map, refl, sym, ap, ◌∙◌, String, Global, HashMap, string_bytes, codes, rules}
use Rattle.std.specs.Map.{lookup}
use Rattle.std.specs.Str.{IsUtf8, is_utf8, bytes_eq}
use Rattle.std.proofs.lemmas.Str.{is_utf8-from_IsUtf8, IsUtf8-from_is_utf8}
use Rattle.serde_json.specs.Data.{Data, null, Members, no_members}
use Rattle.serde_json.specs.View.{view}
use Rattle.serde_json.specs.declared.value.Value.{Value, Null, the_lemmas}
use Rattle.serde_json.specs.Find.{get}
use Rattle.serde_json.specs.Read.{read}
use Rattle.graphql_values.specs.declared.input_value.InputValue.{InputValue}
use Rattle.graphql_lines.specs.declared.refusal.LineRefusal.{LineRefusal}
use Rattle.graphql_lines.specs.declared.refusal.LineRefusal.TheVariants.{LineTooLong, NotARequest, BadNumber, Memory}
use Rattle.graphql_lines.specs.declared.request.GraphQLRequest.{GraphQLRequest}
use Rattle.graphql_lines.specs.Variables.{HasValues, IsDue, AnswersVariables, members_of_variables}
use Rattle.graphql_lines.specs.Request.{data_of, query_in, name_in, variables_in, request_in, AnswersRequest}

pub data_of-read : (line : List ℕ) (d : Data) → IsUtf8 line → read line ≡ Some d → Some d ≡ data_of line
data_of-read line d u r = sym (ap (λ b. cond b (read line) None) (is_utf8-from_IsUtf8 line u) ∙ r)

pub data_of-refused : (line : List ℕ) → (IsUtf8 line → read line ≡ None) → data_of line ≡ None
data_of-refused line refused = on (is_utf8 line) (λ e. refused (IsUtf8-from_is_utf8 line e))
  where
    on : (b : Bool) → (b ≡ true → read line ≡ None) → cond b (read line) None ≡ None
    on true k = k refl
    on false k = refl

null_of : view Null ≡ null
null_of = search (rules, the_lemmas)

pub no_members_of_null : (v : Value) → v ≡ Null → members_of_variables (view v) ≡ Some no_members
no_members_of_null v e = ap (λ w. members_of_variables (view w)) e ∙ ap members_of_variables null_of

module _ {S : Type 0} (of_bool : Bool → S) (of_int : ℤ → S) (of_text : List ℕ → S) where
  pub no_values : {H : Type 0} (variables : HashMap (String Global) (InputValue S) H) → variables.entries ≡ [] → HasValues of_bool of_int of_text no_members variables
  no_values variables empty = record { fit = refl; values = λ name. ap (λ es. lookup (λ k. bytes_eq name (string_bytes k)) es) empty }

  module _ (d : Data) (query : List ℕ) (name : Option (List ℕ)) (is_query : query_in d ≡ Some query) (is_name : name_in (get (codes "operationName") d) ≡ Some name) where
    asks : (asked : Option Members) → variables_in (get (codes "variables") d) ≡ asked → request_in d ≡ option_map (λ ms. record { query = query; operation_name = name; variables = ms }) asked
    asks asked e = rw (is_query, is_name, e) refl

    pub refused : (e : LineRefusal) → IsDue of_bool of_int of_text (λ ms. ms) (variables_in (get (codes "variables") d)) e → IsDue of_bool of_int of_text (λ q. q.variables) (request_in d) e
    refused LineTooLong due = due
    refused NotARequest due = asks None due
    refused BadNumber due = (record { query = query; operation_name = name; variables = due.0 }, asks (Some due.0) due.1, due.2)
    refused Memory due = due

    pub described : (r : GraphQLRequest S) → string_bytes r.query ≡ query → option_map (λ text. string_bytes text) r.operation_name ≡ name
        → AnswersVariables of_bool of_int of_text (Ok r.variables) (variables_in (get (codes "variables") d)) → AnswersRequest of_bool of_int of_text (Ok r) (request_in d)
    described r same_query same_name told =
        (record { query = query; operation_name = name; variables = told.0 }, asks (Some told.0) told.1, record { query = same_query; operation_name = same_name; variables = told.2 })

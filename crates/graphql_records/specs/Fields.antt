-- The values of records' fields, and what they answer.
use Rattle.std.specs.Prelude.{ℕ, ℤ, pos, negsuc, Bool, false, Option, Some, None, take}
use Rattle.std.specs.Prelude.{if◌then◌else◌}
use Rattle.std.specs.List.{list_any}
use Rattle.std.specs.Option.{option_map_or}
use Rattle.std.specs.Str.{bytes_eq}
use Rattle.graphql_names.specs.Names.{Bytes}
use Rattle.graphql_scalars.specs.declared.default_scalar.DefaultScalarValue.{DefaultScalarValue}
use Rattle.graphql_scalars.specs.declared.default_scalar.DefaultScalarValue.TheVariants as scalar
use Rattle.graphql_field_results.specs.declared.resolved.Resolved.{Resolved, out-Resolved}
use Rattle.graphql_field_results.specs.declared.resolved.Resolved.TheOpen.{Resolved-F}
use Rattle.graphql_field_results.specs.declared.resolved.Resolved.TheVariants as resolved
use Rattle.graphql_records.specs.Tables.{Entries, record_index}
use Rattle.graphql_records.specs.declared.field_value.FieldValue.{FieldValue, fold-FieldValue}
use Rattle.graphql_records.specs.declared.field_value.FieldValue.TheOpen.{FieldValue-F}
use Rattle.graphql_records.specs.declared.table_node.TableNode.{TableNode}
use Rattle.graphql_records.specs.declared.table_node.TableNode.TheVariants as node

abbrev pub TableAnswer : Type 0
TableAnswer = Resolved DefaultScalarValue TableNode

-- at a leaf type a value answers itself
abbrev pub leaf_layer : FieldValue-F TableAnswer → TableAnswer
leaf_layer FieldValue-F.Null = resolved.Null
leaf_layer (FieldValue-F.Scalar s) = resolved.Scalar s
leaf_layer (FieldValue-F.List answers) = resolved.List answers

abbrev pub at_leaf : FieldValue → TableAnswer
at_leaf = fold-FieldValue TableAnswer leaf_layer

-- a link: the record of an id, null where there is none
abbrev pub linked : Entries → Bytes → TableAnswer
linked records id =
    option_map_or (λ place. resolved.Node (node.At place)) (record_index records id) resolved.Null

-- at a composite type texts are links
abbrev pub link_of_scalar : Entries → DefaultScalarValue → TableAnswer
link_of_scalar records (scalar.String id) = linked records id
link_of_scalar records (scalar.Int z) = resolved.Scalar (scalar.Int z)
link_of_scalar records (scalar.Boolean b) = resolved.Scalar (scalar.Boolean b)

abbrev pub link_layer : Entries → FieldValue-F TableAnswer → TableAnswer
link_layer records FieldValue-F.Null = resolved.Null
link_layer records (FieldValue-F.Scalar s) = link_of_scalar records s
link_layer records (FieldValue-F.List answers) = resolved.List answers

abbrev pub at_links : Entries → FieldValue → TableAnswer
at_links records = fold-FieldValue TableAnswer (link_layer records)

-- whether a link to an id stands in a value or its lists
abbrev pub is_link : Bytes → DefaultScalarValue → Bool
is_link id (scalar.String other) = bytes_eq other id
is_link id (scalar.Int z) = false
is_link id (scalar.Boolean b) = false

abbrev pub link_here : Bytes → FieldValue-F Bool → Bool
link_here id FieldValue-F.Null = false
link_here id (FieldValue-F.Scalar s) = is_link id s
link_here id (FieldValue-F.List found) = list_any (λ b. b) found

abbrev pub has_link : Bytes → FieldValue → Bool
has_link id = fold-FieldValue Bool (link_here id)

-- the first link equal to an id, null where there is none
abbrev pub picked : Entries → Bytes → FieldValue → TableAnswer
picked records id v = if has_link id v then linked records id else resolved.Null

-- how many items an integer asks for: none where it is negative
abbrev pub count_of : ℤ → ℕ
count_of (pos n) = n
count_of (negsuc n) = 0

abbrev pub cut_layer : ℤ → Resolved-F DefaultScalarValue TableNode TableAnswer → TableAnswer
cut_layer z Resolved-F.Null = resolved.Null
cut_layer z (Resolved-F.Scalar s) = resolved.Scalar s
cut_layer z (Resolved-F.List answers) = resolved.List (take (count_of z) answers)
cut_layer z (Resolved-F.Node n) = resolved.Node n

-- a list is cut to as many first items as are asked for
abbrev pub cut_to : Option ℤ → TableAnswer → TableAnswer
cut_to None answer = answer
cut_to (Some z) answer = cut_layer z (out-Resolved DefaultScalarValue TableNode answer)

-- A file has a fault of its shape exactly where it can't be drafted.
use Rattle.std.proofs.Common.{◌≡◌, ◌↔◌, ◌+◌, ◌∷◌, ℕ, true, List, Option, Some, None, Err, codes, is_some, is_none, IsSome, refl, sym, ap, true≢false}
use Rattle.std.specs.Option.{option_and_then, option_map, option_or}
use Rattle.serde_json.specs.Data.{Data, null, boolean, number, string, array, object, Items, no_items, item}
use Rattle.serde_json.specs.Find.{as_array, get}
use Rattle.graphql_lines.specs.Request.{data_of}
use Rattle.graphql_schema.specs.declared.meta.MetaType.{MetaType}
use Rattle.graphql_schema_files.specs.DraftedTypes.{S}
use Rattle.graphql_schema_files.specs.Laws.{ShapeFaultsStand, ToldShapesHaveFaults}
use Rattle.graphql_schema_files.specs.SchemaFiles.{ReadsData, ReadsShape}
use Rattle.graphql_schema_files.specs.SpelledTexts.{Value}
use Rattle.graphql_schema_files.specs.declared.drafts.SchemaDraft.{SchemaDraft}
use Rattle.graphql_schema_files.specs.declared.schema_file_error.SchemaFileError.TheVariants as fault
use Rattle.graphql_json.specs.Parts.{◌>>=◌, each_read, list_read, or_none, text_at, text_if, text_of, unless}
use Rattle.graphql_names.specs.Names.{Bytes}
use Rattle.graphql_schema_files.specs.Shapes.{argument_draft, argument_drafts, field_draft, field_drafts, kind_in, listed_in, schema_of, type_draft, types_in}
use Rattle.graphql_schema_files.specs.ShapeFaults.{argument_fault, at_member, field_fault, fields_fault, file_fault, first_fault, found_fault, in_argument, in_field, in_names, in_type, items_fault, key_of, listed_fault, list_fault, list_if_fault, name_fault, parts_fault, text_fault, text_if_fault, type_fault}
use Rattle.graphql_schema_files.specs.declared.drafts.ArgumentDraft.{ArgumentDraft}
use Rattle.graphql_schema_files.specs.declared.drafts.FieldDraft.{FieldDraft}
use Rattle.graphql_schema_files.specs.declared.drafts.TypeDraft.{TypeDraft}
use Rattle.graphql_schema_files.specs.declared.drafts.DraftKind.{DraftKind}
use Rattle.graphql_schema_files.specs.declared.drafts.DraftKind.TheVariants as kind
use Rattle.graphql_schema_files.specs.declared.wanted.Member.{Member}
use Rattle.graphql_schema_files.specs.declared.wanted.Member.TheVariants as member
use Rattle.graphql_schema_files.specs.declared.wanted.ShapeFault.{ShapeFault}

-- a fault is found exactly where a reading finds nothing
abbrev Opposed : {A : Type 0} → Option ShapeFault → Option A → Type 0
Opposed fault found = is_none fault ≡ is_some found

-- a step, and then what needs its value
both : {A B : Type 0} (fault rest : Option ShapeFault) (found : Option A) (next : A → Option B) → Opposed fault found → ((x : A) → Opposed rest (next x))
    → Opposed (option_or fault rest) (option_and_then next found)
both None rest (Some x) next e then_so = then_so x
both (Some f) rest None next e then_so = refl
both None rest None next e then_so = absurd (true≢false e)
both (Some f) rest (Some x) next e then_so = absurd (true≢false (sym e))

-- the last step
last : {A B : Type 0} (fault : Option ShapeFault) (found : Option A) (made : A → B) → Opposed fault found → Opposed fault (option_and_then (λ x. Some (made x)) found)
last fault None made e = e
last fault (Some x) made e = e

-- three steps, of which none needs the value of another
three_so : {A B C D : Type 0} (f g h : Option ShapeFault) (a : Option A) (b : Option B) (c : Option C) (made : A → B → C → D) → Opposed f a → Opposed g b → Opposed h c
    → Opposed (option_or f (option_or g h)) (option_and_then (λ x. option_and_then (λ y. option_and_then (λ z. Some (made x y z)) c) b) a)
three_so f g h a b c made p q r =
    both f (option_or g h) a (λ x. option_and_then (λ y. option_and_then (λ z. Some (made x y z)) c) b) p
    (λ x. both g h b (λ y. option_and_then (λ z. Some (made x y z)) c) q (λ y. last h c (made x y) r))

unless_so : {A : Type 0} (found : Option A) (f : ShapeFault) → Opposed (unless (is_some found) f) found
unless_so None f = refl
unless_so (Some x) f = refl

mapped : {A : Type 0} (g : ShapeFault → ShapeFault) (fault : Option ShapeFault) (found : Option A) → Opposed fault found → Opposed (option_map g fault) found
mapped g None found e = e
mapped g (Some f) found e = e

-- ---- lists, whose items are read so

module _ {A : Type 0} (within : ℕ → ShapeFault → ShapeFault) (fault_of : Data → Option ShapeFault) (read : Data → Option A) (opposed : (d : Data) → Opposed (fault_of d) (read d)) where
  each_so : (i : ℕ) (ds : Items) → Opposed (first_fault within fault_of i ds) (each_read read ds)
  each_so i no_items = refl
  each_so i (item d ds) =
      both (option_map (within i) (fault_of d)) (first_fault within fault_of (i + 1) ds) (read d) (λ x. each_read read ds >>= λ xs. Some (x ∷ xs))
      (mapped (within i) (fault_of d) (read d) (opposed d))
      (λ x. last (first_fault within fault_of (i + 1) ds) (each_read read ds) (λ xs. x ∷ xs) (each_so (i + 1) ds))

  items_so : (m : Member) (o : Option Items) → Opposed (items_fault within fault_of m o) (o >>= each_read read)
  items_so m None = refl
  items_so m (Some ds) = each_so 0 ds

  list_so : (m : Member) (o : Option Data) → Opposed (items_fault within fault_of m (o >>= as_array)) (o >>= list_read read)
  list_so m None = refl
  list_so m (Some v) = items_so m (as_array v)

  list_if_so : (m : Member) (o : Option Data) → Opposed (found_fault within fault_of m o) (or_none read o)
  list_if_so m None = refl
  list_if_so m (Some v) = items_so m (as_array v)

text_so : (m : Member) (d : Data) → Opposed (text_fault m d) (text_at (key_of m) d)
text_so m d = unless_so (text_at (key_of m) d) _

text_if_so : (m : Member) (d : Data) → Opposed (text_if_fault m d) (text_if (key_of m) d)
text_if_so m d = unless_so (text_if (key_of m) d) _

name_so : (d : Data) → Opposed (name_fault d) (text_of d)
name_so d = unless_so (text_of d) _

-- ---- what a file declares

abbrev argument_made : Bytes → Bytes → Option Bytes → ArgumentDraft
argument_made name type_text default = record { name = name; type_text = type_text; default_text = default }

abbrev field_made : Bytes → Bytes → List ArgumentDraft → FieldDraft
field_made name type_text arguments = record { name = name; type_text = type_text; arguments = arguments }

abbrev type_made : DraftKind → Bytes → List FieldDraft → List Bytes → TypeDraft
type_made kind name fields listed = record { kind = kind; name = name; fields = fields; listed = listed }

abbrev schema_made : Bytes → Option Bytes → List TypeDraft → SchemaDraft
schema_made query mutation types = record { query = query; mutation = mutation; types = types }

argument_so : (d : Data) → Opposed (argument_fault d) (argument_draft d)
argument_so null = refl
argument_so (boolean b) = refl
argument_so (number n) = refl
argument_so (string s) = refl
argument_so (array ds) = refl
argument_so (object ms) =
    let d = object ms in
    three_so (text_fault member.Name d) (text_fault member.TypeText d) (text_if_fault member.DefaultText d)
    (text_at (key_of member.Name) d) (text_at (key_of member.TypeText) d) (text_if (key_of member.DefaultText) d)
    argument_made (text_so member.Name d) (text_so member.TypeText d) (text_if_so member.DefaultText d)

field_so : (d : Data) → Opposed (field_fault d) (field_draft d)
field_so null = refl
field_so (boolean b) = refl
field_so (number n) = refl
field_so (string s) = refl
field_so (array ds) = refl
field_so (object ms) =
    let d = object ms in
    three_so (text_fault member.Name d) (text_fault member.TypeText d) (list_if_fault in_argument argument_fault member.Arguments d)
    (text_at (key_of member.Name) d) (text_at (key_of member.TypeText) d) (argument_drafts d)
    field_made (text_so member.Name d) (text_so member.TypeText d)
    (list_if_so in_argument argument_fault argument_draft argument_so member.Arguments (get (key_of member.Arguments) d))

fields_so : (k : DraftKind) (d : Data) → Opposed (fields_fault k d) (field_drafts k d)
fields_so kind.Object d = list_so in_field field_fault field_draft field_so member.Fields (get (key_of member.Fields) d)
fields_so kind.Interface d = list_so in_field field_fault field_draft field_so member.Fields (get (key_of member.Fields) d)
fields_so kind.Union d = refl

listed_so : (k : DraftKind) (d : Data) → Opposed (listed_fault k d) (listed_in k d)
listed_so kind.Object d = list_if_so (in_names member.Interfaces) name_fault text_of name_so member.Interfaces (get (key_of member.Interfaces) d)
listed_so kind.Interface d = list_if_so (in_names member.Interfaces) name_fault text_of name_so member.Interfaces (get (key_of member.Interfaces) d)
listed_so kind.Union d = list_so (in_names member.Members) name_fault text_of name_so member.Members (get (key_of member.Members) d)

parts_so : (k : Option DraftKind) (d : Data)
    → Opposed (parts_fault k d) (k >>= λ kind. text_at (codes "name") d >>= λ name. field_drafts kind d >>= λ fields. listed_in kind d >>= λ listed. Some (type_made kind name fields listed))
parts_so None d = refl
parts_so (Some k) d =
    three_so (text_fault member.Name d) (fields_fault k d) (listed_fault k d)
    (text_at (key_of member.Name) d) (field_drafts k d) (listed_in k d)
    (type_made k) (text_so member.Name d) (fields_so k d) (listed_so k d)

type_so : (d : Data) → Opposed (type_fault d) (type_draft d)
type_so null = refl
type_so (boolean b) = refl
type_so (number n) = refl
type_so (string s) = refl
type_so (array ds) = refl
type_so (object ms) = parts_so (kind_in (object ms)) (object ms)

file_so : (d : Data) → Opposed (file_fault d) (schema_of d)
file_so null = refl
file_so (boolean b) = refl
file_so (number n) = refl
file_so (string s) = refl
file_so (array ds) = refl
file_so (object ms) =
    let d = object ms in
    three_so (text_fault member.Query d) (text_if_fault member.Mutation d) (list_fault in_type type_fault member.Types d)
    (text_at (key_of member.Query) d) (text_if (key_of member.Mutation) d) (types_in d)
    schema_made (text_so member.Query d) (text_if_so member.Mutation d)
    (list_so in_type type_fault type_draft type_so member.Types (get (key_of member.Types) d))

-- bytes that are no JSON have no fault of the shape
pub no_shape : (o : Option Data) → o ≡ None → None ≡ o >>= file_fault
no_shape o none = ap (λ found. found >>= file_fault) (sym none)

-- ---- so of a file, and of what is told of one

pub shape_faults_stand : ShapeFaultsStand
shape_faults_stand d = by (file_fault d) (schema_of d) (file_so d)
  where
    by : (fault : Option ShapeFault) (found : Option SchemaDraft) → Opposed fault found → IsSome fault ↔ (found ≡ None)
    by None None e = absurd (true≢false e)
    by None (Some file) e = (λ some. absurd (true≢false (sym some)), λ none. absurd (true≢false (ap is_some none)))
    by (Some f) None e = (λ some. refl, λ none. refl)
    by (Some f) (Some file) e = absurd (true≢false (sym e))

module _ {C : Type 0} (accepts : C → Value → Type 0) (builtin : List (MetaType S C)) where
  of_shape : (o : Option SchemaDraft) → ReadsShape accepts builtin o (Err fault.BadShape) → o ≡ None
  of_shape None read = refl
  of_shape (Some file) read = absurd (read (λ is. cc))

  of_data : (o : Option Data) → ReadsData accepts builtin o (Err fault.BadShape) → IsSome (o >>= file_fault)
  of_data None read = absurd (let e = read (λ is. cc) in cc)
  of_data (Some json) read = (shape_faults_stand json).1 (of_shape (schema_of json) read)

pub told_shapes_have_faults : {C : Type 0} (accepts : C → Value → Type 0) → ToldShapesHaveFaults accepts
told_shapes_have_faults accepts builtin bytes read = of_data accepts builtin (data_of bytes) read

-- Steps of reading a file, of which each may find a fault.
use Rattle.std.proofs.Common.{◌≡◌, ◌↔◌, ◌++◌, IsTrue, Bool, true, false, List, Option, Some, None, Result, Ok, Err, is_some, sym, subst, ap, refl, ◌∙◌, true≢false}
use Rattle.std.specs.List.{All, AllZip}
use Rattle.serde_json.specs.Data.{Data}
use Rattle.graphql_lines.specs.declared.refusal.LineRefusal.{LineRefusal}
use Rattle.graphql_lines.specs.declared.refusal.LineRefusal.TheVariants as refusal
use Rattle.graphql_schema.specs.declared.meta.MetaType.{MetaType}
use Rattle.graphql_schema.specs.declared.root_node.RootNode.{RootNode}
use Rattle.graphql_schema.specs.declared.schema.SchemaType.{SchemaType}
use Rattle.graphql_schema_files.specs.Shapes.{schema_of}
use Rattle.graphql_schema_files.specs.declared.drafts.SchemaDraft.{SchemaDraft}
use Rattle.graphql_schema_files.specs.DraftedTypes.{AddsTypes, S, TypeIsSound, TypeMeans}
use Rattle.graphql_schema_files.specs.SpelledTexts.{Value}
use Rattle.graphql_schema_files.specs.declared.drafts.TypeDraft.{TypeDraft}
use Rattle.graphql_schema_files.specs.FirstItems.{IsFirst}
use Rattle.graphql_schema_files.specs.UnfitDefaults.{IsUnfitType}
use Rattle.graphql_schema_files.specs.declared.declaration_place.DeclarationPlace.{DeclarationPlace}
use Rattle.graphql_schema_files.specs.Refusals.{fault_of}
use Rattle.graphql_schema_files.specs.SchemaFiles.{HasDefaults, HasTypes, IsDue, IsNamed, IsRoot, IsSchemaOf, Judges, MakesRoot, MakingDue, ReadsData, ReadsDraft, ReadsShape, default_scalars}
use Rattle.graphql_schema_files.specs.declared.schema_file_error.SchemaFileError.{SchemaFileError}
use Rattle.graphql_schema_files.specs.declared.schema_file_error.SchemaFileError.TheVariants as fault

none_of : {A : Type 0} (o : Option A) → is_some o ≡ false → o ≡ None
none_of None h = refl
none_of (Some x) h = absurd (true≢false h)

-- what is no JSON
no_json : (r : LineRefusal) (json : Option Data) → ((r ≡ refusal.Memory → ⊥) → (r ≡ refusal.NotARequest) × (is_some json ≡ false)) → (fault_of r ≡ fault.Memory → ⊥)
    → (fault_of r ≡ fault.NotJson) × (json ≡ None)
no_json r json told other = let due = told (λ is. other (ap fault_of is)) in (ap fault_of due.0, none_of json due.1)

pub refused_json : (r : LineRefusal) (json : Option Data) (e : SchemaFileError) → e ≡ fault_of r → ((r ≡ refusal.Memory → ⊥) → (r ≡ refusal.NotARequest) × (is_some json ≡ false))
    → (e ≡ fault.Memory → ⊥) → (e ≡ fault.NotJson) × (json ≡ None)
refused_json r json e is told other = subst (λ f. (f ≡ fault.NotJson) × (json ≡ None)) (sym is) (no_json r json told (λ memory. other (is ∙ memory)))

-- whether the defaults conform
module _ {C : Type 0} (accepts : C → Value → Type 0) (file : SchemaDraft) (schema : SchemaType S C) (drafts : List TypeDraft) (same : drafts ≡ file.types) (found : Option DeclarationPlace)
    (told : IsFirst (IsUnfitType (default_scalars accepts) schema.types) drafts found) where
  pub conforming : (root : RootNode S C) → root ≡ record { schema = schema; introspection_disabled = false } → found ≡ None → Judges accepts file schema (Ok root)
  conforming root is none = (is, subst (λ ds. IsFirst (IsUnfitType (default_scalars accepts) schema.types) ds None) same (subst (IsFirst (IsUnfitType (default_scalars accepts) schema.types) drafts) none told))

  pub not_conforming : (place : DeclarationPlace) → found ≡ Some place → Judges accepts file schema (Err (fault.UnfitDefault place))
  not_conforming place some = λ other. subst (λ ds. IsFirst (IsUnfitType (default_scalars accepts) schema.types) ds (Some place)) same (subst (IsFirst (IsUnfitType (default_scalars accepts) schema.types) drafts) some told)

-- a file whose types are read, but not all of it: some default is no literal
pub unsound : (file : SchemaDraft) → HasTypes file → (All TypeIsSound file.types → ⊥) → HasDefaults file → ⊥
unsound file types none defaults = none (λ k d inside. (types k d inside, defaults k d inside))

-- the types were not added
pub none_added : {C : Type 0} (builtin all : List (MetaType S C)) (file : SchemaDraft) → IsNamed file → HasTypes file → (told : Bool) → told ≡ false → AddsTypes file.types builtin all told
    → IsNamed file × HasTypes file × (HasDefaults file → ⊥)
none_added builtin all file named types told is added =
    let none = subst (AddsTypes file.types builtin all) is added in
    (named, types, unsound file types none.0)

-- a test that is another
pub same_test : (one other : Bool) → one ≡ other → IsTrue one ↔ (other ≡ true)
same_test one other is = (λ h. sym is ∙ h, λ h. is ∙ h)

module _ {C : Type 0} (accepts : C → Value → Type 0) (builtin : List (MetaType S C)) where
  module _ (file : SchemaDraft) where
    module _ (named : IsNamed file) (declared all : List (MetaType S C)) (described : AllZip TypeMeans file.types declared) (same : all ≡ builtin ++ declared) where
      due : (e : SchemaFileError) → MakingDue accepts all file e → IsDue accepts builtin file e
      due (fault.UnfitDefault place) told =
          record { named = named; declared = declared; described = described; holds = subst (λ types. MakingDue accepts types file (fault.UnfitDefault place)) same told }
      due fault.BadDefault told = absurd told
      due (fault.Schema e) told =
          record { named = named; declared = declared; described = described; holds = subst (λ types. MakingDue accepts types file (fault.Schema e)) same told }
      due fault.NotJson told = absurd told
      due fault.BadShape told = absurd told
      due fault.BadName told = absurd told
      due fault.BadTypeText told = absurd told
      due fault.Memory told = absurd told

      pub declared_made : (result : Result (RootNode S C) SchemaFileError) → MakesRoot accepts all file result → ReadsDraft accepts builtin file result
      declared_made (Ok root) made = record { named = named; declared = declared; described = described; holds = subst (λ types. IsRoot accepts types file root) same made }
      declared_made (Err e) made = λ other. due e (made other)

  module _ (file : SchemaDraft) (named : IsNamed file) where
    -- the types were added, and a schema is made of all
    pub added_made : (all : List (MetaType S C)) (told : Bool) → told ≡ true → AddsTypes file.types builtin all told → (result : Result (RootNode S C) SchemaFileError)
        → MakesRoot accepts all file result → ReadsDraft accepts builtin file result
    added_made all told is added result made =
        let these = subst (AddsTypes file.types builtin all) is added in
        declared_made file named these.0 all these.1 these.2 result made

  pub drafted : (o : Option SchemaDraft) (file : SchemaDraft) (result : Result (RootNode S C) SchemaFileError) → o ≡ Some file → ReadsDraft accepts builtin file result → ReadsShape accepts builtin o result
  drafted o file result is read = subst (λ found. ReadsShape accepts builtin found result) (sym is) read

  pub shapeless : (o : Option SchemaDraft) → o ≡ None → ReadsShape accepts builtin o (Err fault.BadShape)
  shapeless o is = subst (λ found. ReadsShape accepts builtin found (Err fault.BadShape)) (sym is) (λ other. refl)

  pub parsed : (o : Option Data) (json : Data) (result : Result (RootNode S C) SchemaFileError) → o ≡ Some json → ReadsShape accepts builtin (schema_of json) result → ReadsData accepts builtin o result
  parsed o json result is read = subst (λ found. ReadsData accepts builtin found result) (sym is) read

  -- a root node that was read is that of some file that was drafted
  root_drafted : (o : Option SchemaDraft) (root : RootNode S C) → ReadsShape accepts builtin o (Ok root) → (file : SchemaDraft) × IsSchemaOf accepts builtin file root
  root_drafted None root read = absurd read
  root_drafted (Some file) root read = (file, read)

  pub root_read : (o : Option Data) (root : RootNode S C) → ReadsData accepts builtin o (Ok root) → (file : SchemaDraft) × IsSchemaOf accepts builtin file root
  root_read None root read = absurd read
  root_read (Some json) root read = root_drafted (schema_of json) root read

-- what is read by the same types is the same
pub by_same_types : {C : Type 0} (accepts : C → Value → Type 0) (one other : List (MetaType S C)) (o : Option Data) (result : Result (RootNode S C) SchemaFileError)
    → one ≡ other → ReadsData accepts one o result → ReadsData accepts other o result
by_same_types accepts one other o result same read = subst (λ types. ReadsData accepts types o result) same read

-- no JSON, or want of memory
pub refused : {C : Type 0} (accepts : C → Value → Type 0) (types : List (MetaType S C)) (o : Option Data) (e : SchemaFileError)
    → ((e ≡ fault.Memory → ⊥) → (e ≡ fault.NotJson) × (o ≡ None)) → ReadsData accepts types o (Err e)
refused accepts types None e told = λ other. (told other).0
refused accepts types (Some json) e told = shape (schema_of json)
  where
    never : (e ≡ fault.Memory → ⊥) → ⊥
    never other = let h = (told other).1 in cc

    shape : (o : Option SchemaDraft) → ReadsShape accepts types o (Err e)
    shape None = λ other. absurd (never other)
    shape (Some file) = λ other. absurd (never other)

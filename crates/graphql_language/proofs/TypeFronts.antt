-- A type reference that stands in front is read, whatever follows it.
use Rattle.std.proofs.Common.{◌≡◌, suc, Bool, true, false, List, [], ◌∷◌, ◌++◌, length, Ok, ap, ◌∙◌, sym, refl, append_assoc, arith}
use Rattle.graphql_text.specs.declared.position.Span.{Span}
use Rattle.graphql_text.specs.declared.position.SourcePosition.{SourcePosition}
use Rattle.graphql_names.specs.declared.type_modifier.TypeModifier.TheVariants as m
use Rattle.graphql_grammar.specs.declared.kind.Kind.TheVariants as k
use Rattle.graphql_grammar.specs.Kinds.{kind, only, names}
use Rattle.graphql_grammar.specs.Input.{At, Input, Located, ◌>>=◌, pure}
use Rattle.graphql_grammar.specs.Steps.{sees, expect, name, name_of}
use Rattle.graphql_grammar.specs.Ahead.{mk}
use Rattle.graphql_grammar.specs.Cursor.{after}
use Rattle.graphql_grammar.specs.Relations.{end_of}
use Rattle.graphql_grammar.specs.Faults.{BadScalar, GoodScalar}
use Rattle.graphql_grammar.proofs.Stops.{end-append}
use Rattle.graphql_grammar.proofs.Law.{free_by}
use Rattle.graphql_grammar.proofs.Choices.{when_then, when_else, token_reads}
use Rattle.graphql_grammar.proofs.Parts.{then_read, located_read}
use Rattle.graphql_value_syntax.specs.ReadTypes.{TypeRef, plain, list_type, nullable_type, bare_type, type_ref}
use Rattle.graphql_value_syntax.specs.ReadWraps.{marked}
use Rattle.graphql_value_syntax.specs.Types.{NullableOf, of_name, of_list, TypeOf, of_nullable, of_non_null, no_scalar}
use Rattle.graphql_value_syntax.proofs.ValueLaws.{name_kind}
use Rattle.graphql_value_syntax.proofs.TypeDepth.{type_unfolds}
use Rattle.graphql_value_syntax.proofs.TypeSteps.{mark_read, mark_none}
use Rattle.graphql_value_syntax.proofs.TypeLaws.{law_type}

-- a type in brackets is followed by no mark
inner_read : (ts : List Located) (x : At TypeRef) → TypeOf ts x → (b : Located) (zs : List Located) (f : Span) (e : SourcePosition) → only k.BracketClose (kind b.item) ≡ true
    → type_ref (mk (ts ++ b ∷ zs) f e) ≡ Ok (x, mk (b ∷ zs) f (end_of e ts))
inner_read ts x r b zs f e u =
    (law_type (BadScalar no_scalar) (GoodScalar no_scalar) (suc (length ts))).reads ts x r (omega arith) (b ∷ zs) (free_by (only k.BracketClose) (only k.ExclamationMark) (b ∷ zs) refl u) f e

-- a name, or a list of a type
nullable_read : (ts : List Located) (x : TypeRef) → NullableOf ts x → (zs : List Located) (f : Span) (e : SourcePosition) → nullable_type type_ref (mk (ts ++ zs) f e) ≡ Ok (x, mk zs f (end_of e ts))
nullable_read _ _ (of_name a n is) zs f e =
    when_else (only k.BracketOpen) (expect k.BracketOpen >>= (λ u. type_ref >>= (λ t. expect k.BracketClose >>= (λ w. pure (list_type t))))) (name >>= (λ n. pure (plain n))) (mk (a ∷ zs) f e)
    (free_by names (only k.BracketOpen) (a ∷ zs) refl (name_kind a.item n is))
    ∙ then_read name (λ n. pure (plain n)) (token_reads names name_of a zs f e (name_kind a.item n is))
    ∙ ap (λ ns. Ok (plain ns, mk zs f a.span.end)) (ap name_of is)
nullable_read _ _ (of_list a b ts x h r u) zs f e =
    ap (λ ws. nullable_type type_ref (mk (a ∷ ws) f e)) (append_assoc ts (b ∷ []) zs)
    ∙ when_then (only k.BracketOpen) (expect k.BracketOpen >>= (λ u. type_ref >>= (λ t. expect k.BracketClose >>= (λ w. pure (list_type t))))) (name >>= (λ n. pure (plain n))) (mk (a ∷ (ts ++ b ∷ zs)) f e) h
    ∙ then_read (expect k.BracketOpen) (λ u. type_ref >>= (λ t. expect k.BracketClose >>= (λ w. pure (list_type t)))) (token_reads (only k.BracketOpen) (λ v. tt {0}) a (ts ++ b ∷ zs) f e h)
    ∙ then_read type_ref (λ t. expect k.BracketClose >>= (λ w. pure (list_type t))) (inner_read ts x r b zs f a.span.end u)
    ∙ then_read (expect k.BracketClose) (λ w. pure (list_type x)) (token_reads (only k.BracketClose) (λ v. tt {0}) b zs f (end_of a.span.end ts) u)
    ∙ ap (λ z. Ok (list_type x, mk zs f z)) (sym (end-append a.span.end ts (b ∷ [])))

-- and a mark, if one stands next
marked_read : (x : TypeRef) (i : Input) (b : Bool) → sees (only k.ExclamationMark) i ≡ b → (q : TypeRef × Input) × (marked x i ≡ Ok q)
marked_read x i true e = (_, mark_read x.name x.modifiers i {more = x.modifiers ++ m.NonNull ∷ []} {j = after (only k.ExclamationMark) i} {b = true} (sym e) refl refl refl)
marked_read x i false e = (_, mark_none x.name x.modifiers i {j = after (only k.ExclamationMark) i} {b = false} (sym e) refl refl)

bare_read : (ts : List Located) (x : TypeRef) → NullableOf ts x → (zs : List Located) (f : Span) (e : SourcePosition) → (q : At TypeRef × Input) × (type_ref (mk (ts ++ zs) f e) ≡ Ok q)
unfolding bare_type
bare_read ts x r zs f e =
    let j = mk zs f (end_of e ts) in
    let w = marked_read x j (sees (only k.ExclamationMark) j) refl in
    (_, type_unfolds (mk (ts ++ zs) f e) ∙ located_read (bare_type type_ref) {i = mk (ts ++ zs) f e} {j = w.0.1} {x = w.0.0} (then_read (nullable_type type_ref) marked (nullable_read ts x r zs f e) ∙ w.1) refl refl)

pub type_read : (ts : List Located) (x : At TypeRef) → TypeOf ts x → (zs : List Located) (f : Span) (e : SourcePosition) → (q : At TypeRef × Input) × (type_ref (mk (ts ++ zs) f e) ≡ Ok q)
type_read _ _ (of_nullable a ts x r) zs f e = bare_read (a ∷ ts) x r zs f e
type_read _ _ (of_non_null a b ts x r h) zs f e =
    let w = bare_read (a ∷ ts) x r (b ∷ zs) f e in
    (w.0, ap (λ ws. type_ref (mk (a ∷ ws) f e)) (append_assoc ts (b ∷ []) zs) ∙ w.1)

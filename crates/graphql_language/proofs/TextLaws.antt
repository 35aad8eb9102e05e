-- What a text is, by what is read of its tokens.
use Rattle.std.proofs.Common.{◌≡◌, ◌≢◌, IfOk, IfErr, ◌⊎◌, ℕ, inl, inr, Bool, true, List, [], ◌∷◌, ◌++◌, Result, Ok, Err, ap, ◌∙◌, sym, refl, subst, append_assoc}
use Rattle.std.proofs.lemmas.List.{append-nil, same_from_push}
use Rattle.graphql_text.specs.declared.position.Span.{Span}
use Rattle.graphql_text.specs.declared.token.ScalarToken.{ScalarToken}
use Rattle.graphql_text.specs.declared.parse_error.ParseError.{ParseError}
use Rattle.graphql_text.specs.declared.parse_error.ParseError.TheVariants.{Memory}
use Rattle.graphql_text.specs.Position.{origin}
use Rattle.graphql_text.specs.Tokens.{is_end}
use Rattle.graphql_text.specs.Reading.{Refusal}
use Rattle.graphql_text.specs.Refusals.{parse_error_of}
use Rattle.graphql_grammar.specs.declared.kind.Kind.TheVariants as k
use Rattle.graphql_grammar.specs.Kinds.{only}
use Rattle.graphql_grammar.specs.Input.{Input, Located, Fault, Outcome, Reads, ◌>>=◌}
use Rattle.graphql_grammar.specs.Steps.{finished, all}
use Rattle.graphql_grammar.specs.Ahead.{mk, kind_ahead}
use Rattle.graphql_grammar.specs.Faults.{Reading, Begins, FirstFaultyToken}
use Rattle.graphql_grammar.specs.Cursor.{NoEnd, IsStart}
use Rattle.graphql_lexer.proofs.GrammarLaws as lexical
use Rattle.graphql_grammar.proofs.Cursors.{end_or_not, starts}
use Rattle.graphql_grammar.proofs.Stops.{ran_before}
use Rattle.graphql_grammar.proofs.Ends.{finished_end}
use Rattle.graphql_grammar.proofs.FirstFaults.{spelled, first_fault, one_tree}
use Rattle.graphql_grammar.proofs.OneFault.{one_first_fault}
use Rattle.graphql_tree.specs.declared.document.Definition.{Definition}
use Rattle.graphql_language.specs.ReadDocuments.{definition_kinds, definition, document}
use Rattle.graphql_language.specs.Documents.{DocumentOf}
use Rattle.graphql_language.specs.Texts.{Documents, IsDocument, IsUngrammatical, IsRefused, OnlyDocument, OneDocument, DocumentOrRefused, NotBoth, OneFault}
use Rattle.graphql_language.proofs.DocumentLaws.{law_document}
use Rattle.graphql_language.proofs.DocumentReadings.{twins_document}

no_end_behind : (ts us : List Located) → NoEnd (ts ++ us) → NoEnd us
no_end_behind [] us h = h
no_end_behind (a ∷ ts) us h = no_end_behind ts us h.1

nothing_left : (us : List Located) → NoEnd us → only k.EndOfFile (kind_ahead us) ≡ true → us ≡ []
nothing_left [] h is = refl
nothing_left (a ∷ us) h is = elim (end_or_not a.item) [ inl e ↦ absurd (let q = sym h.0 ∙ ap is_end e in cc) | inr e ↦ absurd (let q = sym e.1 ∙ is in cc) ]

-- the tokens before the last
same_front : (ts us : List Located) (a b : Located) → ts ++ a ∷ [] ≡ us ++ b ∷ [] → ts ≡ us
same_front ts us a b h = (same_from_push ts us a b h).0

-- no tree is spelled by tokens of which one is the first faulty one
module _ {S A : Type 0} (reads : Reading S) (Tree : Reading S → List Located → A → Type 0) where
  fits_by : (before rest : List Located) (x : A) → ((a : Located) (more : List Located) → rest ≡ a ∷ more → Begins reads (Tree reads) (before ++ a ∷ []) → ⊥) → (rest ≡ [] → (y : A) → Tree reads before y → ⊥) → Tree reads (before ++ rest) x → ⊥
  fits_by before [] x no_more too_short d = too_short refl x (subst (λ us. Tree reads us x) (append-nil before) d)
  fits_by before (a ∷ more) x no_more too_short d = no_more a more refl (record { more = more; tree = x; spells = subst (λ us. Tree reads us x) (sym (append_assoc before (a ∷ []) more)) d })

  fits : (ts : List Located) (finish : Span) (x : A) (e : Fault) → FirstFaultyToken reads Tree (mk ts finish origin) e → Tree reads ts x → ⊥
  fits ts finish x e f d = fits_by f.before f.rest x f.impossible f.too_short (subst (λ us. Tree reads us x) f.front d)

module _ {S : Type 0} (reads : ScalarToken → Result S ParseError) (of_bool : Bool → S) where
  abbrev Doc : List Located → List (Definition S) → Type 0
  Doc = DocumentOf S reads of_bool

  abbrev Docs : Reading S → List Located → List (Definition S) → Type 0
  Docs = Documents S reads of_bool

  ends_there : (i j : Input) (tree : List (Definition S)) → document reads of_bool i ≡ Ok (tree, j) → only k.EndOfFile (kind_ahead j.ahead) ≡ true
  unfolding document
  ends_there i j tree r =
      let u = ran_before (definition reads of_bool i) (λ x. all definition_kinds (definition reads of_bool) (x ∷ []) >>= (λ xs. finished xs)) (tree, j) r in
      let w = ran_before (all definition_kinds (definition reads of_bool) (u.0.0 ∷ []) u.0.1) (λ xs. finished xs) (tree, j) u.2 in
      finished_end w.0.0 w.0.1 j tree w.2

  -- what is read of a text is its document
  pub read_document : (text : List ℕ) (i j : Input) (tree : List (Definition S)) → IsStart text i → document reads of_bool i ≡ Ok (tree, j) → IsDocument S reads of_bool text tree
  read_document text i j tree start r =
      let s = spelled reads Doc (document reads of_bool) (law_document reads of_bool) refl i tree j r in
      let none = nothing_left j.ahead (no_end_behind s.tokens j.ahead (subst (λ us. NoEnd us) s.front start.no_end)) (ends_there i j tree r) in
      let whole : i.ahead ≡ s.tokens = s.front ∙ ap (λ us. s.tokens ++ us) none ∙ append-nil s.tokens in
      record { tokens = i.ahead; finish = i.finish; cut = start.divided; spells = subst (λ us. Doc us tree) (sym whole) s.spells }

  start_is : (text : List ℕ) (i : Input) → IsStart text i → i ≡ mk i.ahead i.finish origin
  start_is text i start = ap (λ e. mk i.ahead i.finish e) start.end

  -- where none is read, its first fault
  read_faulty : (text : List ℕ) (i : Input) (e : Fault) → IsStart text i → document reads of_bool i ≡ Err e → IsUngrammatical S reads of_bool text e
  read_faulty text i e start r = record {
    tokens = i.ahead;
    finish = i.finish;
    cut = start.divided;
    first = subst (λ (s : Input). FirstFaultyToken reads Docs s e) (start_is text i start)
        (first_fault Docs (λ q. document q of_bool) (λ q. law_document q of_bool) refl (λ p q. twins_document p q of_bool) (of_bool true) reads i e r);
  }

  pub read_fault : (text : List ℕ) (i : Input) (e : Fault) → IsStart text i → document reads of_bool i ≡ Err e → IsRefused S reads of_bool text e
  read_fault text i e start r = inr (read_faulty text i e start r)

  -- ---- laws

  pub one_document : OneDocument S reads of_bool
  one_document text tree other a b =
      let same = lexical.one_list text _ _ a.cut b.cut in
      one_tree reads Doc (document reads of_bool) (law_document reads of_bool) refl a.tokens tree other a.spells (subst (λ us. Doc us other) (sym (same_front a.tokens b.tokens _ _ same)) b.spells)

  pub not_both : NotBoth S reads of_bool
  not_both text tree fault d (inl r) = lexical.not_both text _ r.0 d.cut r.1
  not_both text tree fault d (inr r) = let same = lexical.one_list text _ _ r.cut d.cut in
      fits reads Docs r.tokens r.finish tree fault r.first (subst (λ us. Doc us tree) (sym (same_front r.tokens d.tokens _ _ same)) d.spells)

  ungrammatical_once : (text : List ℕ) (e f : Fault) → IsUngrammatical S reads of_bool text e → IsUngrammatical S reads of_bool text f → e ≡ f
  ungrammatical_once text e f x y =
      let same = same_from_push x.tokens y.tokens _ _ (lexical.one_list text _ _ x.cut y.cut) in
      let finish : x.finish ≡ y.finish = ap (λ (z : Located). z.span) same.1 in
      let there = subst (λ zs. FirstFaultyToken reads Docs (mk zs x.finish origin) e) same.0 x.first in
      one_first_fault reads Docs (mk y.tokens y.finish origin) e f (subst (λ z. FirstFaultyToken reads Docs (mk y.tokens z origin) e) finish there) y.first

  pub one_fault : OneFault S reads of_bool
  one_fault text e f (inl x) (inl y) = x.2 ∙ ap (λ (z : Refusal). record { item = parse_error_of z.item; span = z.span }) (lexical.one_fault text x.0 y.0 x.1 y.1) ∙ sym y.2
  one_fault text e f (inl x) (inr y) = absurd (lexical.not_both text _ x.0 y.cut x.1)
  one_fault text e f (inr x) (inl y) = absurd (lexical.not_both text _ y.0 x.cut y.1)
  one_fault text e f (inr x) (inr y) = ungrammatical_once text e f x y

  of_start : (text : List ℕ) (i : Input) → IsStart text i → (o : Outcome (List (Definition S))) → document reads of_bool i ≡ o → ((tree : List (Definition S)) × IsDocument S reads of_bool text tree) ⊎ ((fault : Fault) × IsRefused S reads of_bool text fault)
  of_start text i start (Ok p) r = inl (p.0, read_document text i p.1 p.0 start r)
  of_start text i start (Err e) r = inr (e, read_fault text i e start r)

  pub document_or_refused : DocumentOrRefused S reads of_bool
  document_or_refused text = elim (lexical.either_way text) [
    | inl d ↦ let i : Input = record { ahead = d.1.front; finish = d.1.last.span; end = origin } in of_start text i (starts text d.0 d.1.front d.1.last d.1 d.1.is) (document reads of_bool i) refl
    | inr b ↦ inr (record { item = parse_error_of b.0.item; span = b.0.span }, inl (b.0, b.1, refl))
  ]

  -- ---- what a call that reads a text answers

  pub told_document : (text : List ℕ) (i j : Input) (r : Result (List (Definition S)) Fault) → IsStart text i → Reads (document reads of_bool i) r j → IfOk r (λ tree. IsDocument S reads of_bool text tree)
  told_document text i j (Ok tree) start read = read_document text i j tree start read
  told_document text i j (Err e) start read = tt

  pub told_only : (text : List ℕ) (i j : Input) (r : Result (List (Definition S)) Fault) → IsStart text i → Reads (document reads of_bool i) r j → IfOk r (λ tree. OnlyDocument S reads of_bool text tree)
  told_only text i j (Ok tree) start read = λ other d. one_document text other tree d (read_document text i j tree start read)
  told_only text i j (Err e) start read = tt

  pub told_fault : (text : List ℕ) (i j : Input) (r : Result (List (Definition S)) Fault) → IsStart text i → Reads (document reads of_bool i) r j → IfErr r (λ e. e.item ≢ Memory → IsRefused S reads of_bool text e)
  told_fault text i j (Ok tree) start read = tt
  told_fault text i j (Err e) start read = λ told. read_fault text i e start (read told)

  pub told_faulty : (text : List ℕ) (i j : Input) (r : Result (List (Definition S)) Fault) → IsStart text i → Reads (document reads of_bool i) r j → IfErr r (λ e. e.item ≢ Memory → IsUngrammatical S reads of_bool text e)
  told_faulty text i j (Ok tree) start read = tt
  told_faulty text i j (Err e) start read = λ told. read_faulty text i e start (read told)

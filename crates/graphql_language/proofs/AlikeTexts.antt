-- Texts whose tokens have the same kinds and texts have documents, or faults, that differ in places alone.
use Rattle.std.proofs.Common.{◌≡◌, ℕ, suc, inl, inr, Bool, List, [], ◌∷◌, ◌++◌, length, Result, Ok, Err, ap, ◌∙◌, sym, refl, subst, subst₂, arith}
use Rattle.std.proofs.lemmas.List.{append-nil}
use Rattle.graphql_text.specs.declared.position.Span.{Span}
use Rattle.graphql_text.specs.declared.position.SourcePosition.{SourcePosition}
use Rattle.graphql_text.specs.declared.token.ScalarToken.{ScalarToken}
use Rattle.graphql_text.specs.declared.parse_error.ParseError.{ParseError}
use Rattle.graphql_text.specs.Position.{origin}
use Rattle.graphql_text.specs.Grammar.{IsDivided}
use Rattle.graphql_lexer.proofs.GrammarLaws as lexical
use Rattle.graphql_grammar.specs.Input.{Located, Outcome}
use Rattle.graphql_grammar.specs.Ahead.{mk}
use Rattle.graphql_grammar.specs.Relations.{end_of}
use Rattle.graphql_grammar.specs.Alike.{tokens_of, SameTokens, Corresponding, SameOutcome}
use Rattle.graphql_grammar.proofs.FirstFaults.{spelled}
use Rattle.graphql_grammar.proofs.AlikeFaults.{end_at, same_split, first_fault_again}
use Rattle.graphql_tree.specs.declared.document.Definition.{Definition}
use Rattle.graphql_language.specs.ReadDocuments.{document}
use Rattle.graphql_tree.specs.Unlocated.{unlocated_document}
use Rattle.graphql_language.specs.Documents.{DocumentOf}
use Rattle.graphql_language.specs.Texts.{IsCut, Documents}
use Rattle.graphql_language.specs.Alike.{AreAlike, DifferInPlaces, RefusedAlike}
use Rattle.graphql_language.proofs.DocumentLaws.{law_document}
use Rattle.graphql_language.proofs.DocumentPlaces.{even_document}

-- ---- tokens up to the end

no_tokens : (ts : List Located) → SameTokens [] ts → ts ≡ []
no_tokens [] h = refl
no_tokens (a ∷ ts) h = absurd (cc)

end_again : (f : Span) (ts : List Located) → SameTokens (end_at f ∷ []) ts → (g : Span) × (ts ≡ end_at g ∷ [])
end_again f [] h = absurd (cc)
end_again f (a ∷ []) h = (a.span, ap (λ z. record { item = z; span = a.span } ∷ []) (let is : a.item ≡ (end_at f).item = cc in is))
end_again f (a ∷ b ∷ ts) h = absurd (cc)

-- the tokens of one text, before its end, and those of the other
record Cut (text other : List ℕ) (alike : AreAlike text other) (ts : List Located) (f : Span) : Type 0 where
  pub others : List Located
  pub finish : Span
  pub cut : IsCut other others finish
  pub same : SameTokens ts others
  pub whole : alike.tokens ≡ ts ++ end_at f ∷ []
  pub whole_other : alike.others ≡ others ++ end_at finish ∷ []

cut_again : (text other : List ℕ) (alike : AreAlike text other) (ts : List Located) (f : Span) → IsCut text ts f → Cut text other alike ts f
cut_again text other alike ts f cut =
    let whole = lexical.one_list text alike.tokens (ts ++ end_at f ∷ []) alike.divided cut in
    let c = same_split ts (end_at f ∷ []) alike.others (sym (ap tokens_of whole) ∙ alike.same) in
    let last = end_again f c.1 c.4 in
    let whole_other : alike.others ≡ c.0 ++ end_at last.0 ∷ [] = c.2 ∙ ap (λ z. c.0 ++ z) last.1 in
    record { others = c.0; finish = last.0; cut = subst (λ us. IsDivided other us) whole_other alike.divided_other; same = c.3; whole = whole; whole_other = whole_other }

module _ {S : Type 0} (reads : ScalarToken → Result S ParseError) (of_bool : Bool → S) where
  abbrev Doc : List Located → List (Definition S) → Type 0
  Doc = DocumentOf S reads of_bool

  -- a document of these tokens, which differs in places alone
  abbrev SpellsAgain : List Located → List (Definition S) → Type 0
  SpellsAgain us x = (y : List (Definition S)) × Doc us y × (unlocated_document y ≡ unlocated_document x)

  read_again : (us : List Located) (x : List (Definition S)) (f : Span) (e : SourcePosition) (o : Outcome (List (Definition S))) → document reads of_bool (mk us f origin) ≡ o
      → SameOutcome unlocated_document (Ok (x, mk [] f e)) o → SpellsAgain us x
  read_again us x f e (Ok p) r h =
      let s = spelled reads Doc (document reads of_bool) (law_document reads of_bool) refl (mk us f origin) p.0 p.1 r in
      let whole : us ≡ s.tokens = s.front ∙ ap (λ ws. s.tokens ++ ws) (no_tokens p.1.ahead h.1) ∙ append-nil s.tokens in
      (p.0, subst (λ ws. Doc ws p.0) (sym whole) s.spells, sym h.0)
  read_again us x f e (Err d) r h = absurd h

  -- what some tokens spell the same tokens spell elsewhere, places aside
  document_again : (ts us : List Located) (x : List (Definition S)) → SameTokens ts us → Doc ts x → SpellsAgain us x
  document_again ts us x h d = let f : Span = record { start = origin; end = origin } in
      let read = (law_document reads of_bool (suc (length ts))).reads ts x d (omega arith) [] refl f origin in
      let same = (even_document reads of_bool).at (mk (ts ++ []) f origin) (mk us f origin) (ap tokens_of (append-nil ts) ∙ h) in
      read_again us x f (end_of origin ts) (document reads of_bool (mk us f origin)) refl (subst (λ o. SameOutcome unlocated_document o (document reads of_bool (mk us f origin))) read same)

module _ {S : Type 0} (reads : ScalarToken → Result S ParseError) (of_bool : Bool → S) where
  pub differ_in_places : DifferInPlaces S reads of_bool
  differ_in_places text other alike tree d = let c = cut_again text other alike d.tokens d.finish d.cut in let y = document_again reads of_bool d.tokens c.others tree c.same d.spells in
      (y.0, record { tokens = c.others; finish = c.finish; cut = c.cut; spells = y.1 }, y.2)

  pub refused_alike : RefusedAlike S reads of_bool
  refused_alike text other alike fault (inl r) = absurd (lexical.not_both text alike.tokens r.0 alike.divided r.1)
  refused_alike text other alike fault (inr r) = let c = cut_again text other alike r.tokens r.finish r.cut in
      let d = first_fault_again reads (Documents S reads of_bool) (λ q ts us x h spells. let y = document_again q of_bool ts us x h spells in (y.0, y.1)) r.tokens c.others r.finish c.finish origin origin fault c.same r.first in
      (d.0, inr (record { tokens = c.others; finish = c.finish; cut = c.cut; first = d.1 }), d.2, subst₂ (λ ts us. Corresponding ts us fault.span d.0.span) (sym c.whole) (sym c.whole_other) d.3)

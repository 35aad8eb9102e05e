-- The steps of printing: what is left before and after.
use Rattle.std.proofs.Common.{◌≡◌, refl, sym, ◌∙◌, ap, Bool, true, false, List, [], ◌∷◌, ◌++◌, append_assoc}
use Rattle.graphql_names.specs.Names.{Bytes}
use Rattle.graphql_text.specs.declared.token.Token.{Token}
use Rattle.graphql_text.specs.declared.token.Token.TheVariants as t
use Rattle.graphql_scalars.specs.ScalarAnswers.{ScalarAnswer}
use Rattle.graphql_tree.specs.declared.selection.Selection.{Selection}
use Rattle.graphql_written_out.specs.Trees.{Tree, none, is_empty}
use Rattle.graphql_plain_tree.specs.Plain.{plain, size}
use Rattle.graphql_plain_tree.specs.PlainOperations.{variables_used}
use Rattle.graphql_plain_tree.specs.StandIns.{skip_true}
use Rattle.graphql_plain_tree.proofs.FilledSets.{same-empty}
use Rattle.graphql_plain_text.specs.PlainTexts.{spaced}
use Rattle.graphql_plain_text.specs.TreeTokens.{in_braces, in_braces_unless}
use Rattle.graphql_plain_print.specs.declared.plan.Plan.{Plan}
use Rattle.graphql_plain_print.specs.declared.printing.Frame.{Frame}
use Rattle.graphql_plain_print.specs.declared.written.Written.{Written}
use Rattle.graphql_plain_print.specs.declared.written.Written.TheVariants as form
use Rattle.graphql_plain_print.specs.Alone.{alone_tokens, alone_uses, set_tokens}
use Rattle.graphql_plain_print.specs.Frames.{Prints, frame_tree, stack_tokens, stack_uses}
use Rattle.graphql_plain_print.specs.Leads.{leads, out_by}
use Rattle.graphql_plain_print.specs.Plans.{drops_by, plain_by, set_by, tokens_by, written_by}
use Rattle.graphql_plain_print.proofs.FrameLemmas.{tokens-push, uses-push, first-tokens, first-uses, out-set, kept-tokens, kept-uses}
use Rattle.graphql_plain_print.proofs.TokenLemmas.{printed}

module _ {S : Type 0} (answer : S → ScalarAnswer) (of_bool : Bool → S) (plan : Plan S) where
  abbrev tokens : List (Frame S) → List Token
  tokens = stack_tokens answer of_bool plan

  abbrev uses : List (Frame S) → List Bytes
  uses = stack_uses answer of_bool plan

  abbrev set : Bool → Tree S → Tree S
  set = set_by answer of_bool plan

  abbrev close : List Token
  close = t.CurlyClose ∷ []

  abbrev plain_tree : Tree S → Tree S
  plain_tree = plain (drops_by answer plan) (skip_true of_bool)

  -- ---- a set opens

  pub open-text : (b0 b1 : Bytes) (new old : List (Frame S)) (f : Frame S) (x : Tree S) → b1 ≡ b0 ++ spaced (t.CurlyOpen ∷ []) → new ≡ old ++ f ∷ []
      → frame_tree answer of_bool plan f ≡ x → Prints answer of_bool plan (in_braces (tokens_by plan x)) b0 old b1 new
  open-text b0 b1 new old f x p q r =
      printed b0 b1 (t.CurlyOpen ∷ []) (tokens new) p
      ∙ ap (λ l. b0 ++ spaced (t.CurlyOpen ∷ l)) (ap tokens q ∙ tokens-push answer of_bool plan old f ∙ ap (λ z. (tokens_by plan z ++ close) ++ tokens old) r)

  -- of a set in which nothing is written
  pub empty-tokens : (s : List (Selection S)) → written_by plan s ≡ none → set_tokens answer of_bool plan s ≡ []
  empty-tokens s e = ap (λ x. in_braces_unless (is_empty (plain_tree x)) (tokens_by plan (plain_tree x))) e

  pub empty-uses : (s : List (Selection S)) → written_by plan s ≡ none → variables_used (plain_by answer of_bool plan s) ≡ []
  empty-uses s e = ap (λ x. variables_used (plain_tree x)) e

  pub empty-size : (s : List (Selection S)) → written_by plan s ≡ none → size (plain_by answer of_bool plan s) ≡ 0
  empty-size s e = ap (λ x. size (plain_tree x)) e

  some-leads : (w : Written S) (rest : Tree S) → is_empty (leads plan w rest) ≡ false
  some-leads (form.Field x) rest = refl
  some-leads (form.Inline on directives s) rest = refl

  -- of a set in which something is
  pub some-tokens : (s : List (Selection S)) (w : Written S) (rest : Tree S) → written_by plan s ≡ leads plan w rest
      → set_tokens answer of_bool plan s ≡ in_braces (tokens_by plan (plain_by answer of_bool plan s))
  some-tokens s w rest e =
      ap (λ q. in_braces_unless q (tokens_by plan (plain_by answer of_bool plan s)))
      (same-empty (drops_by answer plan) (skip_true of_bool) (written_by plan s) ∙ ap is_empty e ∙ some-leads w rest)

  -- ---- a set goes on

  -- it is over
  pub end-text : (b0 b1 : Bytes) (s : List Token) (q : Bool) (rest : Tree S) → rest ≡ none → b1 ≡ b0 ++ spaced close
      → b1 ++ spaced s ≡ b0 ++ spaced ((tokens_by plan (set q rest) ++ close) ++ s)
  end-text b0 b1 s q rest e p = printed b0 b1 close s p ∙ ap (λ l. b0 ++ spaced ((tokens_by plan (set q l) ++ close) ++ s)) (sym e)

  -- the next is kept
  pub kept-text : (b0 b1 : Bytes) (new mid old : List (Frame S)) (w : Written S) (rest behind : Tree S) (f : Frame S) → rest ≡ leads plan w behind
      → out_by answer plan w ≡ false → frame_tree answer of_bool plan f ≡ set false behind → mid ≡ old ++ f ∷ []
      → Prints answer of_bool plan (alone_tokens answer of_bool plan false w) b0 mid b1 new
      → Prints answer of_bool plan (tokens_by plan (set false rest) ++ close) b0 old b1 new
  kept-text b0 b1 new mid old w rest behind f e out tree pushed h =
      let alone = alone_tokens answer of_bool plan false w in
      let more = tokens_by plan (set false behind) in
      let stack : tokens mid ≡ (more ++ close) ++ tokens old = ap tokens pushed ∙ tokens-push answer of_bool plan old f ∙ ap (λ z. (tokens_by plan z ++ close) ++ tokens old) tree in
      let whole : tokens_by plan (set false rest) ≡ alone ++ more = ap (λ z. tokens_by plan (set false z)) e ∙ kept-tokens answer of_bool plan w behind out in
      h
      ∙ ap (λ l. b0 ++ spaced l)
      (ap (λ l. alone ++ l) stack ∙ sym (append_assoc alone (more ++ close) (tokens old)) ∙ ap (λ l. l ++ tokens old) (sym (append_assoc alone more close))
      ∙ ap (λ l. (l ++ close) ++ tokens old) (sym whole))

  pub kept-names : (mid old : List (Frame S)) (w : Written S) (rest behind : Tree S) (f : Frame S) → rest ≡ leads plan w behind
      → out_by answer plan w ≡ false → frame_tree answer of_bool plan f ≡ set false behind → mid ≡ old ++ f ∷ []
      → alone_uses answer of_bool plan w ++ uses mid ≡ variables_used (set false rest) ++ uses old
  kept-names mid old w rest behind f e out tree pushed =
      let alone = alone_uses answer of_bool plan w in
      let more = variables_used (set false behind) in
      let stack : uses mid ≡ more ++ uses old = ap uses pushed ∙ uses-push answer of_bool plan old f ∙ ap (λ z. variables_used z ++ uses old) tree in
      let whole : variables_used (set false rest) ≡ alone ++ more = ap (λ z. variables_used (set false z)) e ∙ kept-uses answer of_bool plan w behind out in
      ap (λ l. alone ++ l) stack ∙ sym (append_assoc alone more (uses old)) ∙ ap (λ l. l ++ uses old) (sym whole)

  -- the next is left out
  pub out-text : (b0 : Bytes) (mid old : List (Frame S)) (w : Written S) (rest behind : Tree S) (f : Frame S) → rest ≡ leads plan w behind
      → out_by answer plan w ≡ true → frame_tree answer of_bool plan f ≡ set false behind → mid ≡ old ++ f ∷ []
      → Prints answer of_bool plan (tokens_by plan (set false rest) ++ close) b0 old b0 mid
  out-text b0 mid old w rest behind f e out tree pushed =
      ap (λ l. b0 ++ spaced l)
      (ap tokens pushed ∙ tokens-push answer of_bool plan old f
      ∙ ap (λ z. (tokens_by plan z ++ close) ++ tokens old) (tree ∙ sym (ap (set false) e ∙ out-set answer of_bool plan w behind out)))

  pub out-names : (mid old : List (Frame S)) (w : Written S) (rest behind : Tree S) (f : Frame S) → rest ≡ leads plan w behind
      → out_by answer plan w ≡ true → frame_tree answer of_bool plan f ≡ set false behind → mid ≡ old ++ f ∷ []
      → uses mid ≡ variables_used (set false rest) ++ uses old
  out-names mid old w rest behind f e out tree pushed =
      ap uses pushed ∙ uses-push answer of_bool plan old f
      ∙ ap (λ z. variables_used z ++ uses old) (tree ∙ sym (ap (set false) e ∙ out-set answer of_bool plan w behind out))

  -- the first stands for all
  pub first-text : (b0 b1 : Bytes) (new mid old : List (Frame S)) (w : Written S) (rest behind : Tree S) (f : Frame S) → rest ≡ leads plan w behind
      → frame_tree answer of_bool plan f ≡ none → mid ≡ old ++ f ∷ []
      → Prints answer of_bool plan (alone_tokens answer of_bool plan true w) b0 mid b1 new
      → Prints answer of_bool plan (tokens_by plan (set true rest) ++ close) b0 old b1 new
  first-text b0 b1 new mid old w rest behind f e tree pushed h =
      let alone = alone_tokens answer of_bool plan true w in
      let stack : tokens mid ≡ close ++ tokens old = ap tokens pushed ∙ tokens-push answer of_bool plan old f ∙ ap (λ z. (tokens_by plan z ++ close) ++ tokens old) tree in
      let whole : tokens_by plan (set true rest) ≡ alone = ap (λ z. tokens_by plan (set true z)) e ∙ first-tokens answer of_bool plan w behind in
      h
      ∙ ap (λ l. b0 ++ spaced l)
      (ap (λ l. alone ++ l) stack ∙ sym (append_assoc alone close (tokens old)) ∙ ap (λ l. (l ++ close) ++ tokens old) (sym whole))

  pub first-names : (mid old : List (Frame S)) (w : Written S) (rest behind : Tree S) (f : Frame S) → rest ≡ leads plan w behind
      → frame_tree answer of_bool plan f ≡ none → mid ≡ old ++ f ∷ []
      → alone_uses answer of_bool plan w ++ uses mid ≡ variables_used (set true rest) ++ uses old
  first-names mid old w rest behind f e tree pushed =
      let stack : uses mid ≡ uses old = ap uses pushed ∙ uses-push answer of_bool plan old f ∙ ap (λ z. variables_used z ++ uses old) tree in
      let whole : variables_used (set true rest) ≡ alone_uses answer of_bool plan w = ap (λ z. variables_used (set true z)) e ∙ first-uses answer of_bool plan w behind in
      ap (λ l. alone_uses answer of_bool plan w ++ l) stack ∙ ap (λ l. l ++ uses old) (sym whole)

use Rattle.std.proofs.Common.{refl, sym, subst}
use Rattle.graphql_stores.specs.Keeping.{KeepsNoMore}
use Rattle.graphql_stores.proofs.Adding.{keeps-at-most}
use Rattle.graphql_stores.proofs.kept_texts.KeptTexts.keep.Goals.{then-saturating_add-self, else-saturating_add-self}
use Rattle.graphql_stores.proofs.kept_texts.KeptTexts.keep.Goals as goal

pub returns : goal.returns
returns c =
    let before : KeepsNoMore c.args.self.now c.if-saturating_add-self.self = elim c.if-saturating_add-self.branch [
      | then-saturating_add-self w ↦ subst (λ s. KeepsNoMore c.args.self.now s) (sym w.self-is) w.age.ensures
      | else-saturating_add-self w ↦ subst (λ s. KeepsNoMore c.args.self.now s) (sym w.self-is) (λ k t h. h)
    ] in
    keeps-at-most c.args.self.now c.if-saturating_add-self.self
    (record {
      younger = c.put.new.texts;
      older = c.if-saturating_add-self.self.older;
      young_bytes = c.saturating_add-self.result;
      half = c.if-saturating_add-self.self.half;
    }) c.args.key.now c.args.text.now before c.put.ensures refl

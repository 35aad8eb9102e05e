-- A plain text, asked again, has itself as its plain text.
use Rattle.std.proofs.Common.{◌≤◌, sym, subst}
use Rattle.std.specs.Str.{chars}
use Rattle.graphql_schema.specs.Declarations.{declarations_of}
use Rattle.graphql_schema.specs.declared.root_node.RootNode.{RootNode}
use Rattle.graphql_rules_document.proofs.KnownFieldTypes.{field-types-are-known}
use Rattle.graphql_plain_validity.proofs.ValidTexts.{full}
use Rattle.graphql_schema.specs.Scalars.{Scalars}
use Rattle.graphql_requests.proofs.ChosenOperations.{chosen-in}
use Rattle.graphql_plain_requests.specs.Laws.{PlainAreNotRefused, PlainTextsAreAccepted, PlainTextsAreOne}
use Rattle.graphql_plain_requests.specs.PlainRequests.{IsPlainTextWithin, asked_at, plain_of, values_for}
use Rattle.graphql_plain_requests.specs.Laws.{IsPlainStill, PlainTextStays}
use Rattle.graphql_plain_requests.specs.Laws.{PlainRequestsStay}
use Rattle.graphql_plain_requests.proofs.PlainDocuments.{root-known}

module _ {S C : Type 0} (s : Scalars S C) (root : RootNode S C) where
  pub plain-requests-stay : PlainTextsAreAccepted s root → PlainTextsAreOne s → PlainAreNotRefused s
      → PlainTextStays S s.reads s.of_bool s.answer → PlainRequestsStay s root
  plain-requests-stay accepted one not_refused stays takes source name given limit bytes utf8 p =
      let t = p.plain in
      let a = asked_at root (chars source) name given in
      let x = t.executable in
      let o = t.operation in
      let there = accepted takes source name given bytes utf8 t in
      let among = chosen-in name t.document o x.ready.chosen in
      let filled = full s (declarations_of root.schema)
      (field-types-are-known (declarations_of root.schema) root.schema.faultless) t.document
      x.read.valid.valid.no_fault (chars source) x.read.spelled o
      among (root-known root.schema o.item.operation_type x.ready.root x.ready.served) in
      let stays_here = stays source t.tokens t.finish t.document o (values_for s a o.item) utf8
      t.cut x.read.spelled among filled.0 filled.1 in
      let still : IsPlainStill S s.reads s.of_bool s.answer bytes (plain_of s a t.document o.item) =
      subst (λ b. IsPlainStill S s.reads s.of_bool s.answer b (plain_of s a t.document o.item))
      (sym t.is) stays_here in
      let read = there.accepted.read.spelled in
      let both = still.still read.tokens read.finish there.again there.other
      (values_for s (asked_at root (chars bytes) name given) there.other.item) read.cut read
      (chosen-in name there.again there.other there.accepted.ready.chosen) in
      let b = asked_at root (chars bytes) name given in
      let own : IsPlainTextWithin s b limit bytes = record {
        plain = record {
          document = there.again;
          operation = there.other;
          executable = there.accepted;
          tokens = read.tokens;
          finish = read.finish;
          cut = read.cut;
          is = sym both.0;
        };
        fits = subst (λ n. n ≤ limit) (sym both.1) p.fits;
      } in
      record {
        is = own;
        only = λ other q. one b other bytes q own.plain;
        not_refused = λ cmp why h. not_refused b limit bytes cmp why own h;
      }

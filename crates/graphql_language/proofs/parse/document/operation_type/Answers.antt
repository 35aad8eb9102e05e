use Rattle.std.proofs.Common.{sym, ap, ◌∙◌, refl, Err, arith}
use Rattle.graphql_grammar.specs.declared.kind.Kind.TheVariants as k
use Rattle.graphql_language.proofs.DocumentParts.{type_read, type_refused}
use Rattle.graphql_language.proofs.parse.document.operation_type.Goals as goal

pub returns-in-Query-clause-reads : goal.returns-in-Query-clause-reads
returns-in-Query-clause-reads c =
    type_read c.args.cursor.now c.advance.new.self k.Query (sym c.kind.ensures ∙ c.in-Query.is) refl c.advance.ensures.next

pub returns-in-Mutation-clause-reads : goal.returns-in-Mutation-clause-reads
returns-in-Mutation-clause-reads c =
    type_read c.args.cursor.now c.advance-in-Mutation.new.self k.Mutation (sym c.kind.ensures ∙ c.in-Mutation.is) refl c.advance-in-Mutation.ensures.next

pub returns-in-Subscription-clause-reads : goal.returns-in-Subscription-clause-reads
returns-in-Subscription-clause-reads c =
    type_read c.args.cursor.now c.advance-in-Subscription.new.self k.Subscription (sym c.kind.ensures ∙ c.in-Subscription.is) refl c.advance-in-Subscription.ensures.next

pub returns-in_default : goal.returns-in_default
returns-in_default c =
    let i = c.args.cursor.now in
    record {
      reads = λ told. type_refused i (λ e. c.in_default.not-Query (c.kind.ensures ∙ e)) (λ e. c.in_default.not-Mutation (c.kind.ensures ∙ e)) (λ e. c.in_default.not-Subscription (c.kind.ensures ∙ e)) ∙ ap Err (c.refuse.ensures told);
      no_more = omega arith;
    }

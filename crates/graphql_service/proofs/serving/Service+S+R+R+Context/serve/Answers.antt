use Rattle.std.proofs.Common.{sym, ◌∙◌}
use Rattle.std.proofs.lemmas.Bool.{false≢true}
use Rattle.graphql_service.proofs.serving.Service+S+R+R+Context.serve.Goals as goal

pub serve_keeping-served-requires : goal.serve_keeping-served-requires
serve_keeping-served-requires g c = λ text kept document spelled. absurd (false≢true (sym (c.new-begun.ensures text) ∙ kept))

pub returns-clause-parts : goal.returns-clause-parts
returns-clause-parts g c =
    let parts = c.serve_keeping-served.ensures.parts in
    record {
      root_node = parts.root_node;
      resolver = parts.resolver;
      context = parts.context;
      line_limit = parts.line_limit;
      selection_limit = parts.selection_limit;
    }

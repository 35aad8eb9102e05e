use Rattle.library.proofs.resolver.written.Goals as goal

pub returns : goal.returns
returns c = c.first.ensures _ _ c.count_or_null-2.ensures (c.skip.ensures _ _ c.count_or_null.ensures c.books_by.ensures)

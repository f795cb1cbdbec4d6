use Rattle.book.proofs.book.Book.answer.Goals as goal

pub returns-in-Quote : goal.returns-in-Quote
returns-in-Quote g c = rw c.in-Quote.is c.quote.ensures

use Rattle.std.proofs.Common.{sym, arith}
use Rattle.calls.proofs.Numbering.{page_number_of, no_page_number}
use Rattle.calls.proofs.page_number.PageNumber.new.Goals as goal

pub returns-then-number-lt-NO_NUMBER : goal.returns-then-number-lt-NO_NUMBER
returns-then-number-lt-NO_NUMBER c = sym (page_number_of _)

pub returns-else-number-lt-NO_NUMBER : goal.returns-else-number-lt-NO_NUMBER
returns-else-number-lt-NO_NUMBER c = sym (no_page_number c.args.number (omega arith))

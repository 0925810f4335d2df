-- How long the text of an outcome can be.
use Rattle.std.proofs.Common.{◌≤◌, length, Ok, Err, Result, arith}
use Rattle.calls.specs.declared.answer.Answer.{Answer}
use Rattle.calls.specs.declared.answer.Answer.TheVariants.{Done, Value, Committed, Obtained, Delivered, PutDown, Cut}
use Rattle.store.specs.declared.denial.Denial.{Denial}
use Rattle.store.specs.declared.denial.Denial.TheVariants.{Refused, NotBuilt}
use Rattle.frames.specs.Answering.{outcome_text}

pub outcome_short : (o : Result Answer Denial) → length (outcome_text o) ≤ 10
outcome_short (Ok Done) = omega arith
outcome_short (Ok (Value v)) = omega arith
outcome_short (Ok (Committed n)) = omega arith
outcome_short (Ok (Obtained source supplier)) = omega arith
outcome_short (Ok (Delivered objects aborted)) = omega arith
outcome_short (Ok (PutDown cut)) = omega arith
outcome_short (Ok (Cut entries)) = omega arith
outcome_short (Err (Refused r)) = omega arith
outcome_short (Err NotBuilt) = omega arith

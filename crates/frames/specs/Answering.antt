-- One answer for each line.
use Rattle.std.specs.Prelude.{ℕ, List, [], ◌∷◌, ◌++◌, Ok, Err, Result, Some, None, Option}
use Rattle.calls.specs.declared.answer.Answer.{Answer}
use Rattle.calls.specs.declared.call.Call.{Call}
use Rattle.calls.specs.declared.reason.Reason.TheVariants.{NotAFrame}
use Rattle.calls.specs.Answers.{answer_bytes}
use Rattle.calls.specs.Refusals.{nowhere, refusal, refusal_bytes}
use Rattle.store.specs.declared.denial.Denial.{Denial}
use Rattle.store.specs.declared.denial.Denial.TheVariants.{Refused, NotBuilt}
use Rattle.store.specs.declared.session.Session.{Session}
use Rattle.store.specs.Sessions.{fresh, outcome, after}
use Rattle.text.specs.Hex.{hex}
use Rattle.text.specs.Lines.{lines_of}
use Rattle.codec.specs.Decoding.{decoded}

-- what is not built yet is answered by two dots, which is no answer of the protocol
abbrev pub outcome_text : Result Answer Denial → List ℕ
outcome_text (Ok a) = hex (answer_bytes a)
outcome_text (Err (Refused r)) = hex (refusal_bytes r)
outcome_text (Err NotBuilt) = 46 ∷ 46 ∷ []

-- what becomes of a line, by the call whose frame it is, if it is one
abbrev pub read_outcome : Session → Option Call → Result Answer Denial
read_outcome s None = Err (Refused (refusal NotAFrame nowhere))
read_outcome s (Some c) = outcome s c

abbrev pub read_after : Session → Option Call → Session
read_after s None = s
read_after s (Some c) = after s c

abbrev pub answer_text : Session → List ℕ → List ℕ
answer_text s line = outcome_text (read_outcome s (decoded line))

abbrev pub session_after : Session → List ℕ → Session
session_after s line = read_after s (decoded line)

-- the answers to the lines, in their order
abbrev pub answers : Session → List (List ℕ) → List (List ℕ)
answers s [] = []
answers s (l ∷ ls) = answer_text s l ∷ answers (session_after s l) ls

-- a newline behind each line
abbrev pub ended : List (List ℕ) → List ℕ
ended [] = []
ended (l ∷ ls) = l ++ 10 ∷ ended ls

-- the output of a whole input
abbrev pub answered : List ℕ → List ℕ
answered input = ended (answers fresh (lines_of input))

-- The bytes of each answer.
use Rattle.std.specs.Prelude.{ℕ, ◌/◌, ◌%◌, Bool, cond, List, [], ◌∷◌}
use Rattle.calls.specs.declared.answer.Source.{Source}
use Rattle.calls.specs.declared.answer.Source.TheVariants.{OwnCopy, CompleteCopy, ReconstructedCopy, Disk}
use Rattle.calls.specs.declared.answer.Answer.{Answer}
use Rattle.calls.specs.declared.answer.Answer.TheVariants.{Done, Value, Committed, Obtained, Delivered, PutDown, Cut}
use Rattle.calls.specs.Refusals.{byte_or_255}

-- the four bytes of a number of 32 bits, the highest first
abbrev pub word_bytes : ℕ → List ℕ
word_bytes v = v / 16777216 % 256 ∷ v / 65536 % 256 ∷ v / 256 % 256 ∷ v % 256 ∷ []

abbrev pub source_number : Source → ℕ
source_number OwnCopy = 0
source_number CompleteCopy = 1
source_number ReconstructedCopy = 2
source_number Disk = 3

abbrev pub flag : Bool → ℕ
flag b = cond b 1 0

abbrev pub answer_bytes : Answer → List ℕ
answer_bytes Done = 0 ∷ []
answer_bytes (Value v) = 0 ∷ word_bytes v
answer_bytes (Committed n) = 0 ∷ word_bytes n
answer_bytes (Obtained source supplier) = 0 ∷ source_number source ∷ byte_or_255 supplier ∷ []
answer_bytes (Delivered objects aborted) = 0 ∷ objects ∷ flag aborted ∷ []
answer_bytes (PutDown cut) = 0 ∷ flag cut ∷ []
answer_bytes (Cut entries) = 0 ∷ entries ∷ []

-- The call of a line.
use Rattle.std.specs.Prelude.{ℕ, ◌*◌, Bool, false, cond, List, [], ◌∷◌, length, Some, None, Option, ◌==◌, slice_index, slice_index_or}
use Rattle.calls.specs.declared.call.Call.{Call}
use Rattle.calls.specs.declared.call.Call.TheVariants.{
  Making,
  Begin,
  Read,
  Write,
  Commit,
  Cancel,
  Fetch,
  Evict,
  Drop,
  Deliver,
  TakeUp,
  PutDown,
  LetGo,
  Restart,
  Cut,
}
use Rattle.calls.specs.PageNumbers.{page_number}
use Rattle.text.specs.Hex.{byte_at, word_at}
use Rattle.text.specs.Optional.{of_1, of_2, of_3, of_4}

-- how many bytes the frame of each opcode has, from opcode 0 on
abbrev pub frame_sizes : List ℕ
frame_sizes = 5 ∷ 2 ∷ 4 ∷ 8 ∷ 2 ∷ 2 ∷ 3 ∷ 3 ∷ 4 ∷ 3 ∷ 2 ∷ 2 ∷ 1 ∷ 2 ∷ 1 ∷ []

-- no frame has another opcode
abbrev pub frame_size : ℕ → ℕ
frame_size op = slice_index frame_sizes op

-- what the bytes behind each opcode mean, from opcode 0 on
abbrev pub calls_in : List ℕ → List (Option Call)
calls_in line =
    of_4 (λ n b k bad. Making n b k (page_number bad)) (byte_at line 1) (byte_at line 2) (byte_at line 3) (byte_at line 4)
    ∷ of_1 Begin (byte_at line 1)
    ∷ of_3 Read (byte_at line 1) (byte_at line 2) (byte_at line 3)
    ∷ of_4 Write (byte_at line 1) (byte_at line 2) (byte_at line 3) (word_at line 4)
    ∷ of_1 Commit (byte_at line 1)
    ∷ of_1 Cancel (byte_at line 1)
    ∷ of_2 Fetch (byte_at line 1) (byte_at line 2)
    ∷ of_2 Evict (byte_at line 1) (byte_at line 2)
    ∷ of_3 Drop (byte_at line 1) (byte_at line 2) (byte_at line 3)
    ∷ of_2 Deliver (byte_at line 1) (byte_at line 2)
    ∷ of_1 TakeUp (byte_at line 1)
    ∷ of_1 PutDown (byte_at line 1)
    ∷ Some LetGo
    ∷ of_1 Restart (byte_at line 1)
    ∷ Some Cut
    ∷ []

-- does the line have the length of this opcode's frame?
abbrev pub fits_opcode : List ℕ → Option ℕ → Bool
fits_opcode line None = false
fits_opcode line (Some op) = length line == 2 * frame_size op

abbrev pub has_shape : List ℕ → Bool
has_shape line = fits_opcode line (byte_at line 0)

abbrev pub by_opcode : List ℕ → Option ℕ → Option Call
by_opcode line None = None
by_opcode line (Some op) = slice_index_or (calls_in line) op None

-- the call whose frame the line is, if it is one
abbrev pub decoded : List ℕ → Option Call
decoded line = cond (has_shape line) (by_opcode line (byte_at line 0)) None

-- The numbers of a frame's fields are those of their places in the line.
use Rattle.std.proofs.Common.{◌≡◌, ℕ, ◌+◌, ◌*◌, ◌<◌, ◌≤◌, List, length, get_or, None, refl, ◌∙◌, arith}
use Rattle.std.proofs.lemmas.Grind.{common_steps}
use native.Mathlib.Numerals.{unary_clauses}
use Rattle.std.proofs.lemmas.Bool.Decides.{nat_tests}
use Rattle.codec.specs.declared.raw.Run.{Run}
use Rattle.text.specs.Hex.{byte_value, byte_at, word_at}
use Rattle.codec.specs.Decoding.{frame_size, calls_in, decoded}
use Rattle.codec.specs.Raw.{RunOf, Shape, byte_of, word_of}

-- byte j of a run of n bytes of the line, from byte i on
byte_in : (line : List ℕ) (i n : ℕ) (r : Run) → RunOf line i n r → (j : ℕ) → j < n → byte_at r.digits.now j ≡ byte_at line (i + j)
byte_in line i n r at j h =
    let high : get_or r.digits.now (2 * j) 0 ≡ get_or line (2 * (i + j)) 0 = rw at.0 (grind (arith, common_steps)) in
    let low : get_or r.digits.now (2 * j + 1) 0 ≡ get_or line (2 * (i + j) + 1) 0 = rw at.0 (grind (arith, common_steps)) in
    λ t. byte_value (high t) (low t)

run_length : (line : List ℕ) (i n : ℕ) (r : Run) → RunOf line i n r → 2 * i + 2 * n ≤ length line → length r.digits.now ≡ 2 * n
run_length line i n r at h = rw at.0 (grind (arith, common_steps))

-- the number of a field is that of its place in the line
pub byte_joins : (line : List ℕ) (i : ℕ) (r : Run) → RunOf line i 1 r → 2 * i + 2 ≤ length line → byte_of r ≡ byte_at line i
byte_joins line i r at h =
    rw (run_length line i 1 r at h) (byte_in line i 1 r at 0 (omega arith) ∙ simp unary_clauses)

pub word_joins : (line : List ℕ) (r : Run) → RunOf line 4 4 r → 16 ≤ length line → word_of r ≡ word_at line 4
word_joins line r at h =
    let whole = λ (j : ℕ) (k : j < 4). byte_in line 4 4 r at j k in
    rw (run_length line 4 4 r at h, whole 0 (omega arith), whole 1 (omega arith), whole 2 (omega arith), whole 3 (omega arith)) refl

-- a line with the opcode and the length of a frame has the call of the opcode
pub shaped : (line : List ℕ) (op : ℕ) → Shape line op (frame_size op) → decoded line ≡ get_or (calls_in line) op None
shaped line op s = rw (s.0, s.1) (grind (arith, nat_tests))

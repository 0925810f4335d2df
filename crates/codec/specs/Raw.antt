-- A line, cut into the fields of a frame.
use Rattle.std.specs.Prelude.{◌≡◌, ℕ, ◌*◌, cond, List, length, take, drop, Some, None, Option, ◌==◌}
use Rattle.calls.specs.declared.call.Call.{Call}
use Rattle.calls.specs.declared.call.Call.TheVariants as call
use Rattle.calls.specs.PageNumbers.{page_number}
use Rattle.codec.specs.declared.raw.Run.{Run}
use Rattle.codec.specs.declared.raw.RawFrame.{RawFrame}
use Rattle.codec.specs.declared.raw.RawFrame.TheVariants.{
  Making,
  Begin,
  Read,
  Write,
  Commit,
  Cancel,
  Fetch,
  Evict,
  Drop,
  Deliver,
  TakeUp,
  PutDown,
  LetGo,
  Restart,
  Cut,
}
use Rattle.text.specs.Hex.{byte_at, word_at}
use Rattle.text.specs.Optional.{of_1, of_2, of_3, of_4}

-- the digits of n bytes of the line from byte i on, and their place
abbrev pub RunOf : List ℕ → ℕ → ℕ → Run → Type 0
RunOf line i n r = (r.digits.now ≡ take (2 * n) (drop (2 * i) line)) × (r.place ≡ 2 * i)

-- the line has this opcode and n bytes
abbrev pub Shape : List ℕ → ℕ → ℕ → Type 0
Shape line op n = (byte_at line 0 ≡ Some op) × (length line ≡ 2 * n)

-- the frame's fields are parts of the line, which has the frame's opcode and length
abbrev pub CutFrom : List ℕ → RawFrame → Type 0
CutFrom line (Making n b k bad) = Shape line 0 5 × RunOf line 1 1 n × RunOf line 2 1 b × RunOf line 3 1 k × RunOf line 4 1 bad
CutFrom line (Begin b) = Shape line 1 2 × RunOf line 1 1 b
CutFrom line (Read b p o) = Shape line 2 4 × RunOf line 1 1 b × RunOf line 2 1 p × RunOf line 3 1 o
CutFrom line (Write b p o v) = Shape line 3 8 × RunOf line 1 1 b × RunOf line 2 1 p × RunOf line 3 1 o × RunOf line 4 4 v
CutFrom line (Commit b) = Shape line 4 2 × RunOf line 1 1 b
CutFrom line (Cancel b) = Shape line 5 2 × RunOf line 1 1 b
CutFrom line (Fetch b p) = Shape line 6 3 × RunOf line 1 1 b × RunOf line 2 1 p
CutFrom line (Evict b p) = Shape line 7 3 × RunOf line 1 1 b × RunOf line 2 1 p
CutFrom line (Drop b p o) = Shape line 8 4 × RunOf line 1 1 b × RunOf line 2 1 p × RunOf line 3 1 o
CutFrom line (Deliver b p) = Shape line 9 3 × RunOf line 1 1 b × RunOf line 2 1 p
CutFrom line (TakeUp p) = Shape line 10 2 × RunOf line 1 1 p
CutFrom line (PutDown k) = Shape line 11 2 × RunOf line 1 1 k
CutFrom line LetGo = Shape line 12 1
CutFrom line (Restart b) = Shape line 13 2 × RunOf line 1 1 b
CutFrom line Cut = Shape line 14 1

-- the number of a run of two digits, and of eight
abbrev pub byte_of : Run → Option ℕ
byte_of r = cond (length r.digits.now == 2) (byte_at r.digits.now 0) None

abbrev pub word_of : Run → Option ℕ
word_of r = cond (length r.digits.now == 8) (word_at r.digits.now 0) None

-- the call of the fields, if each of them is made of digits
abbrev pub raw_call : RawFrame → Option Call
raw_call (Making n b k bad) =
    of_4 (λ n b k bad. call.Making n b k (page_number bad)) (byte_of n) (byte_of b) (byte_of k) (byte_of bad)
raw_call (Begin b) = of_1 call.Begin (byte_of b)
raw_call (Read b p o) = of_3 call.Read (byte_of b) (byte_of p) (byte_of o)
raw_call (Write b p o v) = of_4 call.Write (byte_of b) (byte_of p) (byte_of o) (word_of v)
raw_call (Commit b) = of_1 call.Commit (byte_of b)
raw_call (Cancel b) = of_1 call.Cancel (byte_of b)
raw_call (Fetch b p) = of_2 call.Fetch (byte_of b) (byte_of p)
raw_call (Evict b p) = of_2 call.Evict (byte_of b) (byte_of p)
raw_call (Drop b p o) = of_3 call.Drop (byte_of b) (byte_of p) (byte_of o)
raw_call (Deliver b p) = of_2 call.Deliver (byte_of b) (byte_of p)
raw_call (TakeUp p) = of_1 call.TakeUp (byte_of p)
raw_call (PutDown k) = of_1 call.PutDown (byte_of k)
raw_call LetGo = Some call.LetGo
raw_call (Restart b) = of_1 call.Restart (byte_of b)
raw_call Cut = Some call.Cut

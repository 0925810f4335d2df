-- Every call's frame is read as the call again.
use Rattle.std.proofs.Common.{◌≡◌, ℕ, ◌/◌, ◌%◌, ◌<◌, Some, None, Option, refl, ap, arith}
use Rattle.calls.specs.declared.page_number.PageNumber.{PageNumber}
use Rattle.calls.specs.declared.call.Call.{Call}
use Rattle.calls.specs.declared.call.Call.TheVariants.{
  Making,
  Begin,
  Read,
  Write,
  Commit,
  Cancel,
  Fetch,
  Evict,
  Drop,
  Deliver,
  TakeUp,
  PutDown,
  LetGo,
  Restart,
  Cut,
}
use Rattle.calls.specs.PageNumbers.{page_byte}
use Rattle.calls.proofs.Numbering.{page_number_byte}
use Rattle.text.specs.Hex.{digit, byte_value}
use Rattle.codec.specs.Frames.{frame, FitsFrame}
use Rattle.codec.specs.Decoding.{decoded}
use Rattle.text.specs.Optional.{of_4}
use Rattle.text.proofs.Hexes.{byte_back}
use Rattle.codec.proofs.Words.{joined, word_whole}

-- a byte as it is read from its two digits
abbrev again : ℕ → Option ℕ
again b = byte_value (digit (b / 16)) (digit (b % 16))

-- the four bytes of a number of 32 bits are read as the number
word_again : (v : ℕ) → v < 4294967296 → of_4 joined (again (v / 16777216 % 256)) (again (v / 65536 % 256)) (again (v / 256 % 256)) (again (v % 256)) ≡ Some v
word_again v h =
    rw (byte_back (v / 16777216 % 256) (omega arith), byte_back (v / 65536 % 256) (omega arith), byte_back (v / 256 % 256) (omega arith), byte_back (v % 256) (omega arith)) (ap Some (word_whole v h))

page_byte_small : (bad : Option PageNumber) → page_byte bad < 256
page_byte_small None = omega arith
page_byte_small (Some p) = omega (arith, p.below_255)

pub reads_back : (c : Call) → FitsFrame c → decoded (frame c) ≡ Some c
reads_back (Making n b k bad) h =
    rw (byte_back n h.0, byte_back b h.1, byte_back k h.2, byte_back (page_byte bad) (page_byte_small bad), page_number_byte bad) refl
reads_back (Begin b) h = rw (byte_back b h) refl
reads_back (Read b p o) h = rw (byte_back b h.0, byte_back p h.1, byte_back o h.2) refl
reads_back (Write b p o v) h = rw (byte_back b h.0, byte_back p h.1, byte_back o h.2, word_again v h.3) refl
reads_back (Commit b) h = rw (byte_back b h) refl
reads_back (Cancel b) h = rw (byte_back b h) refl
reads_back (Fetch b p) h = rw (byte_back b h.0, byte_back p h.1) refl
reads_back (Evict b p) h = rw (byte_back b h.0, byte_back p h.1) refl
reads_back (Drop b p o) h = rw (byte_back b h.0, byte_back p h.1, byte_back o h.2) refl
reads_back (Deliver b p) h = rw (byte_back b h.0, byte_back p h.1) refl
reads_back (TakeUp p) h = rw (byte_back p h) refl
reads_back (PutDown k) h = rw (byte_back k h) refl
reads_back LetGo h = refl
reads_back (Restart b) h = rw (byte_back b h) refl
reads_back Cut h = refl

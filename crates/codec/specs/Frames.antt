-- The frame of each call.
use Rattle.std.specs.Prelude.{ℕ, ◌<◌, List, [], ◌∷◌}
use Rattle.calls.specs.declared.call.Call.{Call}
use Rattle.calls.specs.declared.call.Call.TheVariants.{
  Making,
  Begin,
  Read,
  Write,
  Commit,
  Cancel,
  Fetch,
  Evict,
  Drop,
  Deliver,
  TakeUp,
  PutDown,
  LetGo,
  Restart,
  Cut,
}
use Rattle.calls.specs.PageNumbers.{page_byte}
use Rattle.calls.specs.Answers.{word_bytes}
use Rattle.text.specs.Hex.{hex}

abbrev pub call_bytes : Call → List ℕ
call_bytes (Making n b k bad) = 0 ∷ n ∷ b ∷ k ∷ page_byte bad ∷ []
call_bytes (Begin b) = 1 ∷ b ∷ []
call_bytes (Read b p o) = 2 ∷ b ∷ p ∷ o ∷ []
call_bytes (Write b p o v) = 3 ∷ b ∷ p ∷ o ∷ word_bytes v
call_bytes (Commit b) = 4 ∷ b ∷ []
call_bytes (Cancel b) = 5 ∷ b ∷ []
call_bytes (Fetch b p) = 6 ∷ b ∷ p ∷ []
call_bytes (Evict b p) = 7 ∷ b ∷ p ∷ []
call_bytes (Drop b p o) = 8 ∷ b ∷ p ∷ o ∷ []
call_bytes (Deliver b p) = 9 ∷ b ∷ p ∷ []
call_bytes (TakeUp p) = 10 ∷ p ∷ []
call_bytes (PutDown k) = 11 ∷ k ∷ []
call_bytes LetGo = 12 ∷ []
call_bytes (Restart b) = 13 ∷ b ∷ []
call_bytes Cut = 14 ∷ []

abbrev pub frame : Call → List ℕ
frame c = hex (call_bytes c)

-- each field is a number of its size: this is so of every call of the code
abbrev pub FitsFrame : Call → Type 0
FitsFrame (Making n b k bad) = (n < 256) × (b < 256) × (k < 256)
FitsFrame (Begin b) = b < 256
FitsFrame (Read b p o) = (b < 256) × (p < 256) × (o < 256)
FitsFrame (Write b p o v) = (b < 256) × (p < 256) × (o < 256) × (v < 4294967296)
FitsFrame (Commit b) = b < 256
FitsFrame (Cancel b) = b < 256
FitsFrame (Fetch b p) = (b < 256) × (p < 256)
FitsFrame (Evict b p) = (b < 256) × (p < 256)
FitsFrame (Drop b p o) = (b < 256) × (p < 256) × (o < 256)
FitsFrame (Deliver b p) = (b < 256) × (p < 256)
FitsFrame (TakeUp p) = p < 256
FitsFrame (PutDown k) = k < 256
FitsFrame LetGo = Unit {0}
FitsFrame (Restart b) = b < 256
FitsFrame Cut = Unit {0}

-- A number of 32 bits and its four bytes.
use Rattle.std.proofs.Common.{◌≡◌, ℕ, ◌+◌, ◌*◌, ◌/◌, ◌%◌, ◌<◌, [], ◌∷◌, arith}
use Rattle.std.proofs.lemmas.Nat.{from_be_bytes-to_be_bytes_4}
use Rattle.calls.specs.Answers.{word_bytes}

abbrev pub joined : ℕ → ℕ → ℕ → ℕ → ℕ
joined a b c d = a * 16777216 + b * 65536 + c * 256 + d

pub word_whole : (v : ℕ) → v < 4294967296 → joined (v / 16777216 % 256) (v / 65536 % 256) (v / 256 % 256) (v % 256) ≡ v
word_whole v h = omega (arith, from_be_bytes-to_be_bytes_4 v h)

pub word_parts : (a b c d : ℕ) → (a < 256) × (b < 256) × (c < 256) × (d < 256) → word_bytes (joined a b c d) ≡ a ∷ b ∷ c ∷ d ∷ []
word_parts a b c d h = grind arith

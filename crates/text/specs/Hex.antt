-- Bytes as pairs of hexadecimal digits, in lower case, the high digit first.
use Rattle.std.specs.Prelude.{ℕ, ◌+◌, ◌-◌, ◌*◌, ◌/◌, ◌%◌, cond, ◌&&◌, List, [], ◌∷◌, Some, None, Option, nat_le, nat_lt, slice_index}
use Rattle.text.specs.Optional.{of_2, of_4}

-- the character of a number below 16: 48 is 0, and 97 is a
abbrev pub digit : ℕ → ℕ
digit n = cond (nat_lt n 10) (48 + n) (97 + (n - 10))

abbrev pub hex : List ℕ → List ℕ
hex [] = []
hex (b ∷ bs) = digit (b / 16) ∷ digit (b % 16) ∷ hex bs

-- the number of a character 0 to 9 or a to f
abbrev pub digit_value : ℕ → Option ℕ
digit_value c = cond (nat_le 48 c && nat_le c 57) (Some (c - 48)) (cond (nat_le 97 c && nat_le c 102) (Some (c - 97 + 10)) None)

-- the byte of two characters
abbrev pub byte_value : ℕ → ℕ → Option ℕ
byte_value h l = of_2 (λ x y. 16 * x + y) (digit_value h) (digit_value l)

-- byte i of a text
abbrev pub byte_at : List ℕ → ℕ → Option ℕ
byte_at text i = byte_value (slice_index text (2 * i)) (slice_index text (2 * i + 1))

-- the number of the four bytes from byte i on, the highest first
abbrev pub word_at : List ℕ → ℕ → Option ℕ
word_at text i =
    of_4 (λ a b c d. a * 16777216 + b * 65536 + c * 256 + d) (byte_at text i) (byte_at text (i + 1)) (byte_at text (i + 2)) (byte_at text (i + 3))

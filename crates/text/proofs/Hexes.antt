-- Digits, written and read.
use Rattle.std.proofs.Common.{◌≡◌, ℕ, suc, ◌+◌, ◌*◌, ◌/◌, ◌%◌, ◌<◌, List, [], ◌∷◌, length, get_or, Some, sym, refl, ap, ◌∙◌, arith}
use Rattle.std.proofs.lemmas.Bool.Decides.{nat_tests}
use Rattle.text.specs.Hex.{digit, hex, digit_value, byte_value, byte_at}
use Rattle.text.proofs.Options.{found_2, found_at}

digit_back : (n : ℕ) → n < 16 → digit_value (digit n) ≡ Some n
digit_back n h = grind (arith, nat_tests)

-- no other character has the number
digit_only : (c n : ℕ) → digit_value c ≡ Some n → (n < 16) × (c ≡ digit n)
digit_only c n e = (grind (arith, nat_tests), grind (arith, nat_tests))

abbrev two : ℕ → ℕ → ℕ
two h l = 16 * h + l

-- a byte that is written as two digits is read again
pub byte_back : (b : ℕ) → b < 256 → byte_value (digit (b / 16)) (digit (b % 16)) ≡ Some b
byte_back b small =
    rw (digit_back (b / 16) (omega arith), digit_back (b % 16) (omega arith)) (ap Some (omega arith))

-- no other characters are read as the byte
pub byte_only : (h l b : ℕ) → byte_value h l ≡ Some b → (b < 256) × (h ≡ digit (b / 16)) × (l ≡ digit (b % 16))
byte_only h l b e =
    let P : ℕ → Type 0 = λ n. (n < 256) × (h ≡ digit (n / 16)) × (l ≡ digit (n % 16)) in
    found_at P (byte_value h l) b e (found_2 P two (digit_value h) (digit_value l) (λ x y p q. pair x y (digit_only h x p) (digit_only l y q)))
  where
    pair : (x y : ℕ) → (x < 16) × (h ≡ digit x) → (y < 16) × (l ≡ digit y) → (two x y < 256) × (h ≡ digit (two x y / 16)) × (l ≡ digit (two x y % 16))
    pair x y p q =
        let high : x ≡ two x y / 16 = omega arith in
        let low : y ≡ two x y % 16 = omega arith in
        (omega arith, p.1 ∙ ap digit high, q.1 ∙ ap digit low)

pub byte_small : (text : List ℕ) (i b : ℕ) → byte_at text i ≡ Some b → b < 256
byte_small text i b e = (byte_only (get_or text (2 * i) 0) (get_or text (2 * i + 1) 0) b e).0

-- the bytes of the text from byte i on are bs
abbrev pub Spelled : List ℕ → ℕ → List ℕ → Type 0
Spelled text i [] = Unit {0}
Spelled text i (b ∷ bs) = (byte_at text i ≡ Some b) × Spelled text (i + 1) bs

-- behind two characters each byte has the index before
later : (h l : ℕ) (text : List ℕ) (i : ℕ) → byte_at (h ∷ l ∷ text) (i + 1) ≡ byte_at text i
later h l text i =
    let even : 2 * (i + 1) ≡ suc (suc (2 * i)) = omega arith in
    let odd : 2 * (i + 1) + 1 ≡ suc (suc (2 * i + 1)) = omega arith in
    rw (odd, even) refl

spelled_later : (h l : ℕ) (text : List ℕ) (i : ℕ) (bs : List ℕ) → Spelled (h ∷ l ∷ text) (i + 1) bs → Spelled text i bs
spelled_later h l text i [] s = tt
spelled_later h l text i (b ∷ bs) s = (sym (later h l text i) ∙ s.0, spelled_later h l text (i + 1) bs s.1)

-- a text of as many bytes as bs that spells them is their digits
pub spelled_hex : (bs text : List ℕ) → length text ≡ 2 * length bs → Spelled text 0 bs → text ≡ hex bs
spelled_hex [] [] n s = refl
spelled_hex [] (h ∷ text) n s = absurd (omega arith)
spelled_hex (b ∷ bs) [] n s = absurd (omega arith)
spelled_hex (b ∷ bs) (h ∷ []) n s = absurd (omega arith)
spelled_hex (b ∷ bs) (h ∷ l ∷ text) n s =
    let k = byte_only h l b s.0 in
    let rest = spelled_hex bs text (omega arith) (spelled_later h l text 0 bs s.1) in
    λ j. k.1 j ∷ k.2 j ∷ rest j

-- Bytes written as digits, one behind the other.
use Rattle.std.proofs.Common.{◌≡◌, ℕ, ◌+◌, ◌*◌, ◌<◌, ◌≤◌, List, [], ◌∷◌, ◌++◌, length, get_or, drop, sym, refl, ap, ◌∙◌, arith}
use Rattle.std.proofs.lemmas.List.{append_assoc, append-nil, at_drop_more, at_drop_all}
use Rattle.text.specs.Hex.{hex}

pub hex_length : (bs : List ℕ) → length (hex bs) ≡ 2 * length bs
hex_length [] = refl
hex_length (b ∷ bs) = omega (arith, hex_length bs)

-- out and what is left of the bytes bs from byte i on are all that is written in the end
module _ (out bs all : List ℕ) (i : ℕ) (sofar : out ++ hex (drop i bs) ≡ all) where
  pub hex_more : (next : List ℕ) → next ≡ out ++ hex (get_or bs i 0 ∷ []) → i < length bs → next ++ hex (drop (i + 1) bs) ≡ all
  hex_more next e h = ap (λ l. l ++ hex (drop (i + 1) bs)) e ∙ append_assoc out _ _ ∙ ap (λ l. out ++ l) (sym (at_drop_more hex bs i 0 h)) ∙ sofar

  pub hex_all : length bs ≤ i → out ≡ all
  hex_all h = sym (append-nil out) ∙ ap (λ l. out ++ l) (sym (at_drop_all hex bs i h)) ∙ sofar

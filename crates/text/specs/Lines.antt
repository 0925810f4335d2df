-- The lines of an input.
use Rattle.std.specs.Prelude.{ℕ, Bool, cond, List, [], ◌∷◌, ◌==◌}

-- a byte in front of the first line
abbrev pub in_front : ℕ → List (List ℕ) → List (List ℕ)
in_front b [] = (b ∷ []) ∷ []
in_front b (l ∷ ls) = (b ∷ l) ∷ ls

abbrev pub is_newline : ℕ → Bool
is_newline b = b == 10

-- a line ends at a newline byte or at the input's end; none follows a last newline
abbrev pub lines_of : List ℕ → List (List ℕ)
lines_of [] = []
lines_of (b ∷ bs) = cond (is_newline b) ([] ∷ lines_of bs) (in_front b (lines_of bs))

-- The first line, cut off the front of what is left.
use Rattle.std.proofs.Common.{◌≡◌, ℕ, ◌+◌, ◌<◌, true, false, cond, not, List, [], ◌∷◌, length, take, drop, refl, ap, ◌∙◌, arith, length-drop}
use Rattle.std.proofs.lemmas.Grind.{common_steps}
use Rattle.std.specs.List.{position_or_len, before_first, after_first}
use Rattle.text.specs.Lines.{is_newline, lines_of, in_front}

-- the first line, and the lines behind it
pub first_line : (bs : List ℕ) → 0 < length bs → lines_of bs ≡ before_first is_newline bs ∷ lines_of (after_first is_newline bs)
first_line [] h = absurd (omega arith)
first_line (b ∷ []) h =
    elim (is_newline b) as (λ v. cond v ([] ∷ []) (in_front b []) ≡ take (cond (not v) 1 0) (b ∷ []) ∷ lines_of (drop (cond (not v) 1 0 + 1) (b ∷ [])))
    [ true ↦ refl | false ↦ refl ]
first_line (b ∷ x ∷ bs) h =
    let n = position_or_len is_newline (x ∷ bs) in
    elim (is_newline b) as (λ v. cond v ([] ∷ lines_of (x ∷ bs)) (in_front b (lines_of (x ∷ bs))) ≡ take (cond (not v) (1 + n) 0) (b ∷ x ∷ bs) ∷ lines_of (drop (cond (not v) (1 + n) 0 + 1) (b ∷ x ∷ bs)))
    [ true ↦ refl | false ↦ ap (in_front b) (first_line (x ∷ bs) (omega arith)) ∙ grind (arith, common_steps) ]

-- what is left behind a line is shorter: the line has at least its newline, or is not empty
pub fewer_left : (bs after : List ℕ) (n : ℕ) → 0 < length bs → after ≡ drop (n + 1) bs → length after < length bs
fewer_left bs after n some rest = rw rest (simp length-drop (omega arith))

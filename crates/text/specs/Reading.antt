-- What a reader hands out.
use Rattle.std.specs.Prelude.{◌≡◌, ℕ, ◌+◌, List, [], ◌∷◌, Some, None, Option}
use Rattle.text.specs.declared.lines.Line.{Line}
use Rattle.text.specs.declared.lines.Lines.{Lines}
use Rattle.text.specs.Lines.{lines_of}

-- the lines that are left
abbrev pub left : Lines → List (List ℕ)
left s = lines_of s.rest.now

-- the reader hands out the first line that is left, with its number, or none where none is left
abbrev pub Reads : Lines → Option Line → Lines → Type 0
Reads s None t = (left s ≡ []) × (t ≡ s)
Reads s (Some l) t = (left s ≡ l.text.now ∷ left t) × (l.number ≡ s.count + 1) × (t.count ≡ s.count + 1)

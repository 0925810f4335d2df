-- A page and its eight objects.
use Rattle.std.specs.Prelude.{ℕ, List, [], ◌∷◌, slice_index}
use Rattle.device.specs.declared.page.Page.{Page}

-- the eight values of f, in order
abbrev pub row : {A : Type 0} → (ℕ → A) → List A
row f = f 0 ∷ f 1 ∷ f 2 ∷ f 3 ∷ f 4 ∷ f 5 ∷ f 6 ∷ f 7 ∷ []

abbrev pub page : (ℕ → ℕ) → Page
page f = record { objects = row f }

abbrev pub object_of : Page → ℕ → ℕ
object_of g o = slice_index g.objects o

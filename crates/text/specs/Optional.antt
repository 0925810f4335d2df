-- A function of numbers, each of which may be missing: then so is its value.
use Rattle.std.specs.Prelude.{ℕ, Some, None, Option}

module _ {Z : Type 0} where
  abbrev pub of_1 : (ℕ → Z) → Option ℕ → Option Z
  of_1 f None = None
  of_1 f (Some a) = Some (f a)

  abbrev pub of_2 : (ℕ → ℕ → Z) → Option ℕ → Option ℕ → Option Z
  of_2 f None y = None
  of_2 f (Some a) y = of_1 (f a) y

  abbrev pub of_3 : (ℕ → ℕ → ℕ → Z) → Option ℕ → Option ℕ → Option ℕ → Option Z
  of_3 f None y z = None
  of_3 f (Some a) y z = of_2 (f a) y z

  abbrev pub of_4 : (ℕ → ℕ → ℕ → ℕ → Z) → Option ℕ → Option ℕ → Option ℕ → Option ℕ → Option Z
  of_4 f None y z w = None
  of_4 f (Some a) y z w = of_3 (f a) y z w

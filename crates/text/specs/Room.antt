-- A buffer that is written within its room, so that no write needs memory.
use Rattle.std.specs.Prelude.{◌≡◌, ℕ, ◌+◌, ◌<◌, ◌≤◌, cond, List, ◌++◌, length, Result, is_ok, Vec, vec_items, vec_len, vec_capacity}

-- the buffer has room for n more bytes, or has not
abbrev pub HasRoom : {A : Type 0} → Vec ℕ A → ℕ → Type 0
HasRoom out n = vec_len out + n ≤ vec_capacity out

abbrev pub LacksRoom : {A : Type 0} → Vec ℕ A → ℕ → Type 0
LacksRoom out n = vec_capacity out < vec_len out + n

-- the text stands behind what the buffer held, and its room is used and not made larger
pub record Gains {A : Type 0} (old new : Vec ℕ A) (text : List ℕ) : Type 0 where
  pub items : vec_items new ≡ vec_items old ++ text
  pub len : vec_len new ≡ vec_len old + length text
  pub capacity : vec_capacity new ≡ vec_capacity old

-- the text stands whole behind what the buffer held, or the buffer holds what it held
abbrev pub WrittenOrKept : {A E : Type 0} → Vec ℕ A → Vec ℕ A → List ℕ → Result (Unit {0}) E → Type 0
WrittenOrKept old new text r = vec_items new ≡ cond (is_ok r) (vec_items old ++ text) (vec_items old)

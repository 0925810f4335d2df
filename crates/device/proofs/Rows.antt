-- Rows of eight and the functions that they tell.
use Rattle.std.proofs.Common.{◌≡◌, ℕ, ◌<◌, ◌≤◌, min, cond, ◌&&◌, eqb, ltb, get_or, ap, ⊎_elim, arith}
use mathlib.Core.Path.{fun_ext}
use Rattle.std.proofs.lemmas.Bool.{cases_lt}
use Rattle.std.proofs.lemmas.Bool.Decides.{nat_tests}
use Rattle.std.proofs.lemmas.Grind.{common_steps}
use Rattle.device.specs.Pages.{row, page, object_of}
use Rattle.device.specs.Disks.{DiskState, write_state}

pub get_or-row : (f : ℕ → ℕ) (o : ℕ) → o < 8 → get_or (row f) o 0 ≡ f o
get_or-row f o h = grind (arith, common_steps)

-- writing a page's row writes what the page was made of
pub write_row : (d : DiskState) (p k : ℕ) (f : ℕ → ℕ) → write_state d p (object_of (page f)) k ≡ write_state d p f k
write_row d p k f = ap (λ g. record { good = d.good; object = g }) (fun_ext (λ q. fun_ext (λ o. at q o)))
  where
    at : (q o : ℕ) → cond (d.good p && (eqb q p && ltb o (min k 8))) (get_or (row f) o 0) (d.object q o) ≡ cond (d.good p && (eqb q p && ltb o (min k 8))) (f o) (d.object q o)
    at q o = ⊎_elim
        (λ (h : o < 8). ap (λ v. cond (d.good p && (eqb q p && ltb o (min k 8))) v (d.object q o)) (get_or-row f o h))
        (λ (h : 8 ≤ o). grind (arith, nat_tests))
        (cases_lt o 8)

-- What a disk means, and what its calls do.
use Rattle.std.specs.Prelude.{ℕ, min, Bool, cond, ◌&&◌, Ok, Err, Result, ◌==◌, nat_lt}
use Rattle.device.specs.declared.fault.DeviceFault.{DeviceFault}
use Rattle.device.specs.declared.fault.DeviceFault.TheVariants.{BadPage}
use Rattle.device.specs.declared.page.Page.{Page}
use Rattle.device.specs.Pages.{page}

-- which pages are good, and object o of page p
pub record DiskState : Type 0 where
  pub good : ℕ → Bool
  pub object : ℕ → ℕ → ℕ

abbrev pub read_answer : DiskState → ℕ → Result Page DeviceFault
read_answer d p = cond (d.good p) (Ok (page (d.object p))) (Err (BadPage p))

abbrev pub write_answer : DiskState → ℕ → Result (Unit {0}) DeviceFault
write_answer d p = cond (d.good p) (Ok tt) (Err (BadPage p))

-- objects 0 to k - 1 of a good page p become new, where k above 8 counts as 8; all else stays
abbrev pub write_state : DiskState → ℕ → (ℕ → ℕ) → ℕ → DiskState
write_state d p new k = record {
  good = d.good;
  object = λ q o. cond (d.good p && (q == p && nat_lt o (min k 8))) (new o) (d.object q o);
}

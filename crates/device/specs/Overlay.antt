-- A page with a log's entries laid over it, and its installation.
use Rattle.std.specs.Prelude.{ℕ, cond, Some, None, Ok, Err, Option, Result}
use Rattle.device.specs.declared.fault.DeviceFault.{DeviceFault}
use Rattle.device.specs.declared.fault.DeviceFault.TheVariants.{BadPage}
use Rattle.device.specs.declared.page.Page.{Page}
use Rattle.device.specs.declared.record.Entry.{Entry}
use Rattle.device.specs.Pages.{page}
use Rattle.device.specs.Disks.{DiskState, write_state}
use Rattle.device.specs.Changes.{Content}
use Rattle.device.specs.Logs.{LogState, forget_state}

abbrev pub value_over : Option Entry → ℕ → ℕ
value_over None v = v
value_over (Some e) v = e.value

-- page p with objects g: each entry replaces its object's value
abbrev pub overlay : Content → ℕ → (ℕ → ℕ) → ℕ → ℕ
overlay f p g o = value_over (f p o) (g o)

-- page p as disk and log together give it
abbrev pub current : DiskState → LogState → ℕ → ℕ → ℕ
current d s p = overlay s.content p (d.object p)

abbrev pub current_answer : DiskState → LogState → ℕ → Result Page DeviceFault
current_answer d s p = cond (d.good p) (Ok (page (current d s p))) (Err (BadPage p))

-- installing page p writes it whole as disk and log give it
abbrev pub install_disk : DiskState → LogState → ℕ → DiskState
install_disk d s p = write_state d p (current d s p) 8

-- and has the log forget the page up to number n
abbrev pub install_log : DiskState → LogState → ℕ → ℕ → ℕ → LogState
install_log d s p n left = cond (d.good p) (forget_state s p n left) s

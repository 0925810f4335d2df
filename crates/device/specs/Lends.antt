-- A list log over lent memory, and one that is lent on for one piece of work.
use Rattle.std.specs.Prelude.{◌≡◌, ℕ, Bool, true, false, ◌&&◌, Ok, Err, Result, nat_le}
use Rattle.std.specs.Fn.{Once, FnOnceReturnsAtMut}
use Rattle.std.specs.Borrow.{MutBor}
use Rattle.device.specs.declared.fault.DeviceFault.{DeviceFault}
use Rattle.device.specs.declared.fault.DeviceFault.TheVariants.{BadRecordCount}
use Rattle.device.specs.declared.list.ListLog.{ListLog}
use Rattle.device.specs.Logs.{LogState, empty_log}
use Rattle.device.specs.Lists.{list_state}

-- may a list log have this many records?
abbrev pub fits : ℕ → Bool
fits n = nat_le 8 n && nat_le n 64

-- memory that fits is made an empty log, all of it free, of which the answer comes; other memory is refused
abbrev pub Lent : {A : Type 0} → (LogState → A → Type 0) → ℕ → ℕ → Result A DeviceFault → Type 0
Lent allows last n (Ok a) = (fits n ≡ true) × allows (empty_log last n) a
Lent allows last n (Err e) = (fits n ≡ false) × (e ≡ BadRecordCount)

-- the log begins so
abbrev pub Begins : LogState → ListLog → Type 0
Begins s log = list_state log ≡ s

-- a call of the work, on a list log that begins so, answers a
pub record DoneOn {F A : Type 0} (g : Once F (MutBor ListLog × Unit {0}) (A × (MutBor ListLog × Unit {0}))) (work : F) (s : LogState) (a : A) : Type 0 where
  pub log : ListLog
  pub after : ListLog
  pub begins : Begins s log
  pub call : FnOnceReturnsAtMut g work log a after

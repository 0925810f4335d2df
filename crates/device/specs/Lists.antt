-- What a list log means.
use Rattle.std.specs.Prelude.{ℕ, ◌-◌, List, ◌++◌, map, length, take, Some, Ok, Err, Option, Result}
use Rattle.device.specs.declared.fault.DeviceFault.{DeviceFault}
use Rattle.device.specs.declared.record.Change.{Change}
use Rattle.device.specs.declared.record.Record.{Record}
use Rattle.device.specs.declared.list.ListLog.{ListLog}
use Rattle.device.specs.Changes.{nothing, stamped, newest}
use Rattle.device.specs.Logs.{LogState}

abbrev pub capacity : ListLog → ℕ
capacity s = length s.records.now

-- the records in use
abbrev pub in_use : ListLog → List Record
in_use s = take s.used s.records.now

-- each object's newest record is its entry, and what is unused is free
abbrev pub list_state : ListLog → LogState
list_state s = record { content = newest nothing (in_use s); last = s.last; free = capacity s - s.used }

-- the records in use after an append, by its answer
abbrev pub records_after : List Record → List Change → Result ℕ DeviceFault → List Record
records_after rs xs (Ok n) = rs ++ map (stamped n) xs
records_after rs xs (Err e) = rs

abbrev pub list_places : ListLog → List (Option Record)
list_places s = map (λ r. Some r) (in_use s)

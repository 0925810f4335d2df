use Rattle.std.proofs.Common.{◌≡◌, ◌+◌, ◌++◌, map, length, take}
use Rattle.device.specs.Changes.{stamped}
use Rattle.device.specs.Lists.{in_use}
use Rattle.device.proofs.list.ops.ListLogLog.append.Given as goal

abbrev pub invariant-loop-c : goal.invariant-loop-c
invariant-loop-c l = record {
  used : l.self.used ≡ l.initial.self.used + l.c-index;
  last : l.self.last ≡ l.initial.self.last;
  many : length l.self.records.now ≡ length l.initial.self.records.now;
  laid : in_use l.self ≡ in_use l.initial.self ++ map (stamped l.number) (take l.c-index l.changes);
}

use Rattle.std.proofs.Common.{◌≡◌}
use Rattle.std.proofs.lemmas.List.Filters.{FiltersInPlace}
use Rattle.device.specs.Records.{outlasts}
use Rattle.device.proofs.list.ops.ListLogLog.forget.Given as goal

abbrev pub invariant-loop-i : goal.invariant-loop-i
invariant-loop-i l =
    (l.self.last ≡ l.initial.self.last)
    × FiltersInPlace (outlasts l.page l.upto) l.initial.self.records.now l.self.records.now l.self.used l.i

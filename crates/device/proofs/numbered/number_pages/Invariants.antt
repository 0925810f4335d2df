use Rattle.std.proofs.Common.{◌≡◌}
use Rattle.device.specs.Numbered.{numbered_below}
use Rattle.device.proofs.numbered.number_pages.Given as goal

abbrev pub invariant-loop-p : goal.invariant-loop-p
invariant-loop-p g l = g.D.Disk.state l.disk ≡ numbered_below l.p (g.D.Disk.state l.initial.disk)

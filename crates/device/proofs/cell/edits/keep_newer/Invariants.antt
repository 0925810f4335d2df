use Rattle.std.proofs.Common.{◌≡◌, ◌++◌, map, take, drop}
use Rattle.device.specs.Changes.{newer}
use Rattle.device.proofs.cell.edits.keep_newer.Given as goal

abbrev pub invariant-loop-cell : goal.invariant-loop-cell
invariant-loop-cell l = l.cell-items ≡ map (newer l.upto) (take l.cell-index l.fn.cells) ++ drop l.cell-index l.fn.cells

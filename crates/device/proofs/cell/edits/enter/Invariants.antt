use Rattle.std.proofs.Common.{◌≡◌, true, length, take}
use Rattle.device.specs.Changes.{appended}
use Rattle.device.specs.Cells.{cell_content, all_within}
use Rattle.device.proofs.cell.edits.enter.Given as goal

abbrev pub invariant-loop-c : goal.invariant-loop-c
invariant-loop-c l =
    (length l.cells ≡ 512)
    × (cell_content l.cells ≡ appended (cell_content l.initial.cells) l.number (take l.c-index l.changes))
    × (all_within l.number l.initial.cells ≡ true → all_within l.number l.cells ≡ true)

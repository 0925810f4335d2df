-- What a cell log means.
use Rattle.std.specs.Prelude.{List, Option}
use Rattle.device.specs.declared.record.Record.{Record}
use Rattle.device.specs.declared.cell.CellLog.{CellLog}
use Rattle.device.specs.Logs.{LogState}
use Rattle.device.specs.Cells.{cell_content, tagged_from}

-- 512 are free, whatever it holds
abbrev pub cell_state : CellLog → LogState
cell_state s = record { content = cell_content s.cells; last = s.last; free = 512 }

abbrev pub cell_places : CellLog → List (Option Record)
cell_places s = tagged_from 0 s.cells

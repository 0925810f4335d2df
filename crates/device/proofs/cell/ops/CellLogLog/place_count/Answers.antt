use Rattle.std.proofs.Common.{refl}
use Rattle.device.specs.CellLogs.{cell_state}
use Rattle.device.proofs.Counts.{count_below}
use Rattle.device.proofs.CellLaws.{cell_inside, cell_told, cell_places_few}
use Rattle.device.proofs.cell.ops.CellLogLog.place_count.Goals as goal

pub returns : goal.returns
returns c = record {
  value = refl;
  bounds_the_places = cell_places_few c.args.self.now;
  bounds_the_entries = count_below (cell_state c.args.self.now).content;
  places_tell_all = cell_told c.args.self.now;
  entries_lie_inside = cell_inside c.args.self.now;
}

use Rattle.std.proofs.Common.{refl}
use Rattle.device.proofs.ListLaws.{list_inside, list_told, list_places_few, list_entries_few}
use Rattle.device.proofs.list.ops.ListLogLog.place_count.Goals as goal

pub returns : goal.returns
returns c = record {
  value = refl;
  bounds_the_places = list_places_few c.args.self.now;
  bounds_the_entries = list_entries_few c.args.self.now;
  places_tell_all = list_told c.args.self.now;
  entries_lie_inside = list_inside c.args.self.now;
}

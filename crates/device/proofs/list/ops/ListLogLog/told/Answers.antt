use Rattle.std.proofs.Common.{◌≡◌, get_or, None, sym, subst, arith}
use Rattle.std.proofs.lemmas.Grind.{common_steps}
use Rattle.device.specs.Logs.{InsideRecord}
use Rattle.device.specs.Lists.{list_places}
use Rattle.device.proofs.ListLaws.{list_places_inside}
use Rattle.device.proofs.list.ops.ListLogLog.told.Goals as goal

pub returns-clause-lies_inside : goal.returns-clause-lies_inside
returns-clause-lies_inside c =
    let s = c.args.self.now in
    let value : c.copied.result ≡ get_or (list_places s) c.args.place None = grind (arith, common_steps) in
    subst InsideRecord (sym value) (list_places_inside s c.args.place)

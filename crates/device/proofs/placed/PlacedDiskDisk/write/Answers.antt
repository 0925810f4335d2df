use Rattle.std.proofs.Common.{◌≡◌, ℕ, min, cond, ltb, [], get_or, length, Some, set, sym, ap, ◌∙◌, arith}
use Rattle.std.proofs.lemmas.Grind.{common_steps}
use Rattle.std.proofs.lemmas.Bool.Decides.{nat_tests}
use Rattle.device.specs.Pages.{row, object_of}
use Rattle.device.specs.Places.{disk_at}
use Rattle.device.proofs.Placing.{disk_write}
use Rattle.device.proofs.placed.PlacedDiskDisk.write.Goals as goal

pub returns-clause-after : goal.returns-clause-after
returns-clause-after g c =
    let d = c.args.self.now in
    let i = c.in_ok-place.place in
    let new = object_of c.args.new.now in
    let at : disk_at g.L.Layout.place_of d c.args.page ≡ Some i = grind (arith, common_steps) in
    let objects = c.splice.ensures in
    let written : c.splice.new.objects ≡ row (λ o. cond (ltb o (min c.args.count 8)) (new o) (get_or (get_or d.memory.now i []) o 0)) = grind (arith, nat_tests, objects) in
    disk_write (g.L.Layout.place_of d.layout) d.memory.now _ c.args.page (Some i) new c.args.count (g.met.L.Layout.apart d.layout (length d.memory.now)) (sym at) c.in_ok-place.ensures.within (ap (λ xs. set d.memory.now i xs) written)

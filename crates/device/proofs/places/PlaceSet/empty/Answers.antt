use Rattle.std.proofs.Common.{◌≡◌, ℕ, false, ◌&&◌, ltb, get_or, replicate, arith}
use mathlib.Core.Path.{fun_ext}
use Rattle.std.proofs.lemmas.Grind.{common_steps}
use Rattle.device.proofs.places.PlaceSet.empty.Goals as goal

none_has : (size n : ℕ) → (ltb n size && get_or (replicate size false) n false) ≡ false
none_has size n = grind (arith, common_steps)

pub returns : goal.returns
returns c = fun_ext (none_has 256)

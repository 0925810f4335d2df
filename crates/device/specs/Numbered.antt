-- Pages that tell their own numbers.
use Rattle.std.specs.Prelude.{ℕ, ◌+◌, ◌*◌, cond, ◌&&◌, nat_lt}
use Rattle.device.specs.Disks.{DiskState}

abbrev pub numbered_value : ℕ → ℕ → ℕ
numbered_value p o = 256 * p + o

-- the disk after the good pages below n were numbered
abbrev pub numbered_below : ℕ → DiskState → DiskState
numbered_below n d = record {
  good = d.good;
  object = λ p o. cond (d.good p && (nat_lt p n && nat_lt o 8)) (numbered_value p o) (d.object p o);
}

abbrev pub numbered_state : DiskState → DiskState
numbered_state = numbered_below 64

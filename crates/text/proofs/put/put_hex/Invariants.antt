use Rattle.std.proofs.Common.{◌≡◌, ◌+◌, ◌*◌, ◌++◌, drop, vec_items, vec_len, vec_capacity}
use Rattle.text.specs.Hex.{hex}
use Rattle.text.proofs.put.put_hex.Given as goal

abbrev pub invariant-loop-byte : goal.invariant-loop-byte
invariant-loop-byte l =
    (vec_items l.out ++ hex (drop l.byte-index l.bytes) ≡ vec_items l.initial.out ++ hex l.bytes)
    × (vec_len l.out ≡ vec_len l.initial.out + 2 * l.byte-index)
    × (vec_capacity l.out ≡ vec_capacity l.initial.out)

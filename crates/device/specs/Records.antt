-- How the records of a list log lie, and which of them go.
use Rattle.std.specs.Prelude.{ℕ, Bool, not, ◌&&◌, List, [], ◌∷◌, ◌==◌, nat_le}
use Rattle.device.specs.declared.record.Record.{Record}
use Rattle.device.specs.Changes.{inside}

-- numbers never fall, from m up to n, and only objects 0 to 7 of pages below 64 are named
abbrev pub in_order : ℕ → ℕ → List Record → Bool
in_order m n [] = nat_le m n
in_order m n (r ∷ rs) = (inside r.id.page r.id.object && nat_le m r.entry.number) && in_order r.entry.number n rs

-- does the record outlast forgetting page p up to number n?
abbrev pub outlasts : ℕ → ℕ → Record → Bool
outlasts p n r = not (r.id.page == p && nat_le r.entry.number n)

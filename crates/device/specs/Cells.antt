-- What the cells of a cell log mean.
use Rattle.std.specs.Prelude.{ℕ, ◌+◌, ◌*◌, ◌/◌, ◌%◌, Bool, true, cond, List, [], ◌∷◌, Some, None, Option, nat_le, slice_index_or}
use Rattle.std.specs.List.{list_all}
use Rattle.device.specs.declared.record.Entry.{Entry}
use Rattle.device.specs.declared.record.Record.{Record}
use Rattle.device.specs.Changes.{Content, inside}

-- object o of page p lies at cell 8 p + o
abbrev pub cell_content : List (Option Entry) → Content
cell_content cells p o = cond (inside p o) (slice_index_or cells (8 * p + o) None) None

abbrev pub within_last : ℕ → Option Entry → Bool
within_last n None = true
within_last n (Some e) = nat_le e.number n

-- no number is above n
abbrev pub all_within : ℕ → List (Option Entry) → Bool
all_within n = list_all (within_last n)

-- the record of cell k
abbrev pub tagged : ℕ → Option Entry → Option Record
tagged k None = None
tagged k (Some e) = Some record { id = record { page = k / 8; object = k % 8 }; entry = e }

-- the records of the cells, the first of which is cell k
abbrev pub tagged_from : ℕ → List (Option Entry) → List (Option Record)
tagged_from k [] = []
tagged_from k (x ∷ xs) = tagged k x ∷ tagged_from (k + 1) xs

-- Disks whose pages lie at places of one stretch of memory.
use Rattle.std.specs.Prelude.{◌≡◌, ℕ, zero, suc, ◌<◌, min, Bool, false, cond, not, ◌&&◌, ◌||◌, List, [], length, is_some, Some, None, Option, ◌==◌, nat_lt, slice_index, slice_index_or, slice_set}
use Rattle.device.specs.declared.places.PlaceSet.{PlaceSet}
use Rattle.device.specs.declared.placed.PlacedDisk.{PlacedDisk}
use Rattle.device.specs.declared.plain.PlainLayout.{PlainLayout}
use Rattle.device.specs.declared.spared.SparedLayout.{SparedLayout}
use Rattle.device.specs.Pages.{row}
use Rattle.device.specs.Disks.{DiskState}

abbrev pub member : PlaceSet → ℕ → Bool
member s n = nat_lt n 256 && slice_index_or s.members n false

-- the set with place n
abbrev pub joined : (ℕ → Bool) → ℕ → ℕ → Bool
joined s n m = m == n || s m

-- object o of what lies at a place
abbrev pub object_at : List (List ℕ) → Option ℕ → ℕ → ℕ
object_at memory None o = 0
object_at memory (Some i) o = cond (nat_lt o 8) (slice_index (slice_index_or memory i []) o) 0

-- the memory after objects 0 to k - 1 at a place became new, where k above 8 counts as 8
abbrev pub overwritten : List (List ℕ) → Option ℕ → (ℕ → ℕ) → ℕ → List (List ℕ)
overwritten memory None new k = memory
overwritten memory (Some i) new k = slice_set memory i (row (λ o. cond (nat_lt o (min k 8)) (new o) (slice_index (slice_index_or memory i []) o)))

abbrev pub Within : Option ℕ → ℕ → Type 0
Within None n = Unit {0}
Within (Some i) n = i < n

-- a page is good if it has a place, and its objects lie there
abbrev pub placed : List (List ℕ) → (ℕ → Option ℕ) → DiskState
placed memory place = record { good = λ p. is_some (place p); object = λ p. object_at memory (place p) }

-- two pages have two places
abbrev pub Apart : (ℕ → Option ℕ) → Type 0
Apart place = (p q a : ℕ) → place p ≡ Some a → place q ≡ Some a → q ≡ p

-- the place of a page on a disk, by the places that its layout gives in a memory of so many
abbrev pub disk_at : {L : Type 0} → (L → ℕ → ℕ → Option ℕ) → PlacedDisk L → ℕ → Option ℕ
disk_at place_of d = place_of d.layout (length d.memory.now)

abbrev pub disk_state : {L : Type 0} → (L → ℕ → ℕ → Option ℕ) → PlacedDisk L → DiskState
disk_state place_of d = placed d.memory.now (disk_at place_of d)

-- plain: page p lies at place p, unless that is bad or beyond the n places of the memory
abbrev pub plain_place : (ℕ → Bool) → ℕ → ℕ → Option ℕ
plain_place bad n p = cond (nat_lt p 64 && (nat_lt p n && not (bad p))) (Some p) None

abbrev pub plain_layout : PlainLayout → ℕ → ℕ → Option ℕ
plain_layout l = plain_place (member l.bad)

abbrev pub plain_at : PlacedDisk PlainLayout → ℕ → Option ℕ
plain_at = disk_at plain_layout

abbrev pub plain_state : PlacedDisk PlainLayout → DiskState
plain_state = disk_state plain_layout

-- of the n places from place i on, the p-th (from 0) that is not spared
abbrev pub nth_place : (ℕ → Bool) → ℕ → ℕ → ℕ → Option ℕ
nth_place spared zero i p = None
nth_place spared (suc n) i zero = cond (spared i) (nth_place spared n (suc i) zero) (Some i)
nth_place spared (suc n) i (suc p) = cond (spared i) (nth_place spared n (suc i) (suc p)) (nth_place spared n (suc i) p)

-- spared: page p lies at the p-th place that is not spared
abbrev pub spared_place : (ℕ → Bool) → ℕ → ℕ → Option ℕ
spared_place spared n p = cond (nat_lt p 64) (nth_place spared n 0 p) None

abbrev pub spared_layout : SparedLayout → ℕ → ℕ → Option ℕ
spared_layout l = spared_place (member l.spared)

abbrev pub spared_at : PlacedDisk SparedLayout → ℕ → Option ℕ
spared_at = disk_at spared_layout

abbrev pub spared_state : PlacedDisk SparedLayout → DiskState
spared_state = disk_state spared_layout

-- What a log means, and what its calls do.
use Rattle.std.specs.Prelude.{◌≡◌, ℕ, zero, suc, ◌+◌, ◌≤◌, true, false, cond, List, [], ◌∷◌, length, is_some, Some, None, Ok, Err, Option, Result, ◌==◌, nat_lt}
use Rattle.device.specs.declared.record.Entry.{Entry}
use Rattle.device.specs.declared.record.Change.{Change}
use Rattle.device.specs.declared.record.Record.{Record}
use Rattle.device.specs.declared.fault.DeviceFault.{DeviceFault}
use Rattle.device.specs.declared.fault.DeviceFault.TheVariants.{BadChanges, NumbersSpent, LogFull}
use Rattle.device.specs.Changes.{Content, nothing, inside, put, proper, appended, forgotten}

pub record LogState : Type 0 where
  pub content : Content
  pub last : ℕ
  pub free : ℕ

-- a new log
abbrev pub empty_log : ℕ → ℕ → LogState
empty_log last free = record { content = nothing; last = last; free = free }

-- the number of the next commit after number last, of a list of changes where this many are free; or which case refuses it.
-- 4294967295 is 2^32 - 1, the largest number
abbrev pub admission : ℕ → ℕ → List Change → Result ℕ DeviceFault
admission last free xs =
    cond (proper xs)
    (cond (last == 4294967295) (Err NumbersSpent) (cond (nat_lt free (length xs)) (Err LogFull) (Ok (last + 1))))
    (Err BadChanges)

abbrev pub append_answer : LogState → List Change → Result ℕ DeviceFault
append_answer s xs = admission s.last s.free xs

-- what an append leaves, by its answer; left is the free count of the log after one that is accepted, which is the log's own affair
abbrev pub answered : LogState → List Change → ℕ → Result ℕ DeviceFault → LogState
answered s xs left (Ok n) = record { content = appended s.content n xs; last = n; free = left }
answered s xs left (Err e) = s

abbrev pub append_state : LogState → List Change → ℕ → LogState
append_state s xs left = answered s xs left (append_answer s xs)

-- what forgetting page p up to number n leaves, with left free
abbrev pub forget_state : LogState → ℕ → ℕ → ℕ → LogState
forget_state s p n left = record { content = forgotten s.content p n; last = s.last; free = left }

-- Facts of every log

abbrev pub AtMost : ℕ → Option Entry → Type 0
AtMost n None = Unit {0}
AtMost n (Some e) = e.number ≤ n

-- no entry's number is above n
abbrev pub NumbersAtMost : Content → ℕ → Type 0
NumbersAtMost f n = (p o : ℕ) → AtMost n (f p o)

-- only objects 0 to 7 of pages below 64 have entries
abbrev pub Inside : Content → Type 0
Inside f = (p o : ℕ) → inside p o ≡ false → f p o ≡ None

-- no object has an entry
abbrev pub Empty : Content → Type 0
Empty f = (p o : ℕ) → f p o ≡ None

-- f 0 + .. + f (n - 1)
unfoldable pub total : ℕ → (ℕ → ℕ) → ℕ
total zero f = 0
total (suc n) f = total n f + f n

-- how many objects have an entry
unfoldable pub entry_count : Content → ℕ
entry_count f = total 64 (λ p. total 8 (λ o. cond (is_some (f p o)) 1 0))

-- what the records at the places of a log make, a later one over an earlier one
abbrev pub gathered : Content → List (Option Record) → Content
gathered f [] = f
gathered f (None ∷ xs) = gathered f xs
gathered f (Some r ∷ xs) = gathered (put f r) xs

-- what a place tells names an object 0 to 7 of a page below 64
abbrev pub InsideRecord : Option Record → Type 0
InsideRecord None = Unit {0}
InsideRecord (Some r) = inside r.id.page r.id.object ≡ true

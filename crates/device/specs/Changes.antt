-- What a log holds, what a list of changes must be to be appended, and what it does to the content.
use Rattle.std.specs.Prelude.{ℕ, Bool, true, cond, not, ◌&&◌, List, [], ◌∷◌, map, length, Some, None, Option, ◌==◌, nat_lt}
use Rattle.std.specs.List.{list_any}
use Rattle.device.specs.declared.record.Entry.{Entry}
use Rattle.device.specs.declared.record.Change.{Change}
use Rattle.device.specs.declared.record.Record.{Record}

-- the entry, if any, of object o of page p
abbrev pub Content : Type 0
Content = ℕ → ℕ → Option Entry

abbrev pub nothing : Content
nothing p o = None

-- an object 0 to 7 of a page below 64
abbrev pub inside : ℕ → ℕ → Bool
inside p o = nat_lt p 64 && nat_lt o 8

abbrev pub same_object : ℕ → ℕ → ℕ → ℕ → Bool
same_object p o q r = p == q && o == r

-- the record's object gets the record's entry
abbrev pub put : Content → Record → Content
put f r q s = cond (same_object r.id.page r.id.object q s) (Some r.entry) (f q s)

-- does the list name object o of page p?
abbrev pub named : List Change → ℕ → ℕ → Bool
named xs p o = list_any (λ x. same_object x.id.page x.id.object p o) xs

-- different objects 0 to 7 of pages below 64
abbrev pub distinct : List Change → Bool
distinct [] = true
distinct (x ∷ xs) = inside x.id.page x.id.object && (not (named xs x.id.page x.id.object) && distinct xs)

-- 1 to 8 of them
abbrev pub proper : List Change → Bool
proper xs = (nat_lt 0 (length xs) && nat_lt (length xs) 9) && distinct xs

-- a change as commit n makes it
abbrev pub stamped : ℕ → Change → Record
stamped n x = record { id = x.id; entry = record { number = n; value = x.value } }

-- records in their order, a later one over an earlier one: an object's newest record is its entry
abbrev pub newest : Content → List Record → Content
newest f [] = f
newest f (r ∷ rs) = newest (put f r) rs

-- each listed object gets an entry of number n and its listed value, and the others stay
abbrev pub appended : Content → ℕ → List Change → Content
appended f n xs = newest f (map (stamped n) xs)

-- an entry is kept unless its number is at most n
abbrev pub newer : ℕ → Option Entry → Option Entry
newer n None = None
newer n (Some e) = cond (nat_lt n e.number) (Some e) None

-- the entries of page p up to number n are removed
abbrev pub forgotten : Content → ℕ → ℕ → Content
forgotten f p n q o = cond (q == p) (newer n (f q o)) (f q o)

-- How many objects can have an entry.
use Rattle.std.proofs.Common.{◌≡◌, ℕ, zero, suc, ◌+◌, ◌*◌, ◌<◌, ◌≤◌, cond, List, [], ◌∷◌, length, is_some, refl, ⊎_elim, add-mul, arith}
use Rattle.std.proofs.lemmas.Bool.{cases_eq}
use Rattle.std.proofs.lemmas.Bool.Decides.{nat_tests}
use Rattle.device.specs.declared.record.Record.{Record}
use Rattle.device.specs.Changes.{Content, nothing, put, newest}
use Rattle.device.specs.Logs.{total, entry_count}

total_below : (n m : ℕ) (f : ℕ → ℕ) → ((i : ℕ) → f i ≤ m) → total n f ≤ n * m
unfolding total
total_below zero m f h = omega arith
total_below (suc n) m f h = let k = total_below n m f h in let l = h n in omega (arith, add-mul n 1 m)

total_le : (n : ℕ) (f g : ℕ → ℕ) → ((i : ℕ) → i < n → g i ≤ f i) → total n g ≤ total n f
unfolding total
total_le zero f g h = omega arith
total_le (suc n) f g h = let k = total_le n f g (λ i l. h i (omega arith)) in let j = h n (omega arith) in omega arith

-- one place rises by at most one, the others do not
total_more : (n p : ℕ) (f g : ℕ → ℕ) → ((i : ℕ) → (i ≡ p → ⊥) → g i ≤ f i) → g p ≤ f p + 1 → total n g ≤ total n f + 1
unfolding total
total_more zero p f g h k = omega arith
total_more (suc n) p f g h k = ⊎_elim
    (λ (e : n ≡ p). let a = total_le n f g (λ i l. h i (λ z. omega arith)) in let b : g n ≤ f n + 1 = rw e k in omega arith)
    (λ (e : n ≡ p → ⊥). let a = total_more n p f g h k in let b = h n e in omega arith)
    (cases_eq n p)

abbrev one : Content → ℕ → ℕ → ℕ
one f p o = cond (is_some (f p o)) 1 0

one_le : (f : Content) (p o : ℕ) → one f p o ≤ 1
one_le f p o = grind (arith, nat_tests)

pub count_below : (f : Content) → entry_count f ≤ 512
unfolding entry_count
count_below f = let k = total_below 64 8 (λ p. total 8 (one f p)) (λ p. let l = total_below 8 1 (one f p) (λ o. one_le f p o) in omega arith) in omega arith

count_nothing : entry_count nothing ≡ 0
unfolding entry_count total
count_nothing = refl

-- a record gives at most one object more an entry
count_put : (f : Content) (r : Record) → entry_count (put f r) ≤ entry_count f + 1
unfolding entry_count
count_put f r = total_more 64 r.id.page (λ p. total 8 (one f p)) (λ p. total 8 (one (put f r) p))
    (λ p n. total_le 8 (one f p) (one (put f r) p) (λ o l. grind (arith, nat_tests)))
    (total_more 8 r.id.object (one f r.id.page) (one (put f r) r.id.page) (λ o n. grind (arith, nat_tests)) (grind (arith, nat_tests)))

count_newest : (f : Content) (rs : List Record) → entry_count (newest f rs) ≤ entry_count f + length rs
count_newest f [] = omega arith
count_newest f (r ∷ rs) = let k = count_newest (put f r) rs in let l = count_put f r in omega arith

pub count_records : (rs : List Record) → entry_count (newest nothing rs) ≤ length rs
count_records rs = let k = count_newest nothing rs in let l = count_nothing in omega arith

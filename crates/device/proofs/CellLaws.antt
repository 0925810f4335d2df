-- What holds of every cell log.
use Rattle.std.proofs.Common.{◌≡◌, ℕ, zero, suc, ◌+◌, ◌-◌, ◌*◌, ◌/◌, ◌%◌, ◌<◌, ◌≤◌, Bool, true, false, cond, ◌&&◌, eqb, ltb, leb, List, [], ◌∷◌, length, get_or, Some, None, Option, sym, refl, ap, ◌∙◌, ⊎_elim, add-zero, mod-lt, zero-add, arith, lit<}
use mathlib.Core.Path.{fun_ext}
use Rattle.device.specs.declared.record.Record.{Record}
use Rattle.device.specs.Changes.{Content, nothing, inside, same_object}
use native.Mathlib.Nat.{div-add-mod}
use Rattle.std.proofs.lemmas.Bool.{leb-true, and_from, and_left, and_right, eq-eqb, ne_eqb, cases_eq, cases_lt, lt-ltb}
use Rattle.std.proofs.lemmas.Bool.Decides.{nat_tests}
use Rattle.device.specs.declared.record.Entry.{Entry}
use Rattle.device.specs.declared.cell.CellLog.{CellLog}
use Rattle.device.specs.Logs.{NumbersAtMost, Inside, InsideRecord, AtMost, gathered}
use Rattle.device.specs.Cells.{cell_content, tagged, tagged_from, within_last, all_within}
use Rattle.device.proofs.CellSteps.{within_at}
use Rattle.device.specs.CellLogs.{cell_state, cell_places}

at_most_one : (n : ℕ) (x : Option Entry) → within_last n x ≡ true → AtMost n x
at_most_one n None e = tt
at_most_one n (Some x) e = leb-true x.number n e

at_most_cell : (n : ℕ) (xs : List (Option Entry)) (k : ℕ) → all_within n xs ≡ true → AtMost n (get_or xs k None)
at_most_cell n xs k e = at_most_one n (get_or xs k None) (within_at n xs k e)

at_most_if : (b : Bool) (n : ℕ) (x : Option Entry) → AtMost n x → AtMost n (cond b x None)
at_most_if true n x h = h
at_most_if false n x h = tt

pub length-places : (k : ℕ) (xs : List (Option Entry)) → length (tagged_from k xs) ≡ length xs
length-places k [] = refl
length-places k (x ∷ xs) = ap suc (length-places (k + 1) xs)

get_or-places_from : (xs : List (Option Entry)) (k i : ℕ) → get_or (tagged_from k xs) i None ≡ tagged (k + i) (get_or xs i None)
get_or-places_from [] k i = refl
get_or-places_from (x ∷ xs) k zero = ap (λ n. tagged n x) (sym (add-zero k))
get_or-places_from (x ∷ xs) k (suc i) = get_or-places_from xs (k + 1) i ∙ ap (λ n. tagged n (get_or xs i None)) (let e : (k + 1) + i ≡ k + suc i = omega arith in e)

pub get_or-places : (xs : List (Option Entry)) (i : ℕ) → get_or (tagged_from 0 xs) i None ≡ tagged i (get_or xs i None)
get_or-places xs i = get_or-places_from xs 0 i ∙ ap (λ n. tagged n (get_or xs i None)) (zero-add i)

-- the entry at a place, or else what stood there
abbrev entry_or : Option Entry → Option Entry → Option Entry
entry_or None y = y
entry_or (Some e) y = Some e

-- a place taken apart into page and object
same_yes : (k q r : ℕ) → k ≡ 8 * q + r → r < 8 → same_object (k / 8) (k % 8) q r ≡ true
same_yes k q r e h =
    let a = div-add-mod k 8 in let b : k % 8 < 8 = mod-lt k (lit< tt) in
    and_from (eqb (k / 8) q) (eqb (k % 8) r) (eq-eqb (k / 8) q (omega arith)) (eq-eqb (k % 8) r (omega arith))

same_no : (k q r : ℕ) → (k ≡ 8 * q + r → ⊥) → same_object (k / 8) (k % 8) q r ≡ false
same_no k q r e = no_both (k / 8) (k % 8) q r (λ a b. e (let d = div-add-mod k 8 in omega arith))
  where
    no_both : (a b c d : ℕ) → (a ≡ c → b ≡ d → ⊥) → same_object a b c d ≡ false
    no_both a b c d h = ⊎_elim
        (λ (x : a ≡ c). and_right (eqb a c) (eqb b d) (ne_eqb b d (h x)))
        (λ (x : a ≡ c → ⊥). and_left (eqb a c) (eqb b d) (ne_eqb a c x))
        (cases_eq a c)

same_far : (k q r : ℕ) → 8 ≤ r → same_object (k / 8) (k % 8) q r ≡ false
same_far k q r h = let b : k % 8 < 8 = mod-lt k (lit< tt) in and_right (eqb (k / 8) q) (eqb (k % 8) r) (ne_eqb (k % 8) r (λ e. omega arith))

-- what gathering from place k on makes of the content
abbrev seen : ℕ → List (Option Entry) → Content → Content
seen k xs f q r = cond (ltb r 8 && (leb k (8 * q + r) && ltb (8 * q + r) (k + length xs))) (entry_or (get_or xs (8 * q + r - k) None) (f q r)) (f q r)

abbrev laid_one : (k : ℕ) (f : Content) (x : Option Entry) → Content
laid_one k f x q r = cond (same_object (k / 8) (k % 8) q r) (entry_or x (f q r)) (f q r)

one : (k : ℕ) (f : Content) (x : Option Entry) (rest : List (Option Record)) → gathered f (tagged k x ∷ rest) ≡ gathered (laid_one k f x) rest
one k f None rest = ap (λ g. gathered g rest) (fun_ext (λ q. fun_ext (λ r. both_ways' (same_object (k / 8) (k % 8) q r) (f q r))))
  where
    both_ways' : (b : Bool) (y : Option Entry) → y ≡ cond b y y
    both_ways' true y = refl
    both_ways' false y = refl
one k f (Some e) rest = refl

module _ (k : ℕ) (f : Content) (x : Option Entry) (xs : List (Option Entry)) (q r : ℕ) where
  at_it : k ≡ 8 * q + r → r < 8 → seen (k + 1) xs (laid_one k f x) q r ≡ seen k (x ∷ xs) f q r
  at_it e h =
      let b = same_yes k q r e h in
      let z : 8 * q + r - k ≡ 0 = omega arith in
      let d : get_or (x ∷ xs) (8 * q + r - k) None ≡ x = ap (λ n. get_or (x ∷ xs) n None) z in
      grind (arith, nat_tests, b, d)

  off_it : r < 8 → (k ≡ 8 * q + r → ⊥) → same_object (k / 8) (k % 8) q r ≡ false → seen (k + 1) xs (laid_one k f x) q r ≡ seen k (x ∷ xs) f q r
  off_it h e b =
      let d : k < 8 * q + r → get_or (x ∷ xs) (8 * q + r - k) None ≡ get_or xs (8 * q + r - (k + 1)) None = λ l. let z : 8 * q + r - k ≡ suc (8 * q + r - (k + 1)) = omega arith in ap (λ n. get_or (x ∷ xs) n None) z in
      ⊎_elim
      (λ (l : k < 8 * q + r). let d' = d l in grind (arith, nat_tests, b, d'))
      (λ (l : 8 * q + r ≤ k). grind (arith, nat_tests, b, l))
      (cases_lt k (8 * q + r))

  step : seen (k + 1) xs (laid_one k f x) q r ≡ seen k (x ∷ xs) f q r
  step = ⊎_elim
      (λ (h : r < 8). ⊎_elim
      (λ (e : k ≡ 8 * q + r). at_it e h)
      (λ (e : k ≡ 8 * q + r → ⊥). off_it h e (same_no k q r e))
      (cases_eq k (8 * q + r)))
      (λ (h : 8 ≤ r). let b = same_far k q r h in grind (arith, nat_tests, b))
      (cases_lt r 8)

gathered_cells : (k : ℕ) (f : Content) (xs : List (Option Entry)) (q r : ℕ) → gathered f (tagged_from k xs) q r ≡ seen k xs f q r
gathered_cells k f [] q r = grind (arith, nat_tests)
gathered_cells k f (x ∷ xs) q r = ap (λ g. g q r) (one k f x (tagged_from (k + 1) xs)) ∙ gathered_cells (k + 1) (laid_one k f x) xs q r ∙ step k f x xs q r

entry_or_none : (x : Option Entry) → entry_or x None ≡ x
entry_or_none None = refl
entry_or_none (Some e) = refl

all_cells : (xs : List (Option Entry)) → length xs ≡ 512 → (q r : ℕ) → seen 0 xs nothing q r ≡ cell_content xs q r
all_cells xs h q r =
    let o : entry_or (get_or xs (8 * q + r - 0) None) None ≡ get_or xs (8 * q + r) None = entry_or_none (get_or xs (8 * q + r - 0) None) ∙ ap (λ n. get_or xs n None) (omega arith) in
    grind (arith, nat_tests, o)

cell_at_none : (xs : List (Option Entry)) (p o : ℕ) → inside p o ≡ false → cell_content xs p o ≡ None
cell_at_none xs p o e = ap (λ b. cond b (get_or xs (8 * p + o) None) None) e

-- the record of a cell names an object that there is
pub tagged-inside : (k : ℕ) (x : Option Entry) → k < 512 → InsideRecord (tagged k x)
tagged-inside k None h = tt
tagged-inside k (Some e) h = let a = div-add-mod k 8 in let b : k % 8 < 8 = mod-lt k (lit< tt) in and_from (ltb (k / 8) 64) (ltb (k % 8) 8) (lt-ltb (k / 8) 64 (omega arith)) (lt-ltb (k % 8) 8 b)

module _ (s : CellLog) where
  pub cell_numbers : NumbersAtMost (cell_state s).content s.last
  cell_numbers p o = at_most_if (inside p o) s.last (get_or s.cells (8 * p + o) None) (at_most_cell s.last s.cells (8 * p + o) s.order)

  pub cell_inside : Inside (cell_state s).content
  cell_inside = cell_at_none s.cells

  pub cell_told : gathered nothing (cell_places s) ≡ (cell_state s).content
  cell_told = fun_ext (λ q. fun_ext (λ r. gathered_cells 0 nothing s.cells q r ∙ all_cells s.cells s.size q r))

  pub cell_places_few : length (cell_places s) ≤ 512
  cell_places_few = omega (arith, length-places 0 s.cells, s.size)

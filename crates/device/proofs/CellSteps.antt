-- How the cells of a cell log change.
use Rattle.std.proofs.Common.{◌≡◌, ℕ, zero, suc, ◌+◌, ◌*◌, ◌<◌, ◌≤◌, Bool, true, false, cond, not, ◌&&◌, ltb, leb, List, [], ◌∷◌, map, length, get_or, take, drop, ◌++◌, set, replicate, Some, None, Option, refl, ap, ◌∙◌, ⊎_elim, arith}
use mathlib.Core.Path.{fun_ext}
use Rattle.std.proofs.lemmas.Bool.{leb-true, le-leb, and_parts, ltb-true, cases_eq}
use Rattle.std.proofs.lemmas.List.{map_more, get_or-set_same, get_or-set_other}
use Rattle.std.proofs.lemmas.Bool.Decides.{nat_tests}
use Rattle.std.proofs.lemmas.List.Elements.{All-set, All-weaker, All-from_get_or}
use Rattle.std.proofs.lemmas.List.Sums.{AllPass-from_list_all, list_all-from_AllPass}
use borrow.Rule.Slice.PartMut.{put_mid, mid_of}
use Rattle.device.specs.declared.record.Entry.{Entry}
use Rattle.device.specs.declared.record.Change.{Change}
use Rattle.device.specs.declared.record.Record.{Record}
use Rattle.device.specs.Changes.{Content, nothing, inside, put, stamped, appended, newer, forgotten, distinct, named, newest}
use Rattle.device.specs.Cells.{cell_content, within_last, all_within}
use Rattle.device.proofs.Admitted.{zero_change}
use Rattle.device.proofs.Newest.{newest-++}

get_or-same : (n k : ℕ) → get_or {A = Option Entry} (replicate n None) k None ≡ None
get_or-same zero k = refl
get_or-same (suc n) zero = refl
get_or-same (suc n) (suc k) = get_or-same n k

pub content_none : (n : ℕ) → cell_content (replicate n None) ≡ nothing
content_none n = fun_ext (λ p. fun_ext (λ o. cond_none (inside p o) (get_or-same n (8 * p + o))))
  where
    cond_none : (b : Bool) {x : Option Entry} → x ≡ None → cond b x None ≡ None
    cond_none true e = e
    cond_none false e = refl

-- a record's entry written to its cell
pub content_set : (cells : List (Option Entry)) (r : Record) → length cells ≡ 512 → inside r.id.page r.id.object ≡ true → (q s : ℕ) → cell_content (set cells (8 * r.id.page + r.id.object) (Some r.entry)) q s ≡ put (cell_content cells) r q s
content_set cells r h k q s =
    let l = and_parts (ltb r.id.page 64) (ltb r.id.object 8) k in
    let below : (r.id.page < 64) × (r.id.object < 8) = (ltb-true r.id.page 64 l.0, ltb-true r.id.object 8 l.1) in
    ⊎_elim
    (λ (b : 8 * q + s ≡ 8 * r.id.page + r.id.object). at_place b)
    (λ (b : 8 * q + s ≡ 8 * r.id.page + r.id.object → ⊥). let other = get_or-set_other cells (8 * r.id.page + r.id.object) (8 * q + s) (Some r.entry) None b in grind (arith, nat_tests, other))
    (cases_eq (8 * q + s) (8 * r.id.page + r.id.object))
  where
    at_place : 8 * q + s ≡ 8 * r.id.page + r.id.object → cell_content (set cells (8 * r.id.page + r.id.object) (Some r.entry)) q s ≡ put (cell_content cells) r q s
    at_place b =
        let l = and_parts (ltb r.id.page 64) (ltb r.id.object 8) k in
        let low = ltb-true r.id.page 64 l.0 in
        let few = ltb-true r.id.object 8 l.1 in
        let m : 8 * r.id.page + r.id.object < length cells = omega arith in
        let here : get_or (set cells (8 * r.id.page + r.id.object) (Some r.entry)) (8 * q + s) None ≡ Some r.entry = ap (λ j. get_or (set cells (8 * r.id.page + r.id.object) (Some r.entry)) j None) b ∙ get_or-set_same cells (8 * r.id.page + r.id.object) (Some r.entry) None m in
        grind (arith, nat_tests, here)

-- one change more
pub appended_more : (f : Content) (n : ℕ) (xs : List Change) (i : ℕ) → i < length xs → appended f n (take (i + 1) xs) ≡ put (appended f n (take i xs)) (stamped n (get_or xs i zero_change))
appended_more f n xs i h = ap (newest f) (map_more (stamped n) xs i zero_change h) ∙ newest-++ f (map (stamped n) (take i xs)) (stamped n (get_or xs i zero_change) ∷ [])

pub distinct_at : (xs : List Change) (i : ℕ) → i < length xs → distinct xs ≡ true → inside (get_or xs i zero_change).id.page (get_or xs i zero_change).id.object ≡ true
distinct_at [] i h e = absurd (omega arith)
distinct_at (x ∷ xs) zero h e = (and_parts (inside x.id.page x.id.object) (not (named xs x.id.page x.id.object) && distinct xs) e).0
distinct_at (x ∷ xs) (suc i) h e =
    let both = and_parts (inside x.id.page x.id.object) (not (named xs x.id.page x.id.object) && distinct xs) e in
    distinct_at xs i (omega arith) (and_parts (not (named xs x.id.page x.id.object)) (distinct xs) both.1).1

pub within_set : (n : ℕ) (xs : List (Option Entry)) (k : ℕ) (x : Option Entry) → all_within n xs ≡ true → within_last n x ≡ true → all_within n (set xs k x) ≡ true
within_set n xs k x e h = list_all-from_AllPass (within_last n) (set xs k x) (All-set (λ y. within_last n y ≡ true) xs k x h (AllPass-from_list_all (within_last n) xs e))

within_one : (m n : ℕ) (x : Option Entry) → m ≤ n → within_last m x ≡ true → within_last n x ≡ true
within_one m n None h e = refl
within_one m n (Some x) h e = le-leb x.number n (let k : x.number ≤ m = leb-true x.number m e in omega arith)

pub within_more : (m n : ℕ) (xs : List (Option Entry)) → m ≤ n → all_within m xs ≡ true → all_within n xs ≡ true
within_more m n xs h e =
    list_all-from_AllPass (within_last n) xs
    (All-weaker (λ y. within_last m y ≡ true) (λ y. within_last n y ≡ true) (λ x k. within_one m n x h k) xs (AllPass-from_list_all (within_last m) xs e))

pub within_newer : (n u : ℕ) (x : Option Entry) → within_last n x ≡ true → within_last n (newer u x) ≡ true
within_newer n u None e = refl
within_newer n u (Some x) e = cond_within (ltb u x.number) e
  where
    cond_within : (b : Bool) → within_last n (Some x) ≡ true → within_last n (cond b (Some x) None) ≡ true
    cond_within true k = k
    cond_within false k = refl

pub within_at : (n : ℕ) (xs : List (Option Entry)) (k : ℕ) → all_within n xs ≡ true → within_last n (get_or xs k None) ≡ true
within_at n [] k e = refl
within_at n (x ∷ xs) zero e = (and_parts (within_last n x) (all_within n xs) e).0
within_at n (x ∷ xs) (suc k) e = within_at n xs k (and_parts (within_last n x) (all_within n xs) e).1

pub within_each : (n : ℕ) (xs : List (Option Entry)) → ((k : ℕ) → within_last n (get_or xs k None) ≡ true) → all_within n xs ≡ true
within_each n xs h = list_all-from_AllPass (within_last n) xs (All-from_get_or (λ y. within_last n y ≡ true) xs None (λ k l. h k))

-- Sweeping the k cells from cell a on

module _ (u : ℕ) where
  swept_front : (k : ℕ) (xs : List (Option Entry)) (j : ℕ) → get_or (map (newer u) (take k xs) ++ drop k xs) j None ≡ cond (ltb j k) (newer u (get_or xs j None)) (get_or xs j None)
  swept_front zero xs j = grind (arith, nat_tests)
  swept_front (suc k) [] j = grind (arith, nat_tests)
  swept_front (suc k) (x ∷ xs) zero = grind (arith, nat_tests)
  swept_front (suc k) (x ∷ xs) (suc j) = let rest = swept_front k xs j in grind (arith, nat_tests, rest)

  pub swept_at : (a k : ℕ) (xs : List (Option Entry)) (j : ℕ) →
      get_or (put_mid a k xs (map (newer u) (take k (drop a xs)))) j None ≡ cond (leb a j && ltb j (a + k)) (newer u (get_or xs j None)) (get_or xs j None)
  swept_at zero k xs j = let front = swept_front k xs j in grind (arith, nat_tests, front)
  swept_at (suc a) zero [] j = grind (arith, nat_tests)
  swept_at (suc a) (suc k) [] j = grind (arith, nat_tests)
  swept_at (suc a) k (x ∷ xs) zero = grind (arith, nat_tests)
  swept_at (suc a) k (x ∷ xs) (suc j) = let rest = swept_at a k xs j in grind (arith, nat_tests, rest)

  module _ (p : ℕ) (xs : List (Option Entry)) (h : p < 64) where
    abbrev pub swept : List (Option Entry)
    swept = put_mid (8 * p) 8 xs (map (newer u) (take 8 (drop (8 * p) xs)))

    pub swept_by : (a k : ℕ) (ys : List (Option Entry)) → a ≡ 8 * p → k ≡ 8 → ys ≡ map (newer u) (mid_of a k xs) → put_mid a k xs ys ≡ swept
    swept_by a k ys e f g =
        ap (put_mid a k xs) g
        ∙ ap (λ n. put_mid a n xs (map (newer u) (mid_of a n xs))) f
        ∙ ap (λ b. put_mid b 8 xs (map (newer u) (mid_of b 8 xs))) e

    pub content_swept : cell_content swept ≡ forgotten (cell_content xs) p u
    content_swept = fun_ext (λ q. fun_ext (λ o. let at = swept_at (8 * p) 8 xs (8 * q + o) in grind (arith, nat_tests, at)))

    pub within_swept : (n : ℕ) → all_within n xs ≡ true → all_within n swept ≡ true
    within_swept n e = within_each n swept (λ k. let at = swept_at (8 * p) 8 xs k in let was = within_at n xs k e in let less = within_newer n u (get_or xs k None) was in grind (arith, nat_tests, at, was, less))

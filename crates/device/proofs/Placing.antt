-- Pages and the places where they lie.
use Rattle.std.proofs.Common.{false, ◌≡◌, ℕ, zero, suc, Bool, not, ◌∷◌, add-one, ◌<◌, ◌≤◌, min, true, cond, ◌&&◌, eqb, ltb, List, [], length, get_or, is_some, Some, None, Option, sym, refl, ap, ◌∙◌, ⊎_elim, arith}
use mathlib.Core.Path.{fun_ext}
use Rattle.std.proofs.lemmas.List.{get_or-set_same, get_or-set_other, length-set}
use Rattle.std.proofs.lemmas.Bool.{cases_lt, cases_eq, cond-true, lt-ltb}
use Rattle.std.proofs.lemmas.Bool.Decides.{nat_tests}
use Rattle.std.proofs.lemmas.Iterator.Adapters.{option_map_id}
use Rattle.std.proofs.lemmas.Option.{none-some, same_Some}
use Rattle.std.specs.Option.{option_map}
use Rattle.std.specs.List.{range_with_len, slice_get, filter}
use Rattle.device.specs.Pages.{row}
use Rattle.device.specs.Disks.{write_state}
use Rattle.device.specs.Places.{object_at, overwritten, placed, Within, Apart, nth_place, spared_place}
use Rattle.device.proofs.Rows.{get_or-row}

-- one number more, which the filter takes or not
step : (b : Bool) (i p : ℕ) (xs : List ℕ) (x y : Option ℕ) → slice_get xs p ≡ x → slice_get (i ∷ xs) p ≡ y → slice_get (cond (not b) (i ∷ xs) xs) p ≡ cond b x y
step true i p xs x y e f = e
step false i p xs x y e f = f

-- the p-th place that is not spared, as an element of the list of all such places
nth_of_list : (s : ℕ → Bool) (n i p : ℕ) → slice_get (filter (λ m. not (s m)) (range_with_len i n)) p ≡ nth_place s n i p
nth_of_list s zero i p = refl
nth_of_list s (suc n) i zero = rw add-one (step (s i) i zero _ _ _ (nth_of_list s n (suc i) zero) refl)
nth_of_list s (suc n) i (suc p) = rw add-one (step (s i) i (suc p) _ _ _ (nth_of_list s n (suc i) (suc p)) (nth_of_list s n (suc i) p))

pub spared_found : (s : ℕ → Bool) (n p : ℕ) (r : Option ℕ) → p < 64 → option_map (λ m. m) r ≡ slice_get (filter (λ m. not (s m)) (range_with_len 0 n)) p → r ≡ spared_place s n p
spared_found s n p r h e = sym (option_map_id r) ∙ e ∙ nth_of_list s n 0 p ∙ sym (cond-true (ltb p 64) _ _ (lt-ltb p 64 h))

-- a write keeps the number of places
length-overwritten : (memory : List (List ℕ)) (x : Option ℕ) (new : ℕ → ℕ) (k : ℕ) → length (overwritten memory x new k) ≡ length memory
length-overwritten memory None new k = refl
length-overwritten memory (Some i) new k = length-set memory i _

module _ (memory : List (List ℕ)) (new : ℕ → ℕ) (k : ℕ) (i : ℕ) (h : i < length memory) where
  -- the page that was written
  at_same : (o : ℕ) → object_at (overwritten memory (Some i) new k) (Some i) o ≡ cond (ltb o (min k 8)) (new o) (object_at memory (Some i) o)
  at_same o = ⊎_elim
      (λ (l : o < 8).
      let f : ℕ → ℕ = λ o. cond (ltb o (min k 8)) (new o) (get_or (get_or memory i []) o 0) in
      let e = ap (λ g. get_or g o 0) (get_or-set_same memory i (row f) [] h) ∙ get_or-row f o l in
      grind (arith, nat_tests, e))
      (λ (l : 8 ≤ o). grind (arith, nat_tests))
      (cases_lt o 8)

  -- another page
  at_other : (j o : ℕ) → (j ≡ i → ⊥) → object_at (overwritten memory (Some i) new k) (Some j) o ≡ object_at memory (Some j) o
  at_other j o n = ap (λ g. cond (ltb o 8) (get_or g o 0) 0) (get_or-set_other memory i j _ [] n)

  each : (place : ℕ → Option ℕ) → Apart place → (p q o : ℕ) (y : Option ℕ) → place p ≡ Some i → place q ≡ y →
      object_at (overwritten memory (Some i) new k) y o ≡ cond (is_some (place p) && (eqb q p && ltb o (min k 8))) (new o) (object_at memory y o)
  each place apart p q o None e f = let n : q ≡ p → ⊥ = λ c. none-some i (sym f ∙ ap place c ∙ e) in grind (arith, nat_tests)
  each place apart p q o (Some j) e f = ⊎_elim
      (λ (c : q ≡ p).
      let z : j ≡ i = same_Some j i (sym f ∙ ap place c ∙ e) in
      let w = at_same o in
      ap (λ a. object_at (overwritten memory (Some i) new k) (Some a) o) z ∙ w ∙ grind (arith, nat_tests))
      (λ (c : q ≡ p → ⊥). at_other j o (λ z. c (apart p q i e (f ∙ ap (λ a. Some a) z))) ∙ grind (arith, nat_tests))
      (cases_eq q p)

  -- writing at a page's place writes that page, where the layout knows how many places there are
  pub placed_write : (place : ℕ → ℕ → Option ℕ) (p : ℕ) (after : List (List ℕ)) → Apart (place (length memory)) → place (length memory) p ≡ Some i → after ≡ overwritten memory (Some i) new k →
      placed after (place (length after)) ≡ write_state (placed memory (place (length memory))) p new k
  placed_write place p after apart e w =
      ap (λ m. placed m (place (length m))) w
      ∙ ap (λ n. placed (overwritten memory (Some i) new k) (place n)) (length-overwritten memory (Some i) new k)
      ∙ ap (λ g. record { good = λ q. is_some (place (length memory) q); object = g }) (fun_ext (λ q. fun_ext (λ o. each (place (length memory)) apart p q o (place (length memory) q) e refl)))

-- for every page: one without a place is not written
pub disk_write : (place : ℕ → ℕ → Option ℕ) (memory after : List (List ℕ)) (p : ℕ) (x : Option ℕ) (new : ℕ → ℕ) (k : ℕ) →
    Apart (place (length memory)) → x ≡ place (length memory) p → Within x (length memory) → after ≡ overwritten memory x new k →
    placed after (place (length after)) ≡ write_state (placed memory (place (length memory))) p new k
disk_write place memory after p None new k apart e h w =
    let old = placed memory (place (length memory)) in
    ap (λ m. placed m (place (length m))) w
    ∙ ap (λ g. record { good = old.good; object = g }) (fun_ext (λ q. fun_ext (λ o. ap (λ y. cond (is_some y && (eqb q p && ltb o (min k 8))) (new o) (old.object q o)) e)))
disk_write place memory after p (Some i) new k apart e h w = placed_write memory new k i h place p after apart (sym e) w

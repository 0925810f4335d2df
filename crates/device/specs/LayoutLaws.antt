-- The laws of the two layouts, with their proofs, which an impl can cite only from here: two pages have two places, and only pages below 64 have one.
use Rattle.std.specs.Prelude.{◌≡◌, ℕ, zero, suc, ◌<◌, ◌≤◌, Bool, true, false, cond, not, ◌&&◌, is_some, Some, None, Option, nat_lt, refl}
use Rattle.std.proofs.Common.{sym, ap, ◌∙◌}
use Rattle.std.proofs.Math.Nat.{le_of_eq, le_of_suc-le, not-suc-le_self}
use Rattle.std.proofs.lemmas.Bool.{and_parts, ltb-true}
use Rattle.std.proofs.lemmas.Option.{none-some, same_Some, cond_some}
use Rattle.device.specs.Places.{Apart, nth_place, plain_place, spared_place}

-- the test of a place that was found
test_of : (b : Bool) (x : Option ℕ) → is_some (cond b x None) ≡ true → b ≡ true
test_of true x e = refl
test_of false x e = e

-- the test of the plain layout
abbrev has_plain : (ℕ → Bool) → ℕ → ℕ → Bool
has_plain bad n p = nat_lt p 64 && (nat_lt p n && not (bad p))

pub plain_apart : (bad : ℕ → Bool) (n : ℕ) → Apart (plain_place bad n)
plain_apart bad n p q a e f = (cond_some (has_plain bad n q) q a f).1 ∙ sym (cond_some (has_plain bad n p) p a e).1

pub plain_below_64 : (bad : ℕ → Bool) (n p : ℕ) → is_some (plain_place bad n p) ≡ true → p < 64
plain_below_64 bad n p e = ltb-true p 64 (and_parts (nat_lt p 64) (nat_lt p n && not (bad p)) (test_of (has_plain bad n p) (Some p) e)).0

-- two searches that take the same turn and find place a
turn : {P : Type 0} (a : ℕ) (b : Bool) (x y v w : Option ℕ) → (x ≡ Some a → v ≡ Some a → P) → (y ≡ Some a → w ≡ Some a → P) → cond b x y ≡ Some a → cond b v w ≡ Some a → P
turn a true x y v w f g d e = f d e
turn a false x y v w f g d e = g d e

-- what is found lies at place i or behind it
nth_from : (s : ℕ → Bool) (n i p a : ℕ) → nth_place s n i p ≡ Some a → i ≤ a
nth_from s zero i p a e = absurd (none-some a e)
nth_from s (suc n) i zero a e = turn a (s i) _ _ _ _ (λ e f. le_of_suc-le (nth_from s n (suc i) zero a e)) (λ e f. le_of_eq (same_Some i a e)) e e
nth_from s (suc n) i (suc p) a e = turn a (s i) _ _ _ _ (λ e f. le_of_suc-le (nth_from s n (suc i) (suc p) a e)) (λ e f. le_of_suc-le (nth_from s n (suc i) p a e)) e e

-- place i itself is not found behind it
nth_behind : (s : ℕ → Bool) (n i p a : ℕ) → ◌≡◌ {A = Option ℕ} (Some i) (Some a) → nth_place s n (suc i) p ≡ Some a → ⊥
nth_behind s n i p a e f = not-suc-le_self i (nth_from s n (suc i) p i (f ∙ sym e))

nth_apart : (s : ℕ → Bool) (n i : ℕ) → Apart (nth_place s n i)
nth_apart s zero i p q a e f = absurd (none-some a e)
nth_apart s (suc n) i zero zero a e f = refl
nth_apart s (suc n) i zero (suc q) a e f = turn a (s i) _ _ _ _ (λ e f. nth_apart s n (suc i) zero (suc q) a e f) (λ e f. absurd (nth_behind s n i q a e f)) e f
nth_apart s (suc n) i (suc p) zero a e f = turn a (s i) _ _ _ _ (λ e f. nth_apart s n (suc i) (suc p) zero a e f) (λ e f. absurd (nth_behind s n i p a f e)) e f
nth_apart s (suc n) i (suc p) (suc q) a e f = turn a (s i) _ _ _ _ (λ e f. nth_apart s n (suc i) (suc p) (suc q) a e f) (λ e f. ap suc (nth_apart s n (suc i) p q a e f)) e f

pub spared_apart : (s : ℕ → Bool) (n : ℕ) → Apart (spared_place s n)
spared_apart s n p q a e f = nth_apart s n 0 p q a (found (nat_lt p 64) (nth_place s n 0 p) e) (found (nat_lt q 64) (nth_place s n 0 q) f)
  where
    found : (b : Bool) (x : Option ℕ) → cond b x None ≡ Some a → x ≡ Some a
    found true x e = e
    found false x e = absurd (none-some a e)

pub spared_below_64 : (s : ℕ → Bool) (n p : ℕ) → is_some (spared_place s n p) ≡ true → p < 64
spared_below_64 s n p e = ltb-true p 64 (test_of (nat_lt p 64) (nth_place s n 0 p) e)

-- What holds of the value of a function of numbers that may be missing.
use Rattle.std.proofs.Common.{◌≡◌, ℕ, IfSome, Some, None, Option, refl, subst}
use Rattle.text.specs.Optional.{of_1, of_2, of_3, of_4}

module _ {Z : Type 0} (P : Z → Type 0) where
  pub found_1 : (f : ℕ → Z) (x : Option ℕ) → ((a : ℕ) → x ≡ Some a → P (f a)) → IfSome (of_1 f x) P
  found_1 f None h = tt
  found_1 f (Some a) h = h a refl

  pub found_2 : (f : ℕ → ℕ → Z) (x y : Option ℕ) → ((a b : ℕ) → x ≡ Some a → y ≡ Some b → P (f a b)) → IfSome (of_2 f x y) P
  found_2 f None y h = tt
  found_2 f (Some a) y h = found_1 (f a) y (λ b. h a b refl)

  pub found_3 : (f : ℕ → ℕ → ℕ → Z) (x y z : Option ℕ) → ((a b c : ℕ) → x ≡ Some a → y ≡ Some b → z ≡ Some c → P (f a b c)) → IfSome (of_3 f x y z) P
  found_3 f None y z h = tt
  found_3 f (Some a) y z h = found_2 (f a) y z (λ b c. h a b c refl)

  pub found_4 : (f : ℕ → ℕ → ℕ → ℕ → Z) (x y z w : Option ℕ) → ((a b c d : ℕ) → x ≡ Some a → y ≡ Some b → z ≡ Some c → w ≡ Some d → P (f a b c d)) → IfSome (of_4 f x y z w) P
  found_4 f None y z w h = tt
  found_4 f (Some a) y z w h = found_3 (f a) y z w (λ b c d. h a b c d refl)

  pub found_at : (r : Option Z) (v : Z) → r ≡ Some v → IfSome r P → P v
  found_at r v e h = subst (λ o. IfSome o P) e h

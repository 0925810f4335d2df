-- A page number is known by the byte that tells it.
use Rattle.std.proofs.Common.{◌≡◌, ℕ, ◌<◌, ◌≤◌, Some, None, Option, sym, refl, ap, ◌∙◌, arith}
use native.Mathlib.Bridge.{le_prop}
use native.Mathlib.Decide.{dec_lt}
use Rattle.calls.specs.declared.page_number.PageNumber.{PageNumber}
use Rattle.calls.specs.PageNumbers.{page_number, page_byte}

-- two proofs of the bound are one
same : (n : ℕ) (h k : n < 255) → ◌≡◌ {A = PageNumber} (record { number = n; below_255 = h }) (record { number = n; below_255 = k })
same n h k = λ i. record { number = n; below_255 = le_prop h k i }

pub page_number_of : (p : PageNumber) → page_number p.number ≡ Some p
unfolding page_number
page_number_of p =
    elim (dec_lt p.number 255) as (λ d. (elim d as (λ _. Option PageNumber) [ yes h ↦ Some record { number = p.number; below_255 = h } | no h ↦ None ]) ≡ Some p)
    [ yes h ↦ ap Some (same p.number h p.below_255) | no h ↦ absurd (h p.below_255) ]

pub no_page_number : (n : ℕ) → 255 ≤ n → page_number n ≡ None
unfolding page_number
no_page_number n past =
    elim (dec_lt n 255) as (λ d. (elim d as (λ _. Option PageNumber) [ yes h ↦ Some record { number = n; below_255 = h } | no h ↦ None ]) ≡ None)
    [ yes h ↦ absurd (omega arith) | no h ↦ refl ]

-- a page or none is told by its byte
pub page_number_byte : (p : Option PageNumber) → page_number (page_byte p) ≡ p
page_number_byte None = no_page_number 255 (omega arith)
page_number_byte (Some p) = page_number_of p

-- and every byte tells a page or none
pub page_byte_number : (n : ℕ) → n < 256 → page_byte (page_number n) ≡ n
page_byte_number n h =
    elim (dec_lt n 255)
    [ yes k ↦ ap page_byte (page_number_of (record { number = n; below_255 = k })) | no k ↦ let e : n ≡ 255 = omega arith in ap page_byte (no_page_number n (omega arith)) ∙ sym e ]

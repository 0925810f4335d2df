-- Pages as a byte tells them, where 255 tells that there is none.
use Rattle.std.specs.Prelude.{ℕ, Some, None, Option}
use Rattle.std.proofs.Math.Decide.{dec_lt}
use Rattle.calls.specs.declared.page_number.PageNumber.{PageNumber}

-- the page of number n, if n is below 255
unfoldable pub page_number : ℕ → Option PageNumber
page_number n = elim (dec_lt n 255) [ yes h ↦ Some record { number = n; below_255 = h } | no h ↦ None ]

-- the byte that tells a page or none
abbrev pub page_byte : Option PageNumber → ℕ
page_byte None = 255
page_byte (Some p) = p.number

-- The limits of a making, and the ranges of a call's arguments.
use Rattle.std.specs.Prelude.{ℕ, Bool, true, false, cond, ◌&&◌, ◌||◌, Some, None, Option, nat_le, nat_lt}
use Rattle.calls.specs.declared.page_number.PageNumber.{PageNumber}
use Rattle.calls.specs.declared.call.Call.{Call}
use Rattle.calls.specs.declared.reason.Reason.{Reason}
use Rattle.calls.specs.declared.reason.Reason.TheVariants.{NoSuchBench, NoSuchPage, NoSuchObject}
use Rattle.calls.specs.Calls.{named}
use Rattle.store.specs.declared.sizes.Sizes.{Sizes}

-- no bad page, or one below n
abbrev pub is_store_page : Option PageNumber → ℕ → Bool
is_store_page None n = true
is_store_page (Some p) n = nat_lt p.number n

-- 1 to 64 pages, 1 to 8 benches, a cache of 8 to 64 entries
abbrev pub in_limits : ℕ → ℕ → ℕ → Option PageNumber → Bool
in_limits n b k bad = nat_le 1 n && nat_le n 64 && nat_le 1 b && nat_le b 8 && nat_le 8 k && nat_le k 64 && is_store_page bad n

abbrev pub made_sizes : ℕ → ℕ → ℕ → Option PageNumber → Option Sizes
made_sizes n b k bad = cond (in_limits n b k bad) (Some record { pages = n; benches = b; entries = k }) None

abbrev pub not_below : Option ℕ → ℕ → Bool
not_below None limit = false
not_below (Some n) limit = nat_le limit n

-- the first of the bench, the page, and the object or the cut point that is out of range
abbrev pub out_of_range : Sizes → Call → Option Reason
out_of_range z c =
    cond (not_below (named c).bench z.benches) (Some NoSuchBench)
    (cond (not_below (named c).page z.pages) (Some NoSuchPage)
    (cond (not_below (named c).object 8 || not_below (named c).cut_point 10) (Some NoSuchObject)
    None))

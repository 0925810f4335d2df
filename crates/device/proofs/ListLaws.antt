-- What holds of every list log.
use Rattle.std.proofs.Common.{◌≡◌, ℕ, ◌≤◌, List, [], ◌∷◌, map, length, get_or, Some, None, refl, ap, ◌∙◌, arith}
use Rattle.std.proofs.lemmas.List.{length-take-le, length-map}
use Rattle.device.specs.declared.record.Record.{Record}
use Rattle.device.specs.declared.list.ListLog.{ListLog}
use Rattle.device.specs.Changes.{Content, nothing, put, newest}
use Rattle.device.specs.Logs.{LogState, Empty, NumbersAtMost, Inside, InsideRecord, entry_count, gathered}
use Rattle.device.specs.Lists.{in_use, list_state, list_places}
use Rattle.device.proofs.Newest.{newest_at_most, newest-inside, none_left, inside_at}
use Rattle.device.proofs.Counts.{count_records}

gathered_some : (f : Content) (rs : List Record) → gathered f (map (λ r. Some r) rs) ≡ newest f rs
gathered_some f [] = refl
gathered_some f (r ∷ rs) = gathered_some (put f r) rs

pub log_state_by : {f g : Content} {m n free : ℕ} → f ≡ g → m ≡ n → ◌≡◌ {A = LogState} record { content = f; last = m; free = free } record { content = g; last = n; free = free }
log_state_by {g = g} {m = m} {free = free} a b = ap (λ h. record { content = h; last = m; free = free }) a ∙ ap (λ k. record { content = g; last = k; free = free }) b

module _ (s : ListLog) where
  pub used_length : length (in_use s) ≡ s.used
  used_length = length-take-le s.used s.records.now s.within

  pub list_numbers : NumbersAtMost (list_state s).content s.last
  list_numbers = newest_at_most nothing 0 s.last (in_use s) (λ p o. tt) s.order

  pub list_inside : Inside (list_state s).content
  list_inside = newest-inside nothing 0 s.last (in_use s) (λ p o e. refl) s.order

  pub list_room : Empty (list_state s).content → 8 ≤ (list_state s).free
  list_room h = let z = none_left (in_use s) h in omega (arith, used_length, s.least)

  pub list_told : gathered nothing (list_places s) ≡ (list_state s).content
  list_told = gathered_some nothing (in_use s)

  pub list_places_inside : (i : ℕ) → InsideRecord (get_or (list_places s) i None)
  list_places_inside i = inside_at 0 s.last (in_use s) i s.order

  pub list_places_few : length (list_places s) ≤ 64
  list_places_few = omega (arith, length-map (in_use s) (λ r. Some r), used_length, s.within, s.most)

  pub list_entries_few : entry_count (list_state s).content ≤ 64
  list_entries_few = omega (arith, count_records (in_use s), used_length, s.within, s.most)

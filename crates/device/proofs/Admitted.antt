-- What an accepted list of changes is.
use Rattle.std.proofs.Common.{◌≡◌, ℕ, ◌+◌, ◌≤◌, Bool, true, false, cond, ◌&&◌, eqb, ltb, List, length, Ok, Err, Result, refl, arith}
use Rattle.std.proofs.lemmas.Bool.{and_parts, ltb-true}
use Rattle.std.proofs.lemmas.Bool.Decides.{nat_tests}
use Rattle.device.specs.declared.fault.DeviceFault.{DeviceFault}
use Rattle.device.specs.declared.fault.DeviceFault.TheVariants.{BadChanges, NumbersSpent, LogFull}
use Rattle.device.specs.declared.record.Change.{Change}
use Rattle.device.specs.Logs.{admission}
use Rattle.device.specs.Changes.{distinct, proper}

abbrev pub zero_change : Change
zero_change = record { id = record { page = 0; object = 0 }; value = 0 }

module _ (last free : ℕ) (xs : List Change) (n : ℕ) where
  -- what an append that is accepted says of its list and its number
  pub record Admitted : Type 0 where
    pub next : n ≡ last + 1
    pub room : length xs ≤ free
    pub few : length xs ≤ 8
    pub apart : distinct xs ≡ true

  pub admitted : Ok n ≡ admission last free xs → Admitted
  admitted e = go (proper xs) (eqb last 4294967295) (ltb free (length xs)) refl refl refl e
    where
      go : (a b c : Bool) → proper xs ≡ a → eqb last 4294967295 ≡ b → ltb free (length xs) ≡ c →
          ◌≡◌ {A = Result ℕ DeviceFault} (Ok n) (cond a (cond b (Err NumbersSpent) (cond c (Err LogFull) (Ok (last + 1)))) (Err BadChanges)) → Admitted
      go false b c p q r k = let z : ◌≡◌ {A = ℕ} 0 1 = cc in absurd (omega arith)
      go true true c p q r k = let z : ◌≡◌ {A = ℕ} 0 1 = cc in absurd (omega arith)
      go true false true p q r k = let z : ◌≡◌ {A = ℕ} 0 1 = cc in absurd (omega arith)
      go true false false p q r k =
          let both = and_parts (ltb 0 (length xs) && ltb (length xs) 9) (distinct xs) p in
          record {
            next = cc;
            room = grind (arith, nat_tests);
            few = let l = ltb-true (length xs) 9 (and_parts (ltb 0 (length xs)) (ltb (length xs) 9) both.0).1 in omega arith;
            apart = both.1;
          }

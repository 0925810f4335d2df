-- The answers to all lines, one behind the other.
use Rattle.std.proofs.Common.{◌≡◌, ℕ, suc, ◌/◌, ◌%◌, ◌≤◌, false, cond, eqb, List, [], ◌∷◌, ◌++◌, length, take, Ok, Err, Result, sym, refl, ap, ◌∙◌, arith, length-take}
use Rattle.std.proofs.lemmas.List.{append_assoc, append-nil, take-append-le}
use Rattle.std.proofs.lemmas.Bool.Decides.{nat_tests}
use Rattle.calls.specs.declared.answer.Answer.{Answer}
use Rattle.calls.specs.Answers.{answer_bytes}
use Rattle.calls.specs.Refusals.{refusal_bytes}
use Rattle.store.specs.declared.denial.Denial.{Denial}
use Rattle.store.specs.declared.denial.Denial.TheVariants.{Refused, NotBuilt}
use Rattle.store.specs.declared.session.Session.{Session}
use Rattle.store.specs.Sessions.{fresh}
use Rattle.text.specs.Lines.{lines_of, in_front}
use Rattle.text.specs.Hex.{digit, hex}
use Rattle.codec.specs.Decoding.{decoded}
use Rattle.frames.specs.Answering.{outcome_text, read_outcome, answer_text, session_after, answers, ended, answered}

-- what is written, and the answers to the lines ls that are left, are all of the output
module _ (out all : List ℕ) (s : Session) (ls : List (List ℕ)) (sofar : out ++ ended (answers s ls) ≡ all) where
  pub one_more : (line : List ℕ) (rest : List (List ℕ)) (next : List ℕ) (t : Session) → ls ≡ line ∷ rest → next ≡ out ++ answer_text s line ++ 10 ∷ [] → t ≡ session_after s line → next ++ ended (answers t rest) ≡ all
  one_more line rest next t first wrote after =
      (λ i. wrote i ++ ended (answers (after i) rest))
      ∙ append_assoc (out ++ answer_text s line) (10 ∷ []) (ended (answers (session_after s line) rest))
      ∙ append_assoc out (answer_text s line) (10 ∷ ended (answers (session_after s line) rest))
      ∙ ap (λ l. out ++ ended (answers s l)) (sym first)
      ∙ sofar

  pub no_more : ls ≡ [] → out ≡ all
  no_more none = sym (append-nil out) ∙ ap (λ l. out ++ ended (answers s l)) (sym none) ∙ sofar

-- what was there before stays at the front
module _ (before out : List ℕ) (n : ℕ) (long : n ≡ length before) (kept : take n out ≡ before) where
  pub kept_front : (a b next : List ℕ) → next ≡ out ++ a ++ b → take n next ≡ before
  kept_front a b next wrote =
      let inside : n ≤ length out = omega (arith, length-take n out, ap length kept) in
      ap (take n) (wrote ∙ append_assoc out a b) ∙ take-append-le n out (a ++ b) inside ∙ kept

-- no newline among the characters
abbrev Plain : List ℕ → Type 0
Plain [] = Unit {0}
Plain (x ∷ xs) = (eqb x 10 ≡ false) × Plain xs

digit_plain : (n : ℕ) → eqb (digit n) 10 ≡ false
digit_plain n = grind (arith, nat_tests)

hex_plain : (bs : List ℕ) → Plain (hex bs)
hex_plain [] = tt
hex_plain (b ∷ bs) = (digit_plain (b / 16), (digit_plain (b % 16), hex_plain bs))

outcome_plain : (o : Result Answer Denial) → Plain (outcome_text o)
outcome_plain (Ok a) = hex_plain (answer_bytes a)
outcome_plain (Err (Refused r)) = hex_plain (refusal_bytes r)
outcome_plain (Err NotBuilt) = (refl, (refl, tt))

-- a line without a newline in it, ended by one, is read as a line again
ended_line : (line rest : List ℕ) → Plain line → lines_of (line ++ 10 ∷ rest) ≡ line ∷ lines_of rest
ended_line [] rest p = refl
ended_line (x ∷ line) rest p =
    ap (λ v. cond v ([] ∷ lines_of (line ++ 10 ∷ rest)) (in_front x (lines_of (line ++ 10 ∷ rest)))) p.0 ∙ ap (in_front x) (ended_line line rest p.1)

lines_answered : (s : Session) (ls : List (List ℕ)) → lines_of (ended (answers s ls)) ≡ answers s ls
lines_answered s [] = refl
lines_answered s (l ∷ ls) =
    ended_line (answer_text s l) (ended (answers (session_after s l) ls)) (outcome_plain (read_outcome s (decoded l)))
    ∙ ap (λ more. answer_text s l ∷ more) (lines_answered (session_after s l) ls)

as_many : (s : Session) (ls : List (List ℕ)) → length (answers s ls) ≡ length ls
as_many s [] = refl
as_many s (l ∷ ls) = ap suc (as_many (session_after s l) ls)

pub one_each : (input : List ℕ) → length (lines_of (answered input)) ≡ length (lines_of input)
one_each input = ap length (lines_answered fresh (lines_of input)) ∙ as_many fresh (lines_of input)

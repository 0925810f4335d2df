-- What is read of a line that is cut into the fields of a frame.
use Rattle.std.proofs.Common.{◌≡◌, ℕ, ◌*◌, ◌<◌, List, [], ◌∷◌, get_or, IfSome, Some, None, Option, sym, refl, ap, ◌∙◌, arith}
use Rattle.calls.specs.declared.call.Call.{Call}
use Rattle.calls.specs.declared.call.Call.TheVariants as call
use Rattle.calls.specs.PageNumbers.{page_number}
use Rattle.calls.proofs.Numbering.{page_byte_number}
use Rattle.codec.specs.declared.raw.Run.{Run}
use Rattle.codec.specs.declared.raw.RawFrame.{RawFrame}
use Rattle.codec.specs.declared.raw.RawFrame.TheVariants.{
  Making,
  Begin,
  Read,
  Write,
  Commit,
  Cancel,
  Fetch,
  Evict,
  Drop,
  Deliver,
  TakeUp,
  PutDown,
  LetGo,
  Restart,
  Cut,
}
use Rattle.text.specs.Hex.{hex, byte_at, word_at}
use Rattle.codec.specs.Frames.{call_bytes, frame}
use Rattle.codec.specs.Decoding.{frame_size, calls_in, decoded}
use Rattle.codec.specs.Raw.{RunOf, Shape, CutFrom, byte_of, raw_call}
use Rattle.text.specs.Optional.{of_1, of_2, of_3}
use Rattle.codec.proofs.Fields.{byte_joins, word_joins, shaped}
use Rattle.text.proofs.Hexes.{byte_small, spelled_hex}
use Rattle.text.proofs.Options.{found_1, found_2, found_3, found_4, found_at}
use Rattle.codec.proofs.Words.{joined, word_parts}

-- the call that is read is the line's, and the line is that call's frame
abbrev pub Reads : List ℕ → Option Call → Type 0
Reads line r = (r ≡ decoded line) × IfSome r (λ c. line ≡ frame c)

-- a line of n bytes with opcode op, whose frames have n bytes
module _ (op n : ℕ) (line : List ℕ) (size : frame_size op ≡ n) (s : Shape line op n) where
  row : decoded line ≡ get_or (calls_in line) op None
  row = shaped line op (s.0, s.1 ∙ ap (λ k. 2 * k) (sym size))

-- frames of opcode op whose fields are one, two or three bytes; f is their call
reads_1 : (f : ℕ → Call) (op : ℕ) (line : List ℕ) (a : Run) → frame_size op ≡ 2 → get_or (calls_in line) op None ≡ of_1 f (byte_at line 1) → ((x : ℕ) → call_bytes (f x) ≡ op ∷ x ∷ []) → Shape line op 2 × RunOf line 1 1 a → Reads line (of_1 f (byte_of a))
reads_1 f op line a size means bytes (s, at) =
    rw (byte_joins line 1 a at (omega arith)) (
      sym (row op 2 line size s ∙ means),
      found_1 _ f _ (λ x e. spelled_hex (op ∷ x ∷ []) line s.1 (s.0, (e, tt)) ∙ ap hex (sym (bytes x))),
    )

reads_2 : (f : ℕ → ℕ → Call) (op : ℕ) (line : List ℕ) (a b : Run) → frame_size op ≡ 3 → get_or (calls_in line) op None ≡ of_2 f (byte_at line 1) (byte_at line 2) → ((x y : ℕ) → call_bytes (f x y) ≡ op ∷ x ∷ y ∷ []) → Shape line op 3 × RunOf line 1 1 a × RunOf line 2 1 b → Reads line (of_2 f (byte_of a) (byte_of b))
reads_2 f op line a b size means bytes (s, at, bt) =
    rw (byte_joins line 1 a at (omega arith), byte_joins line 2 b bt (omega arith)) (
      sym (row op 3 line size s ∙ means),
      found_2 _ f _ _ (λ x y e g. spelled_hex (op ∷ x ∷ y ∷ []) line s.1 (s.0, (e, (g, tt))) ∙ ap hex (sym (bytes x y))),
    )

reads_3 : (f : ℕ → ℕ → ℕ → Call) (op : ℕ) (line : List ℕ) (a b d : Run) → frame_size op ≡ 4 → get_or (calls_in line) op None ≡ of_3 f (byte_at line 1) (byte_at line 2) (byte_at line 3) → ((x y z : ℕ) → call_bytes (f x y z) ≡ op ∷ x ∷ y ∷ z ∷ []) → Shape line op 4 × RunOf line 1 1 a × RunOf line 2 1 b × RunOf line 3 1 d → Reads line (of_3 f (byte_of a) (byte_of b) (byte_of d))
reads_3 f op line a b d size means bytes (s, at, bt, dt) =
    rw (byte_joins line 1 a at (omega arith), byte_joins line 2 b bt (omega arith), byte_joins line 3 d dt (omega arith)) (
      sym (row op 4 line size s ∙ means),
      found_3 _ f _ _ _ (λ x y z e g h. spelled_hex (op ∷ x ∷ y ∷ z ∷ []) line s.1 (s.0, (e, (g, (h, tt)))) ∙ ap hex (sym (bytes x y z))),
    )

reads_making : (line : List ℕ) (a b d e : Run) → CutFrom line (Making a b d e) → Reads line (raw_call (Making a b d e))
reads_making line a b d e (s, at, bt, dt, et) =
    rw (byte_joins line 1 a at (omega arith), byte_joins line 2 b bt (omega arith), byte_joins line 3 d dt (omega arith), byte_joins line 4 e et (omega arith)) (
      sym (row 0 5 line refl s),
      found_4 (λ c. line ≡ frame c) (λ x y z w. call.Making x y z (page_number w)) _ _ _ _ (λ x y z w p q r t.
          rw (page_byte_number w (byte_small line 4 w t)) (spelled_hex (0 ∷ x ∷ y ∷ z ∷ w ∷ []) line s.1 (s.0, (p, (q, (r, (t, tt))))))),
    )

-- four bytes of the line and the number that they are
Four : List ℕ → ℕ → Type 0
Four line v = (a b c d : ℕ) × (byte_at line 4 ≡ Some a) × (byte_at line 5 ≡ Some b) × (byte_at line 6 ≡ Some c) × (byte_at line 7 ≡ Some d) × (joined a b c d ≡ v)

four : (line : List ℕ) (v : ℕ) → word_at line 4 ≡ Some v → Four line v
unfolding Four
four line v e = found_at (Four line) (word_at line 4) v e (found_4 (Four line) joined _ _ _ _ (λ a b c d p q r t. (a, b, c, d, p, q, r, t, refl)))

reads_write : (line : List ℕ) (a b d e : Run) → CutFrom line (Write a b d e) → Reads line (raw_call (Write a b d e))
unfolding Four
reads_write line a b d e (s, at, bt, dt, et) =
    rw (byte_joins line 1 a at (omega arith), byte_joins line 2 b bt (omega arith), byte_joins line 3 d dt (omega arith), word_joins line e et (omega arith)) (
      sym (row 3 8 line refl s),
      found_4 _ call.Write _ _ _ (word_at line 4) (λ x y z v p q r t.
          let w = four line v t in
          let small : (w.0 < 256) × (w.1 < 256) × (w.2 < 256) × (w.3 < 256) =
          (byte_small line 4 w.0 w.4, byte_small line 5 w.1 w.5, byte_small line 6 w.2 w.6, byte_small line 7 w.3 w.7) in
          spelled_hex (3 ∷ x ∷ y ∷ z ∷ w.0 ∷ w.1 ∷ w.2 ∷ w.3 ∷ []) line s.1 (s.0, (p, (q, (r, (w.4, (w.5, (w.6, (w.7, tt)))))))) ∙ ap (λ bs. hex (3 ∷ x ∷ y ∷ z ∷ bs)) (sym (word_parts w.0 w.1 w.2 w.3 small)) ∙ ap (λ u. frame (call.Write x y z u)) w.8),
    )

pub reads : (line : List ℕ) (raw : RawFrame) → CutFrom line raw → Reads line (raw_call raw)
reads line (Making a b d e) h = reads_making line a b d e h
reads line (Begin a) h = reads_1 call.Begin 1 line a refl refl (λ _. refl) h
reads line (Read a b d) h = reads_3 call.Read 2 line a b d refl refl (λ _ _ _. refl) h
reads line (Write a b d e) h = reads_write line a b d e h
reads line (Commit a) h = reads_1 call.Commit 4 line a refl refl (λ _. refl) h
reads line (Cancel a) h = reads_1 call.Cancel 5 line a refl refl (λ _. refl) h
reads line (Fetch a b) h = reads_2 call.Fetch 6 line a b refl refl (λ _ _. refl) h
reads line (Evict a b) h = reads_2 call.Evict 7 line a b refl refl (λ _ _. refl) h
reads line (Drop a b d) h = reads_3 call.Drop 8 line a b d refl refl (λ _ _ _. refl) h
reads line (Deliver a b) h = reads_2 call.Deliver 9 line a b refl refl (λ _ _. refl) h
reads line (TakeUp a) h = reads_1 call.TakeUp 10 line a refl refl (λ _. refl) h
reads line (PutDown a) h = reads_1 call.PutDown 11 line a refl refl (λ _. refl) h
reads line LetGo h = (sym (row 12 1 line refl h), spelled_hex (12 ∷ []) line h.1 (h.0, tt))
reads line (Restart a) h = reads_1 call.Restart 13 line a refl refl (λ _. refl) h
reads line Cut h = (sym (row 14 1 line refl h), spelled_hex (14 ∷ []) line h.1 (h.0, tt))

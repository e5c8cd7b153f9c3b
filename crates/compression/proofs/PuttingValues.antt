-- Putting a value keeps the writer lawful and adds the value above the stream so far. Assumes nothing.
use mathlib.Core.Path.{◌≡◌, refl, sym, ap, ap₂, ◌∙◌, subst, subst₂}
use mathlib.Core.List.{List, ◌++◌}
use Prim.Native.Nat.{ℕ, ◌+◌, ◌-◌, ◌*◌, ◌/◌, ◌%◌, ◌^◌, ◌≤◌, ◌<◌}
use native.Mathlib.Nat.{add_comm, add_assoc, lt_of_lt_of_le}
use native.Mathlib.Omega.{arith}
use lib.ListN.{length, take, drop}
use lib.Seq.{drop-drop}
use lib.Arith.{digits_lt}
use lib.Bits.{bit_or, or_shifted_r}
use lib.Pow.{shl_exact, shr_lt, pow-add, pow_mono}
use Rattle.streams.specs.Stream.{number}
use Rattle.compression.specs.Writing.{four_bytes, bits_put, so_far, Lawful, PutBy, FinishedBy}
use Rattle.compression.specs.declared.writer.Writer.{Writer}
use Rattle.compression.proofs.WritingBytes.{above, worded_drop, worded_stream}

module _ (out : List ℕ) (w : Writer) (value count : ℕ) (law : Lawful out w) (small : value < 2 ^ count) (few : count ≤ 32) where
  -- the buffer with the value above what it held
  abbrev joined : ℕ
  joined = bit_or w.buffer ((value * 2 ^ w.held) % 2 ^ 64)

  pub joined_is : joined ≡ value * 2 ^ w.held + w.buffer
  joined_is =
      ap (bit_or w.buffer) (shl_exact count w.held 64 small (omega arith)) ∙ or_shifted_r value w.held w.buffer law.small

  joined_lt : joined < 2 ^ (w.held + count)
  joined_lt = rw joined_is (rw (add_comm w.held count, pow-add 2 count w.held) (digits_lt small law.small))

  joined_stream : number (take w.next out) + joined * 2 ^ (8 * w.next) ≡ so_far out w + value * 2 ^ bits_put w
  joined_stream =
      ap (λ (x : ℕ). number (take w.next out) + x) (ap (λ (x : ℕ). x * 2 ^ (8 * w.next)) joined_is ∙ above value w.buffer w.held (8 * w.next))
      ∙ sym (add_assoc (number (take w.next out)) (w.buffer * 2 ^ (8 * w.next)) (value * 2 ^ (8 * w.next + w.held)))

  pub put_kept : w.held + count < 32 → PutBy out out w (record { buffer = joined; held = w.held + count; next = w.next }) value count
  put_kept h = record {
    lawful = record { few = h; small = joined_lt; whole = law.whole; inside = law.inside };
    sum = omega arith;
    stream = joined_stream;
    rest = refl;
    size = refl;
    on = omega arith;
  }

  pub put_flushed : (out' : List ℕ) → 32 ≤ w.held + count → w.next + 4 ≤ length out → length out' ≡ length out
      → out' ≡ take w.next out ++ four_bytes joined ++ drop (w.next + 4) out
      → PutBy out out' w (record { buffer = joined / 2 ^ 32; held = w.held + count - 32; next = w.next + 4 }) value count
  put_flushed out' h room size e =
      let j : ℕ = w.held + count - 32 in
      let ej : w.held + count ≡ j + 32 = omega arith in
      record {
        lawful = record {
          few = omega arith;
          small = shr_lt j 32 (subst (λ (k : ℕ). joined < 2 ^ k) ej joined_lt);
          whole = omega arith;
          inside = rw size room;
        };
        sum = omega arith;
        stream =
            ap (λ (l : List ℕ). number (take (w.next + 4) l) + joined / 2 ^ 32 * 2 ^ (8 * (w.next + 4))) e ∙ worded_stream out w.next joined room
            ∙ joined_stream;
        rest = ap (drop (w.next + 4)) e ∙ worded_drop out w.next joined room;
        size = size;
        on = omega arith;
      }

-- one value after another
pub put_then : (o o₁ o₂ : List ℕ) (w w₁ w₂ : Writer) (v c v₁ c₁ : ℕ) → PutBy o o₁ w w₁ v c → PutBy o₁ o₂ w₁ w₂ v₁ c₁
    → PutBy o o₂ w w₂ (v + v₁ * 2 ^ c) (c + c₁)
put_then o o₁ o₂ w w₁ w₂ v c v₁ c₁ p q =
    let j : ℕ = w₂.next - w₁.next in
    let ej : w₂.next ≡ w₁.next + j = omega (arith, q.on) in
    let kept : drop w₂.next o₁ ≡ drop w₂.next o =
    ap (λ (k : ℕ). drop k o₁) ej ∙ sym (drop-drop j w₁.next o₁) ∙ ap (drop j) p.rest ∙ drop-drop j w₁.next o ∙ ap (λ (k : ℕ). drop k o) (sym ej) in
    record {
      lawful = q.lawful;
      sum = omega (arith, p.sum, q.sum);
      stream =
          q.stream ∙ ap₂ (λ (x k : ℕ). x + v₁ * 2 ^ k) p.stream p.sum ∙ add_assoc (so_far o w) (v * 2 ^ bits_put w) (v₁ * 2 ^ (bits_put w + c))
          ∙ ap (λ (x : ℕ). so_far o w + x) (sym (ap (λ (x : ℕ). x * 2 ^ bits_put w) (add_comm v (v₁ * 2 ^ c)) ∙ above v₁ v c (bits_put w)));
      rest = q.rest ∙ kept;
      size = q.size ∙ p.size;
      on = omega (arith, p.on, q.on);
    }

-- nothing put
pub put_none : (o : List ℕ) (w : Writer) → Lawful o w → PutBy o o w w 0 0
put_none o w law = record {
  lawful = law;
  sum = omega arith;
  stream = omega arith;
  rest = refl;
  size = refl;
  on = omega arith;
}

-- zeros sixteen at a time, and then the rest with the one
module _ (o o₁ o₂ : List ℕ) (w w₁ w₂ : Writer) (z l : ℕ) (within : l ≤ z) (before : PutBy o o₁ w w₁ 0 (z - l)) where
  pub zeros_more : 16 ≤ l → PutBy o₁ o₂ w₁ w₂ 0 16 → PutBy o o₂ w w₂ 0 (z - (l - 16))
  zeros_more h q =
      subst₂ (λ (v c : ℕ). PutBy o o₂ w w₂ v c) (omega arith) (omega arith) (put_then o o₁ o₂ w w₁ w₂ 0 (z - l) 0 16 before q)

  pub zeros_last : PutBy o₁ o₂ w₁ w₂ (2 ^ l) (l + 1) → PutBy o o₂ w w₂ (2 ^ z) (z + 1)
  zeros_last q =
      let ez : l + (z - l) ≡ z = omega arith in
      let p : 2 ^ l * 2 ^ (z - l) ≡ 2 ^ z = sym (pow-add 2 l (z - l)) ∙ ap (λ (k : ℕ). 2 ^ k) ez in
      subst₂ (λ (v c : ℕ). PutBy o o₂ w w₂ v c) (omega arith) (omega arith) (put_then o o₁ o₂ w w₁ w₂ 0 (z - l) (2 ^ l) (l + 1) before q)

-- nothing in the buffer, or one more word
module _ (out : List ℕ) (w : Writer) (law : Lawful out w) where
  pub finish_empty : w.held ≡ 0 → FinishedBy out out w w.next
  finish_empty e =
      let none : w.buffer < 1 = subst (λ (k : ℕ). w.buffer < 2 ^ k) e law.small in
      let zero_buffer : w.buffer ≡ 0 = omega arith in
      let q : ℕ = w.next / 4 in
      let eq : w.next ≡ 4 * q = omega arith in
      record {
        words = omega arith;
        stream = sym (ap (λ (x : ℕ). number (take w.next out) + x * 2 ^ (8 * w.next)) zero_buffer ∙ omega arith);
        rest = refl;
        size = refl;
      }

  pub finish_last : (out' : List ℕ) → (w.held ≡ 0 → ⊥) → w.next + 4 ≤ length out → length out' ≡ length out
      → out' ≡ take w.next out ++ four_bytes w.buffer ++ drop (w.next + 4) out → FinishedBy out out' w (w.next + 4)
  finish_last out' h room size e =
      let low : w.buffer < 2 ^ 32 = lt_of_lt_of_le law.small (pow_mono {i = w.held} {j = 32} (omega arith)) in
      let none : w.buffer / 2 ^ 32 ≡ 0 = omega arith in
      let q : ℕ = w.next / 4 in
      let eq : w.next ≡ 4 * q = omega arith in
      let s = worded_stream out w.next w.buffer room in
      let t = ap (λ (x : ℕ). x * 2 ^ (8 * (w.next + 4))) none in
      record {
        words = omega arith;
        stream = ap (λ (l : List ℕ). number (take (w.next + 4) l)) e ∙ omega (arith, s, t);
        rest = ap (drop (w.next + 4)) e ∙ worded_drop out w.next w.buffer room;
        size = size;
      }

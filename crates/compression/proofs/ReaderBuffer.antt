-- The cursor's steps keep what its buffer says of the stream. Assumes nothing.
use mathlib.Core.Path.{◌≡◌, sym, ap, ◌∙◌}
use mathlib.Core.List.{List}
use Prim.Native.Nat.{ℕ, ◌+◌, ◌-◌, ◌*◌, ◌/◌, ◌%◌, ◌^◌, ◌≤◌, ◌<◌}
use native.Mathlib.Nat.{add_comm}
use native.Mathlib.Omega.{arith}
use lib.ListN.{length}
use lib.Bits.{bit_and, bit_or, and_mask, or_shifted_r}
use lib.Pow.{shl_exact}
use Rattle.laws.proofs.Shifts.{one_shl}
use Rattle.streams.specs.Stream.{number, word_bits, bits_at}
use Rattle.compression.specs.Reading.{place_of, Stands}
use Rattle.compression.specs.declared.reader.Cursor.{Cursor}
use Rattle.streams.proofs.Stream.{past, refill, front, bits_at_lt}

abbrev pub skipped : Cursor → ℕ → Cursor
skipped c count = record { buffer = c.buffer / 2 ^ count; held = c.held - count; next = c.next }

pub skip_stands : (s : List ℕ) (c : Cursor) (count : ℕ) → Stands s c → count ≤ c.held → Stands s (skipped c count)
skip_stands s c count st h =
    let at : place_of (skipped c count) ≡ place_of c + count = omega arith in
    let j : ℕ = c.held - count in
    let e : c.held ≡ j + count = omega arith in
    record {
      few = omega arith;
      from = omega arith;
      whole = st.whole;
      inside = st.inside;
      holds =
          ap (λ (x : ℕ). x / 2 ^ count) (st.holds ∙ ap (bits_at (number s) (place_of c)) e) ∙ past (number s) (place_of c) count j
          ∙ ap (λ (x : ℕ). bits_at (number s) x j) (sym at);
    }

abbrev filled_up : Cursor → ℕ → Cursor
filled_up c word = record { buffer = bit_or c.buffer ((word * 2 ^ c.held) % 2 ^ 64); held = c.held + 32; next = c.next + 4 }

pub fill_stands : (s : List ℕ) (c : Cursor) (word : ℕ) → Stands s c → c.held < 32 → c.next + 4 ≤ length s
    → word ≡ bits_at (number s) (8 * c.next) 32 → Stands s (filled_up c word)
fill_stands s c word st h room w =
    let at : place_of (filled_up c word) ≡ place_of c = omega arith in
    let n : ℕ = number s in
    let e : 8 * c.next ≡ place_of c + c.held = omega arith in
    let w' : word ≡ bits_at n (place_of c + c.held) 32 = w ∙ ap (λ (x : ℕ). bits_at n x 32) e in
    record {
      few = omega arith;
      from = omega arith;
      whole = omega arith;
      inside = room;
      holds =
          ap (bit_or c.buffer) (shl_exact 32 c.held 64 (rw w (bits_at_lt n (8 * c.next) 32)) (omega arith))
          ∙ or_shifted_r word c.held c.buffer (rw st.holds (bits_at_lt n (place_of c) c.held))
          ∙ ap (λ (x : ℕ). word * 2 ^ c.held + x) st.holds
          ∙ ap (λ (x : ℕ). x * 2 ^ c.held + bits_at n (place_of c) c.held) w'
          ∙ refill n (place_of c) c.held 32
          ∙ ap (bits_at n (place_of c)) (add_comm 32 c.held)
          ∙ ap (λ (x : ℕ). bits_at n x (c.held + 32)) (sym at);
    }

-- the low bits of the buffer are the next bits of the stream
pub held_bits : (s : List ℕ) (f : Cursor) (count : ℕ) → Stands s f → count ≤ f.held → f.buffer % 2 ^ count ≡ bits_at (number s) (place_of f) count
held_bits s f count st h =
    let j : ℕ = f.held - count in
    let e : f.held ≡ j + count = omega arith in
    ap (λ (x : ℕ). x % 2 ^ count) (st.holds ∙ ap (bits_at (number s) (place_of f)) e) ∙ front (number s) (place_of f) count j

pub look_bits : (s : List ℕ) (f : Cursor) (at count : ℕ) → Stands s f → place_of f ≡ at → count ≤ f.held → count < 64
    → bit_and f.buffer ((1 * 2 ^ count) % 2 ^ 64 - 1) ≡ bits_at (number s) at count
look_bits s f at count st p h l =
    ap (λ (x : ℕ). bit_and f.buffer (x - 1)) (one_shl count l) ∙ and_mask f.buffer count ∙ held_bits s f count st h
    ∙ ap (λ (x : ℕ). bits_at (number s) x count) p

-- what the buffer holds ends within the last whole word
pub inside_words : (s : List ℕ) (f : Cursor) → Stands s f → place_of f + f.held ≤ word_bits s
inside_words s f st =
    let whole : f.next / 4 ≤ length s / 4 = omega arith in
    omega arith

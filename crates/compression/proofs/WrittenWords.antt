-- A stream closed: the pad and the last word. And the words that stand in the output then. Assumes nothing.
use mathlib.Core.Path.{◌≡◌, sym, ap, ap₂, ◌∙◌, subst}
use mathlib.Core.Logic.{⊎_elim}
use mathlib.Core.List.{List, ◌++◌}
use Prim.Native.Nat.{ℕ, ◌+◌, ◌-◌, ◌*◌, ◌^◌, ◌≤◌, ◌<◌}
use native.Mathlib.Omega.{arith}
use lib.ListN.{length, get_or, take, drop, length-take, take-append-drop, get_or-eq_default}
use lib.Seq.{drop-drop, get_or-take, length-take-le}
use Rattle.laws.proofs.Orders.{lt_or_le}
use Rattle.refusals.specs.Units.{words_for}
use Rattle.refusals.specs.declared.units.Bits.{Bits}
use Rattle.refusals.specs.declared.units.StreamLength.{StreamLength}
use Rattle.refusals.specs.declared.units.Words.{Words}
use Rattle.streams.specs.Stream.{number, word_bits, bytes_of}
use Rattle.streams.specs.Codes.{Code, total, pack}
use Rattle.streams.specs.Written.{words_of}
use Rattle.streams.specs.Calls.{words_into}
use Rattle.streams.proofs.Stream.{AllBytes, bytes_number}
use Rattle.compression.specs.Writing.{Lawful, bits_put, so_far, PutBy, FinishedBy, ClosedBy, PutsBy}
use Rattle.compression.specs.declared.writer.Writer.{Writer}

module _ (out o₁ o₂ : List ℕ) (w w₁ : Writer) (pad bytes : ℕ) (padded : PutBy out o₁ w w₁ 0 pad) (last : FinishedBy o₁ o₂ w₁ bytes) where
  same : 4 * words_for (bits_put w + pad) ≡ bytes
  same = omega (arith, last.words, padded.sum)

  kept : drop bytes o₁ ≡ drop bytes out
  kept =
      let law = padded.lawful in
      let j : ℕ = bytes - w₁.next in
      let ej : bytes ≡ w₁.next + j = omega (arith, last.words, law.whole) in
      ap (λ (k : ℕ). drop k o₁) ej ∙ sym (drop-drop j w₁.next o₁) ∙ ap (drop j) padded.rest ∙ drop-drop j w₁.next out
      ∙ ap (λ (k : ℕ). drop k out) (sym ej)

  pub closed : (bits : Bits) (words : Words) → bits.0 ≡ bits_put w₁ → words.0 ≡ words_for bits.0 → ((i : ℕ) → get_or o₂ i 0 < 256)
      → ClosedBy out o₂ w pad (record { bits = bits; words = words })
  closed bits words is fill small = record {
    bits = is ∙ padded.sum;
    words = fill ∙ ap words_for (is ∙ padded.sum);
    stream = ap (λ (k : ℕ). number (take k o₂)) same ∙ last.stream ∙ padded.stream ∙ omega arith;
    rest = ap (λ (k : ℕ). drop k o₂) same ∙ last.rest ∙ kept ∙ ap (λ (k : ℕ). drop k out) (sym same);
    size = last.size ∙ padded.size;
    bytes = small;
  }

-- ---- a fresh writer, codes and a close

pub fresh_lawful : (out : List ℕ) (w : Writer) → w.held ≡ 0 → w.next ≡ 0 → w.buffer ≡ 0 → Lawful out w
fresh_lawful out w h n b = record {
  few = omega arith;
  small = subst (λ (k : ℕ). w.buffer < 2 ^ k) (sym h) (omega arith);
  whole = omega arith;
  inside = omega arith;
}

fresh_empty : (out : List ℕ) (w : Writer) → w.next ≡ 0 → w.buffer ≡ 0 → so_far out w ≡ 0
unfolding number
fresh_empty out w n b = ap₂ (λ (i v : ℕ). number (take i out) + v * 2 ^ (8 * i)) n b

take_bytes : (s : List ℕ) (n : ℕ) → AllBytes s → AllBytes (take n s)
take_bytes s n all i =
    ⊎_elim (λ (l : i < n). rw (get_or-take n s i 0 l) (all i))
    (λ (l : n ≤ i). rw (get_or-eq_default (take n s) 0 {n = i} (omega (arith, length-take n s))) (omega arith)) (lt_or_le i n)

module _ (out o₁ o₂ : List ℕ) (w₀ w₁ : Writer) (pad : ℕ) (codes : List Code) (long : StreamLength) (held : w₀.held ≡ 0) (next : w₀.next ≡ 0) (buffer : w₀.buffer ≡ 0)
    (listed : PutsBy out o₁ w₀ w₁ codes) (done : ClosedBy o₁ o₂ w₁ pad long) (room : total codes + pad ≤ word_bits out) where
  abbrev bits : ℕ
  bits = total codes + pad

  abbrev many : ℕ
  many = 4 * words_for bits

  all_put : bits_put w₁ + pad ≡ bits
  all_put = omega (arith, listed.sum)

  numbered : number (take many o₂) ≡ pack codes
  numbered =
      let none : bits_put w₀ ≡ 0 = omega arith in
      ap (λ (i : ℕ). number (take (4 * words_for i) o₂)) (sym all_put) ∙ done.stream ∙ listed.stream
      ∙ ap₂ (λ (x i : ℕ). x + pack codes * 2 ^ i) (fresh_empty out w₀ next buffer) none ∙ omega arith

  filled : length (take many o₂) ≡ many
  filled = length-take-le many o₂ (omega (arith, room, done.size, listed.size))

  front : take many o₂ ≡ words_of codes bits
  front = bytes_number (take many o₂) (take_bytes o₂ many done.bytes) ∙ ap₂ bytes_of filled numbered

  back : drop many o₂ ≡ drop many out
  back =
      let law = listed.lawful in
      let j : ℕ = many - w₁.next in
      let ej : many ≡ w₁.next + j = omega (arith, all_put, law.whole) in
      ap (λ (i : ℕ). drop (4 * words_for i) o₂) (sym all_put) ∙ done.rest ∙ ap (λ (i : ℕ). drop (4 * words_for i) o₁) all_put
      ∙ ap (λ (k : ℕ). drop k o₁) ej ∙ sym (drop-drop j w₁.next o₁) ∙ ap (drop j) listed.rest ∙ drop-drop j w₁.next out
      ∙ ap (λ (k : ℕ). drop k out) (sym ej)

  pub written : o₂ ≡ words_into codes bits out
  written = sym (take-append-drop many o₂) ∙ ap₂ (λ (a b : List ℕ). a ++ b) front back

  -- the length that is told
  pub bits_told : long.bits.0 ≡ bits
  bits_told = done.bits ∙ all_put

  pub words_told : long.words.0 ≡ words_for bits
  words_told = done.words ∙ ap words_for all_put

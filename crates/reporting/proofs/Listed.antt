-- Laws of lines that are counted, and of the words among them. Assumes nothing.
use mathlib.Core.Path.{◌≡◌, refl, sym, ap, ap₂, ◌∙◌}
use mathlib.Core.Bool.{Bool}
use mathlib.Core.List.{List, [], ◌∷◌, ◌++◌}
use mathlib.Core.Logic.{⊎_elim}
use Prim.Native.Nat.{ℕ, zero, suc, ◌+◌, ◌-◌, ◌*◌, ◌/◌, ◌%◌, ◌^◌, ◌≤◌, ◌<◌}
use native.Mathlib.Nat.{div-one, mod-mod}
use native.Mathlib.Omega.{arith}
use lib.Dec.{ltb}
use lib.ListN.{length, length-append}
use borrow.Author.Tests.{lt-ltb, le-ltb}
use Rattle.laws.specs.Choose.{choose}
use Rattle.laws.proofs.Orders.{lt_or_le}
use Rattle.streams.specs.Stream.{number, bits_at, bytes_of}
use Rattle.streams.proofs.Stream.{same_field, append_same, length_bytes_of, number_bytes_of}
use Rattle.reporting.specs.Lines.{decimal, line}
use Rattle.reporting.specs.Report.{word_name, word_line, word_lines}
use Rattle.reporting.specs.Calls.{says, ended, cut, nth, word_said}

pub nth_second : (text : List ℕ) (i : ℕ) → 0 < i → ended ≡ nth (text ∷ []) i
nth_second text zero l = absurd (omega arith)
nth_second text (suc i) l = refl

pub nth_front : (xs ys : List (List ℕ)) (i : ℕ) → i < length xs → nth (xs ++ ys) i ≡ nth xs i
nth_front [] ys i l = absurd (omega arith)
nth_front (x ∷ xs) ys zero l = refl
nth_front (x ∷ xs) ys (suc i) l = nth_front xs ys i (omega arith)

pub nth_back : (xs ys : List (List ℕ)) (i : ℕ) → length xs ≤ i → nth (xs ++ ys) i ≡ nth ys (i - length xs)
nth_back [] ys i l = let same : i ≡ i - 0 = omega arith in ap (nth ys) same
nth_back (x ∷ xs) ys zero l = absurd (omega arith)
nth_back (x ∷ xs) ys (suc i) l = let same : i - length xs ≡ suc i - suc (length xs) = omega arith in nth_back xs ys i (omega arith) ∙ ap (nth ys) same

ltb_suc : (k w : ℕ) → ltb k w ≡ ltb (suc k) (suc w)
ltb_suc k w =
    ⊎_elim (λ (l : k < w). lt-ltb k w l ∙ sym (lt-ltb (suc k) (suc w) (omega arith)))
    (λ (h : w ≤ k). le-ltb k w h ∙ sym (le-ltb (suc k) (suc w) (omega arith))) (lt_or_le k w)

pub nth_words : (stream i w k : ℕ) → nth (word_lines stream i w) k ≡ choose (ltb k w) (says (word_line stream (i + k))) ended
unfolding word_lines
nth_words stream i zero k = sym (ap (λ (t : Bool). choose t (says (word_line stream (i + k))) ended) (le-ltb k 0 (omega arith)))
nth_words stream i (suc w) zero =
    let same : i ≡ i + 0 = omega arith in
    ap (λ (j : ℕ). says (word_line stream j)) same ∙ sym (ap (λ (t : Bool). choose t (says (word_line stream (i + 0))) ended) (lt-ltb 0 (suc w) (omega arith)))
nth_words stream i (suc w) (suc k) =
    let same : suc i + k ≡ i + suc k = omega arith in
    nth_words stream (suc i) w k ∙ ap₂ (λ (t : Bool) (j : ℕ). choose t (says (word_line stream j)) ended) (ltb_suc k w) same

-- the words of bytes are those of the number that the bytes are of
low_same : (n last : ℕ) → bits_at (n % 2 ^ last) 0 last ≡ bits_at n 0 last
low_same n last = ap (λ (m : ℕ). m % 2 ^ last) (div-one (n % 2 ^ last)) ∙ mod-mod n (2 ^ last) ∙ sym (ap (λ (m : ℕ). m % 2 ^ last) (div-one n))

module _ (n w : ℕ) (rest : List ℕ) where
  field_same : (k : ℕ) → k < w → bits_at (number (bytes_of (4 * w) n ++ rest)) (32 * k) 32 ≡ bits_at n (32 * k) 32
  field_same k l =
      let size = length_bytes_of (4 * w) n in
      let front : bits_at (number (bytes_of (4 * w) n)) 0 (8 * (4 * w)) ≡ bits_at (number (bytes_of (4 * w) n ++ rest)) 0 (8 * (4 * w)) =
      append_same (bytes_of (4 * w) n) rest (8 * (4 * w)) (omega (arith, size)) in
      let own : bits_at (number (bytes_of (4 * w) n)) 0 (8 * (4 * w)) ≡ bits_at n 0 (8 * (4 * w)) =
      ap (λ (m : ℕ). bits_at m 0 (8 * (4 * w))) (number_bytes_of (4 * w) n) ∙ low_same n (8 * (4 * w)) in
      same_field (number (bytes_of (4 * w) n ++ rest)) n (8 * (4 * w)) (32 * k) 32 (sym front ∙ own) (omega arith)

  pub word_same : (stream : List ℕ) (k : ℕ) → stream ≡ bytes_of (4 * w) n ++ rest → k < w → word_said stream k ≡ says (word_line n k)
  word_same stream k e l =
      let size : 4 * w + length rest ≡ length stream = omega (arith, ap length e, length-append (bytes_of (4 * w) n) rest, length_bytes_of (4 * w) n) in
      let inside : k < length stream / 4 = omega arith in
      ap (λ (t : Bool). choose t (says (word_line (number stream) k)) cut) (lt-ltb k (length stream / 4) inside)
      ∙ ap (λ (s : List ℕ). says (word_line (number s) k)) e
      ∙ ap (λ (v : ℕ). says (line (word_name ++ decimal k) (decimal v))) (field_same k l)

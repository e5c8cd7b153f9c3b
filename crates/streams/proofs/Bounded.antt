-- The bits before the end of the last whole word decide a reading, however it ends: bytes past it decide nothing. Assumes nothing.
use mathlib.Core.Path.{◌≡◌, refl, sym, ap, ◌∙◌}
use mathlib.Core.Logic.{⊎_elim}
use mathlib.Core.List.{List, ◌++◌}
use Prim.Native.Nat.{ℕ, zero, suc, ◌+◌, ◌-◌, ◌*◌, ◌/◌, ◌%◌, ◌^◌, ◌≤◌, ◌<◌}
use native.Mathlib.Nat.{mod-one}
use native.Mathlib.Omega.{arith}
use lib.Count.{count_trailing_zeros}
use lib.ListN.{length, length-append}
use Rattle.laws.proofs.Orders.{le_or_lt}
use Rattle.numbers.specs.Numbers.{base_bits_at}
use Rattle.books.specs.Table.{decoded}
use Rattle.streams.specs.Stream.{number, word_bits, bits_at}
use Rattle.streams.specs.Looks.{Looked, found, cut, then_look, field_at, code_at, zeros_at, row_step_at}
use Rattle.streams.specs.Read.{Step, pair, fault, then_step, pair_at, Reading, item_then, on_pair, on_byte, pairs_from, bytes_from}
use Rattle.streams.specs.Calls.{pairs_reading, window_reading}
use Rattle.streams.proofs.Stream.{same_field, append_same}
use Rattle.streams.proofs.Zeros.{zeros_in, run_at, zeros_at_is, zeros_mod}
use Rattle.streams.proofs.Looking.{field_found, field_cut}
use Rattle.streams.proofs.Stepping.{judgement, rest}

-- ---- one thing after another

then_look_is : (r : Looked) (f g : ℕ → ℕ → Looked) → ((v q : ℕ) → f v q ≡ g v q) → then_look r f ≡ then_look r g
then_look_is (found v q) f g h = h v q
then_look_is (cut bit) f g h = refl

then_step_is : (r : Looked) (f g : ℕ → ℕ → Step) → ((v q : ℕ) → f v q ≡ g v q) → then_step r f ≡ then_step r g
then_step_is (found v q) f g h = h v q
then_step_is (cut bit) f g h = refl

then_pairs : (s : Step) (f g : ℕ → ℕ → ℕ → Reading) → ((r c q : ℕ) → f r c q ≡ g r c q) → on_pair s f ≡ on_pair s g
then_pairs (pair r c q) f g h = ap (item_then (64 * r + c)) (h r c q)
then_pairs (fault number bit) f g h = refl

then_bytes : (r : Looked) (f g : ℕ → ℕ → Reading) → ((v q : ℕ) → f v q ≡ g v q) → on_byte r f ≡ on_byte r g
then_bytes (found v q) f g h = ap (item_then v) (h v q)
then_bytes (cut bit) f g h = refl

-- ---- two streams that agree up to the end

module _ (n n' end : ℕ) (same : bits_at n 0 end ≡ bits_at n' 0 end) where
  field_same : (count at : ℕ) → field_at n end count at ≡ field_at n' end count at
  field_same count at =
      ⊎_elim
      (λ (l : at + count ≤ end).
      field_found n end count at l ∙ ap (λ (v : ℕ). found v (at + count)) (same_field n n' end at count same l) ∙ sym (field_found n' end count at l))
      (λ (l : end < at + count). field_cut n end count at l ∙ sym (field_cut n' end count at l)) (le_or_lt (at + count) end)

  zeros_in_same : (at : ℕ) → zeros_in n end at ≡ zeros_in n' end at
  zeros_in_same at =
      sym (zeros_mod (end - at) (n / 2 ^ at))
      ∙ ap (count_trailing_zeros (end - at))
      (⊎_elim (λ (l : at ≤ end). same_field n n' end at (end - at) same (omega arith))
      (λ (l : end < at).
      let e : end - at ≡ 0 = omega arith in
      ap (λ (k : ℕ). n / 2 ^ at % 2 ^ k) e ∙ mod-one (n / 2 ^ at) ∙ sym (ap (λ (k : ℕ). n' / 2 ^ at % 2 ^ k) e ∙ mod-one (n' / 2 ^ at))) (le_or_lt at end))
      ∙ zeros_mod (end - at) (n' / 2 ^ at)

  zeros_same : (at : ℕ) → zeros_at n end at ≡ zeros_at n' end at
  zeros_same at = zeros_at_is n end at ∙ run_same ∙ sym (zeros_at_is n' end at)
    where
      run_same : run_at n end at ≡ run_at n' end at
      run_same = rw (zeros_in_same at)

  code_same : (book : List ℕ) (at : ℕ) → code_at n end book at ≡ code_at n' end book at
  code_same book at = ap (λ (r : Looked). then_look r (λ look next. found (decoded book look % 256) (at + decoded book look / 256))) (field_same 12 at)

  row_same : (b at : ℕ) → row_step_at n end b at ≡ row_step_at n' end b at
  row_same b at =
      ap (λ (r : Looked). then_look r (λ zeros next. then_look (field_at n end b next) (λ low bit. found (zeros * 2 ^ b + low) bit))) (zeros_same at)
      ∙ then_look_is (zeros_at n' end at) (λ zeros next. then_look (field_at n end b next) (λ low bit. found (zeros * 2 ^ b + low) bit))
      (λ zeros next. then_look (field_at n' end b next) (λ low bit. found (zeros * 2 ^ b + low) bit))
      (λ zeros next. ap (λ (r : Looked). then_look r (λ low bit. found (zeros * 2 ^ b + low) bit)) (field_same b next))

  pair_same : (book : List ℕ) (b k row next at : ℕ) → pair_at n end book b k row next at ≡ pair_at n' end book b k row next at
  pair_same book b k row next at =
      ap (λ (r : Looked). then_step r (rest n end book b k row next at)) (code_same book at)
      ∙ then_step_is (code_at n' end book at) (rest n end book b k row next at) (rest n' end book b k row next at)
      (λ x after. ap (λ (r : Looked). then_step r (judgement k row next x)) (row_same b after))

  pub pairs_bounded_from : (book : List ℕ) (b k count row next at : ℕ) → pairs_from n end book b k count row next at ≡ pairs_from n' end book b k count row next at
  unfolding pairs_from
  pairs_bounded_from book b k zero row next at = refl
  pairs_bounded_from book b k (suc count) row next at =
      ap (λ (s : Step). on_pair s (λ r c q. pairs_from n end book b k count r (c + 1) q)) (pair_same book b k row next at)
      ∙ then_pairs (pair_at n' end book b k row next at) (λ r c q. pairs_from n end book b k count r (c + 1) q) (λ r c q. pairs_from n' end book b k count r (c + 1) q)
      (λ r c q. pairs_bounded_from book b k count r (c + 1) q)

  pub bytes_bounded_from : (book : List ℕ) (count at : ℕ) → bytes_from n end book count at ≡ bytes_from n' end book count at
  unfolding bytes_from
  bytes_bounded_from book zero at = refl
  bytes_bounded_from book (suc count) at =
      ap (λ (r : Looked). on_byte r (λ byte next. bytes_from n end book count next)) (code_same book at)
      ∙ then_bytes (code_at n' end book at) (λ byte next. bytes_from n end book count next) (λ byte next. bytes_from n' end book count next)
      (λ byte next. bytes_bounded_from book count next)

-- ---- of streams: fewer than four bytes after whole words

module _ (stream anything : List ℕ) (words : length stream % 4 ≡ 0) (few : length anything < 4) where
  same_end : word_bits (stream ++ anything) ≡ word_bits stream
  same_end = omega (arith, length-append stream anything)

  same_front : bits_at (number (stream ++ anything)) 0 (word_bits stream) ≡ bits_at (number stream) 0 (word_bits stream)
  same_front = sym (append_same stream anything (word_bits stream) (omega arith))

  pub pairs_bounded : (book : List ℕ) (k count : ℕ) → pairs_reading book k count (stream ++ anything) ≡ pairs_reading book k count stream
  pairs_bounded book k count =
      ap (λ (end : ℕ). pairs_from (number (stream ++ anything)) end book (base_bits_at k count) k count 0 0 0) same_end
      ∙ pairs_bounded_from (number (stream ++ anything)) (number stream) (word_bits stream) same_front book (base_bits_at k count) k count 0 0 0

  pub window_bounded : (book : List ℕ) (k : ℕ) → window_reading book k (stream ++ anything) ≡ window_reading book k stream
  window_bounded book k =
      ap (λ (end : ℕ). bytes_from (number (stream ++ anything)) end book k 0) same_end
      ∙ bytes_bounded_from (number (stream ++ anything)) (number stream) (word_bits stream) same_front book k 0

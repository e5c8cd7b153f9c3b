-- Laws of the bytes that a writer has put: the number of a joined list, and one more word. Assumes nothing.
use mathlib.Core.Path.{◌≡◌, sym, ap, ap₂, ◌∙◌}
use mathlib.Core.List.{List, ◌++◌}
use Prim.Native.Nat.{ℕ, ◌+◌, ◌-◌, ◌*◌, ◌/◌, ◌%◌, ◌^◌, ◌≤◌}
use native.Mathlib.Nat.{mul_assoc, add-mul, add_comm, add_assoc}
use native.Mathlib.Omega.{arith}
use lib.ListN.{length, take, drop, length-append, take-append-drop}
use lib.Seq.{length-take-le, take_at, drop_at}
use lib.Pow.{pow-add, mod-pow-add, shr-shr, split}
use borrow.Rule.Slice.PartMut.{put_mid}
use Rattle.std.specs.Int.{w32, to_le_bytes}
use Rattle.std.proofs.lemmas.Slice.{take-put_mid, drop-put_mid}
use Rattle.streams.specs.Stream.{number}
use Rattle.streams.proofs.Stream.{number_append}
use Rattle.compression.specs.Writing.{four_bytes}

-- the bytes of a number's 32 low bits
low_bytes : (w : ℕ) → to_le_bytes w32 (w % 2 ^ 32) ≡ four_bytes w
low_bytes w =
    let b : w % 2 ^ 32 / 0x100 % 0x100 ≡ w / 0x100 % 0x100 = omega arith in
    let c : w % 2 ^ 32 / 0x1_0000 % 0x100 ≡ w / 0x1_0000 % 0x100 = omega arith in
    let d : w % 2 ^ 32 / 0x100_0000 % 0x100 ≡ w / 0x100_0000 % 0x100 = omega arith in
    let a : w % 2 ^ 32 % 0x100 ≡ w % 0x100 = omega arith in
    cc

-- four bytes of the output replaced by them
pub word_put : (out part : List ℕ) (i w : ℕ) → i + 4 ≤ length out → part ≡ to_le_bytes w32 (w % 2 ^ 32)
    → put_mid i (i + 4 - i) out part ≡ take i out ++ four_bytes w ++ drop (i + 4) out
word_put out part i w room is =
    let bytes : part ≡ four_bytes w = is ∙ low_bytes w in
    let long : length part ≡ 4 = ap (λ (l : List ℕ). length l) bytes in
    sym (take-append-drop (i + 4) (put_mid i (i + 4 - i) out part))
    ∙ ap₂ (λ (a b : List ℕ). a ++ b)
    (take-put_mid i (i + 4 - i) out part (i + 4) (omega (arith, long)) (omega arith) ∙ ap (λ (l : List ℕ). take i out ++ l) bytes)
    (drop-put_mid i (i + 4 - i) out part (i + 4) (omega arith) (omega arith) (omega (arith, long)))

-- a word's four bytes make its 32 low bits
join_four : (n b0 b1 b2 b3 x1 x2 : ℕ) → n ≡ x1 * 256 + b0 → x1 ≡ x2 * 256 + b1 → x2 ≡ b3 * 256 + b2 → b0 + 256 * (b1 + 256 * (b2 + 256 * (b3 + 256 * 0))) ≡ n
join_four n b0 b1 b2 b3 x1 x2 e0 e1 e2 = omega arith

pub number_four : (w : ℕ) → number (four_bytes w) ≡ w % 2 ^ 32
unfolding number
number_four w =
    join_four (w % 2 ^ 32) (w % 0x100) (w / 0x100 % 0x100) (w / 0x1_0000 % 0x100) (w / 0x100_0000 % 0x100) (w / 0x100 % 2 ^ 24) (w / 0x1_0000 % 2 ^ 16)
    (mod-pow-add w 24 8)
    (mod-pow-add (w / 0x100) 16 8 ∙ ap (λ (x : ℕ). x % 2 ^ 16 * 256 + w / 0x100 % 0x100) (shr-shr w 8 8))
    (mod-pow-add (w / 0x1_0000) 8 8 ∙ ap (λ (x : ℕ). x % 0x100 * 256 + w / 0x1_0000 % 0x100) (shr-shr w 16 8))

-- a value above a low part, moved up together
pub above : (v b held at : ℕ) → (v * 2 ^ held + b) * 2 ^ at ≡ b * 2 ^ at + v * 2 ^ (at + held)
above v b held at =
    add-mul (v * 2 ^ held) b (2 ^ at) ∙ add_comm (v * 2 ^ held * 2 ^ at) (b * 2 ^ at)
    ∙ ap (λ (x : ℕ). b * 2 ^ at + x) (mul_assoc v (2 ^ held) (2 ^ at) ∙ ap (λ (x : ℕ). v * x) (sym (pow-add 2 held at) ∙ ap (λ (k : ℕ). 2 ^ k) (add_comm held at)))

-- a word of the buffer written at byte i: the stream stays, and so does what is past the word
module _ (out : List ℕ) (i b : ℕ) (room : i + 4 ≤ length out) where
  abbrev worded : List ℕ
  worded = take i out ++ four_bytes b ++ drop (i + 4) out

  front_size : length (take i out) ≡ i
  front_size = length-take-le i out (omega arith)

  head_size : length (take i out ++ four_bytes b) ≡ i + 4
  head_size = length-append (take i out) (four_bytes b) ∙ ap (λ (k : ℕ). k + 4) front_size

  pub worded_take : take (i + 4) worded ≡ take i out ++ four_bytes b
  worded_take = take_at (take i out ++ four_bytes b) (drop (i + 4) out) (i + 4) head_size

  pub worded_drop : drop (i + 4) worded ≡ drop (i + 4) out
  worded_drop = drop_at (take i out ++ four_bytes b) (drop (i + 4) out) (i + 4) head_size

  pub worded_stream : number (take (i + 4) worded) + b / 2 ^ 32 * 2 ^ (8 * (i + 4)) ≡ number (take i out) + b * 2 ^ (8 * i)
  worded_stream =
      let n : ℕ = number (take i out) in
      let low : number (take (i + 4) worded) ≡ n + b % 2 ^ 32 * 2 ^ (8 * i) =
      ap number worded_take ∙ number_append (take i out) (four_bytes b)
      ∙ ap₂ (λ (x k : ℕ). n + x * 2 ^ (8 * k)) (number_four b) front_size in
      let at : 8 * (i + 4) ≡ 8 * i + 32 = omega arith in
      let high = ap (λ (k : ℕ). b / 2 ^ 32 * 2 ^ k) at in
      let whole : b * 2 ^ (8 * i) ≡ b % 2 ^ 32 * 2 ^ (8 * i) + b / 2 ^ 32 * 2 ^ (8 * i + 32) =
      ap (λ (x : ℕ). x * 2 ^ (8 * i)) (sym (split b 32)) ∙ above (b / 2 ^ 32) (b % 2 ^ 32) 32 (8 * i) in
      ap₂ (λ (x y : ℕ). x + y) low high ∙ add_assoc n (b % 2 ^ 32 * 2 ^ (8 * i)) (b / 2 ^ 32 * 2 ^ (8 * i + 32)) ∙ ap (λ (x : ℕ). n + x) (sym whole)

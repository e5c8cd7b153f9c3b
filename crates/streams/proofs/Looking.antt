-- What each look finds, and what stands there where it found something. Assumes nothing.
use mathlib.Core.Path.{◌≡◌, refl, sym, ap, ap₂, ◌∙◌, subst}
use mathlib.Core.Bool.{Bool, true, false}
use mathlib.Core.List.{List, []}
use Prim.Native.Nat.{ℕ, ◌+◌, ◌-◌, ◌*◌, ◌/◌, ◌%◌, ◌^◌, ◌≤◌, ◌<◌}
use native.Mathlib.Numerals.{add-one}
use native.Mathlib.Omega.{arith}
use borrow.Author.Tests.{le-leb, lt-leb, leb-true, ltb-true}
use lib.Dec.{leb, ltb}
use lib.ListN.{length, get_or}
use Rattle.laws.specs.Choose.{choose}
use Rattle.refusals.specs.Outcome.{accepted}
use Rattle.books.specs.Book.{length_in, codeword_in}
use Rattle.books.specs.Table.{decoded}
use Rattle.books.specs.Steps.{Shape}
use Rattle.books.specs.Calls.{check_of}
use Rattle.books.proofs.Accepted.{book_accepted}
use Rattle.books.proofs.Agreement.{which_at, decoded_is}
use Rattle.books.proofs.Verdicts.{sized_short}
use Rattle.streams.specs.Stream.{bits_at}
use Rattle.streams.specs.Looks.{Looked, found, cut, then_look, field_at, code_at, zeros_at, row_step_at}
use Rattle.streams.proofs.Stream.{front, bits_at_lt}
use Rattle.streams.proofs.Zeros.{zeros_in, run_found, zeros_at_is, zeros_one, zeros_of}

-- what comes of two looks comes of a first that found something
pub then_found : (r : Looked) (more : ℕ → ℕ → Looked) (v q : ℕ) → then_look r more ≡ found v q
    → (x : ℕ) × (p : ℕ) × (r ≡ found x p) × (more x p ≡ found v q)
then_found (found x p) more v q e = (x, p, refl, e)
then_found (cut p) more v q e = let z : ◌≡◌ {A = ℕ} 0 1 = cc in absurd (omega arith)

chosen : (t : Bool) (v q bit v' q' : ℕ) → choose t (found v q) (cut bit) ≡ found v' q' → (t ≡ true) × (v' ≡ v) × (q' ≡ q)
chosen true v q bit v' q' e = (refl, cc, cc)
chosen false v q bit v' q' e = let z : ◌≡◌ {A = ℕ} 0 1 = cc in absurd (omega arith)

-- ---- fields and zeros

module _ (n end : ℕ) where
  pub field_found : (count at : ℕ) → at + count ≤ end → field_at n end count at ≡ found (bits_at n at count) (at + count)
  field_found count at h = rw (le-leb (at + count) end h)

  pub field_cut : (count at : ℕ) → end < at + count → field_at n end count at ≡ cut at
  field_cut count at h = rw (lt-leb (at + count) end h)

  pub field_is : (count at v q : ℕ) → field_at n end count at ≡ found v q → (at + count ≤ end) × (v ≡ bits_at n at count) × (q ≡ at + count)
  field_is count at v q e =
      let c = chosen (leb (at + count) end) (bits_at n at count) (at + count) at v q e in
      (leb-true (at + count) end c.0, c.1, c.2)

  pub zeros_found : (at z : ℕ) → bits_at n at (z + 1) ≡ 2 ^ z → z / 8 < (end - at) / 8 → zeros_at n end at ≡ found z (at + z + 1)
  zeros_found at z e l =
      let q : zeros_in n end at ≡ z = zeros_of (end - at) (n / 2 ^ at) z (omega arith) (rw add-one at e) in
      zeros_at_is n end at ∙ run_found n end at (omega arith) ∙ ap (λ (x : ℕ). found x (at + x + 1)) q

  pub zeros_is : (at z q : ℕ) → zeros_at n end at ≡ found z q → (z / 8 < (end - at) / 8) × (bits_at n at (z + 1) ≡ 2 ^ z) × (q ≡ at + z + 1)
  zeros_is at z q e =
      let i : ℕ = zeros_in n end at in
      let c = chosen (ltb (i / 8) ((end - at) / 8)) i (at + i + 1) (at + (end - at) / 8 * 8) z q (sym (zeros_at_is n end at) ∙ e) in
      let l : i / 8 < (end - at) / 8 = ltb-true (i / 8) ((end - at) / 8) c.0 in
      let s = c.1 in
      (omega arith, rw (s, add-one) (zeros_one (end - at) (n / 2 ^ at) (omega arith)), omega (arith, c.2))

  -- zeros and a one, then b low bits
  pub row_found : (b at z : ℕ) → bits_at n at (z + 1) ≡ 2 ^ z → z / 8 < (end - at) / 8 → at + z + 1 + b ≤ end
      → row_step_at n end b at ≡ found (z * 2 ^ b + bits_at n (at + z + 1) b) (at + z + 1 + b)
  row_found b at z e l r =
      ap (λ (look : Looked). then_look look (λ zeros next. then_look (field_at n end b next) (λ low bit. found (zeros * 2 ^ b + low) bit))) (zeros_found at z e l)
      ∙ ap (λ (look : Looked). then_look look (λ low bit. found (z * 2 ^ b + low) bit)) (field_found b (at + z + 1) r)

-- a row step that was found
pub record RowIs (n end b at step q : ℕ) : Type 0 where
  pub zeros : ℕ
  pub looks : zeros / 8 < (end - at) / 8
  pub spelled : bits_at n at (zeros + 1) ≡ 2 ^ zeros
  pub room : at + zeros + 1 + b ≤ end
  pub is : step ≡ zeros * 2 ^ b + bits_at n (at + zeros + 1) b
  pub after : q ≡ at + zeros + 1 + b

pub row_is : (n end b at step q : ℕ) → row_step_at n end b at ≡ found step q → RowIs n end b at step q
row_is n end b at step q e =
    let f = then_found (zeros_at n end at) (λ zeros next. then_look (field_at n end b next) (λ low bit. found (zeros * 2 ^ b + low) bit)) step q e in
    let z : ℕ = f.0 in
    let g = then_found (field_at n end b f.1) (λ low bit. found (z * 2 ^ b + low) bit) step q f.3 in
    let zs = zeros_is n end at z f.1 f.2 in
    let fs = field_is n end b f.1 g.0 g.1 g.2 in
    let same : found (z * 2 ^ b + g.0) g.1 ≡ found step q = g.3 in
    let value : z * 2 ^ b + g.0 ≡ step = cc in
    let next : g.1 ≡ q = cc in
    let bits : bits_at n f.1 b ≡ bits_at n (at + z + 1) b = ap (λ (i : ℕ). bits_at n i b) zs.2 in
    record {
      zeros = z;
      looks = zs.0;
      spelled = zs.1;
      room = omega (arith, fs.0, zs.2);
      is = sym value ∙ ap (λ (low : ℕ). z * 2 ^ b + low) (fs.1 ∙ bits);
      after = omega (arith, fs.2, zs.2);
    }

-- ---- codes

-- a symbol's codeword stands at a bit, and a look fits there
pub record CodeIs (n end : ℕ) (book : List ℕ) (at symbol q : ℕ) : Type 0 where
  pub inside : symbol < length book
  pub look : at + 12 ≤ end
  pub spelled : bits_at n at (length_in (get_or book symbol 0)) ≡ codeword_in (get_or book symbol 0)
  pub after : q ≡ at + length_in (get_or book symbol 0)
  pub shape : Shape (get_or book symbol 0)

module _ (book : List ℕ) (ok : check_of book ≡ accepted []) (n end at : ℕ) where
  -- the low bits of a look
  low_look : (count : ℕ) → count ≤ 12 → bits_at n at 12 % 2 ^ count ≡ bits_at n at count
  low_look count l = let e : 12 ≡ 12 - count + count = omega arith in ap (λ (i : ℕ). bits_at n at i % 2 ^ count) e ∙ front n at count (12 - count)

  -- what the book says of a look
  symbol_of : (x : ℕ) → x < length book → bits_at n at (length_in (get_or book x 0)) ≡ codeword_in (get_or book x 0)
      → (decoded book (bits_at n at 12) % 256 ≡ x) × (decoded book (bits_at n at 12) / 256 ≡ length_in (get_or book x 0))
  symbol_of x l e =
      let b = book_accepted book ok in
      let short = sized_short book b.0 in
      let entry = decoded_is book b.2 x (bits_at n at 12) l (bits_at_lt n at 12) (low_look (length_in (get_or book x 0)) (b.1 x l).most ∙ e) in
      (omega arith, omega arith)

  pub code_found : (x : ℕ) → x < length book → bits_at n at (length_in (get_or book x 0)) ≡ codeword_in (get_or book x 0) → at + 12 ≤ end
      → code_at n end book at ≡ found x (at + length_in (get_or book x 0))
  code_found x l e h =
      let s = symbol_of x l e in
      ap (λ (r : Looked). then_look r (λ look next. found (decoded book look % 256) (at + decoded book look / 256))) (field_found n end 12 at h)
      ∙ ap₂ (λ (v i : ℕ). found v (at + i)) s.0 s.1

  pub code_is : (x q : ℕ) → code_at n end book at ≡ found x q → CodeIs n end book at x q
  code_is x q e =
      let b = book_accepted book ok in
      let f = then_found (field_at n end 12 at) (λ look next. found (decoded book look % 256) (at + decoded book look / 256)) x q e in
      let i = field_is n end 12 at f.0 f.1 f.2 in
      let w = which_at book b.2 (bits_at n at 12) (bits_at_lt n at 12) in
      let y : ℕ = w.0 in
      let spelled : bits_at n at (length_in (get_or book y 0)) ≡ codeword_in (get_or book y 0) = sym (low_look (length_in (get_or book y 0)) (b.1 y w.1).most) ∙ w.2 in
      let s = symbol_of y w.1 spelled in
      let same : found (decoded book f.0 % 256) (at + decoded book f.0 / 256) ≡ found x q = f.3 in
      let value : decoded book f.0 % 256 ≡ x = cc in
      let next : at + decoded book f.0 / 256 ≡ q = cc in
      let look = i.1 in
      let is : y ≡ x = sym s.0 ∙ ap (λ (l : ℕ). decoded book l % 256) (sym look) ∙ value in
      let after : q ≡ at + length_in (get_or book y 0) = sym next ∙ ap (λ (l : ℕ). at + decoded book l / 256) look ∙ ap (λ (j : ℕ). at + j) s.1 in
      subst (λ (x : ℕ). CodeIs n end book at x q) is
      (record { inside = w.1; look = i.0; spelled = spelled; after = after; shape = b.1 y w.1 })

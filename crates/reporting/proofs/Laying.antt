-- Laws of a line that is put together piece by piece. Assumes nothing.
use mathlib.Core.Path.{◌≡◌, refl, sym, subst, ap, ap₂, ◌∙◌}
use mathlib.Core.Bool.{Bool, cond}
use mathlib.Core.Logic.{⊎_elim}
use mathlib.Core.List.{List, [], ◌∷◌, ◌++◌}
use Prim.Native.Nat.{ℕ, zero, suc, ◌+◌, ◌-◌, ◌*◌, ◌/◌, ◌%◌, ◌^◌, ◌≤◌, ◌<◌}
use native.Mathlib.Numerals.{add-one}
use native.Mathlib.Nat.{pow-zero, pow-suc, pow-le-pow_right}
use native.Mathlib.Omega.{arith}
use lib.ListN.{length, get_or, take, drop, set, length-append}
use lib.Seq.{paste, paste-suc, take-length, take_at, take-append_seam, drop-append-add, drop-drop}
use borrow.Author.Tests.{lt-ltb, le-ltb}
use Rattle.io.specs.Digits.{last_digits, hex_digit_ascii, IsDigitCount}
use Rattle.laws.specs.Choose.{choose}
use Rattle.laws.proofs.Orders.{lt_or_le}
use Rattle.refusals.specs.declared.Refusal.TheVariants.{NoRoom}
use Rattle.reporting.specs.Calls.{Laid, laid, line_into}
use Rattle.std.specs.Prelude.{Some, Ok, Err}
use Rattle.reporting.specs.Lines.{newline, equals, digits_within, decimal, line}

pub paste_turn : (d s out : List ℕ) (at i : ℕ) → at + i < length d → i < length s → out ≡ paste d at s i → set out (at + i) (get_or s i 0) ≡ paste d at s (i + 1)
paste_turn d s out at i l m e = ap (λ (o : List ℕ). set o (at + i) (get_or s i 0)) e ∙ paste-suc d at s i 0 l m ∙ ap (paste d at s) (sym (add-one i))

-- so far the output is a text and what was there before past it; one piece more
pub put_more : (l more out o o' : List ℕ) (at : ℕ) → at ≡ length l → o ≡ l ++ drop (length l) out → o' ≡ paste o at more (length more)
    → o' ≡ (l ++ more) ++ drop (length (l ++ more)) out
put_more l more out o o' at a e p =
    let rest = drop (length l) out in
    p ∙ ap₂ (λ (n : ℕ) (x : List ℕ). paste x n more (length more)) a e
    ∙ ap₂ (λ (x y : List ℕ). x ++ y ++ drop (length l + length more) (l ++ rest)) (take-append_seam l rest) (take-length more)
    ∙ ap (λ (x : List ℕ). (l ++ more) ++ x)
    (drop-append-add l rest (length more) ∙ drop-drop (length more) (length l) out ∙ ap (λ (n : ℕ). drop n out) (sym (length-append l more)))

-- a digit below 10
digit : (n : ℕ) → n < 10 → hex_digit_ascii n ≡ 48 + n
digit n l = ap (λ (b : Bool). cond b (48 + n) (87 + n)) (lt-ltb n 10 l)

ten_power : (j : ℕ) → 0 < 10 ^ j
ten_power zero = omega (arith, pow-zero 10)
ten_power (suc j) = omega (arith, ten_power j, pow-suc 10 j)

-- where k digits are the fewest that hold n, they are those of the definition
within : (more k n : ℕ) → k ≤ more → 1 ≤ k → n < 10 ^ k → (1 < k → 10 ^ (k - 1) ≤ n) → last_digits 10 k n ≡ digits_within more n
unfolding digits_within
within zero k n r o b f = absurd (omega arith)
within (suc more) zero n r o b f = absurd (omega arith)
within (suc more) (suc zero) n r o b f =
    let small : n < 10 = b in
    let same : n % 10 ≡ n = omega arith in
    ap (λ (d : ℕ). hex_digit_ascii d ∷ []) same ∙ ap (λ (d : ℕ). d ∷ []) (digit n small)
    ∙ sym (ap (λ (t : Bool). choose t ((48 + n) ∷ []) (digits_within more (n / 10) ++ ((48 + n % 10) ∷ []))) (lt-ltb n 10 small))
within (suc more) (suc (suc j)) n r o b f =
    let most : n < 10 ^ suc j * 10 = subst (λ (p : ℕ). n < p) (pow-suc 10 (suc j)) b in
    let least : 10 ^ suc j ≤ n = subst (λ (i : ℕ). 10 ^ i ≤ n) (omega arith) (f (omega arith)) in
    let ten : 10 ^ suc j ≡ 10 ^ j * 10 = pow-suc 10 j in
    let some : 0 < 10 ^ j = ten_power j in
    let big : 10 ≤ n = omega arith in
    let lower : 10 ^ j ≤ n / 10 = omega arith in
    let upper : n / 10 < 10 ^ suc j = omega arith in
    let again = within more (suc j) (n / 10) (omega arith) (omega arith) upper (λ (l : 1 < suc j). subst (λ (i : ℕ). 10 ^ i ≤ n / 10) (omega arith) lower) in
    ap₂ (λ (l : List ℕ) (d : ℕ). l ++ (d ∷ [])) again (digit (n % 10) (omega arith))
    ∙ sym (ap (λ (t : Bool). choose t ((48 + n) ∷ []) (digits_within more (n / 10) ++ ((48 + n % 10) ∷ []))) (le-ltb n 10 big))

-- what the kit's printer writes is the decimal of the definition
pub printed : (n k : ℕ) (text : List ℕ) → k ≤ 20 → IsDigitCount 10 1 n k → text ≡ last_digits 10 k n → text ≡ decimal n
printed n k text r f e = e ∙ within 20 k n r f.0 f.1 f.2

-- four pieces make a line
pub line_put : (name said o o₁ o₂ o₃ o₄ : List ℕ) (r₁ r₂ r₃ r₄ : ℕ) → (r₁ ≡ 0 + length name) × (o₁ ≡ paste o 0 name (length name))
    → (r₂ ≡ r₁ + 1) × (o₂ ≡ paste o₁ r₁ (equals ∷ []) 1) → (r₃ ≡ r₂ + length said) × (o₃ ≡ paste o₂ r₂ said (length said))
    → (r₄ ≡ r₃ + 1) × (o₄ ≡ paste o₃ r₃ (newline ∷ []) 1) → (r₄ ≡ length (line name said)) × (o₄ ≡ line name said ++ drop (length (line name said)) o)
line_put name said o o₁ o₂ o₃ o₄ r₁ r₂ r₃ r₄ p q r s =
    let a₁ : r₁ ≡ length name = omega (arith, p.0) in
    let a₂ : r₂ ≡ length (name ++ (equals ∷ [])) = omega (arith, q.0, length-append name (equals ∷ [])) in
    let a₃ : r₃ ≡ length (name ++ (equals ∷ []) ++ said) = omega (arith, r.0, length-append (name ++ (equals ∷ [])) said) in
    let a₄ : r₄ ≡ length (line name said) = omega (arith, s.0, length-append (name ++ (equals ∷ []) ++ said) (newline ∷ [])) in
    let w₁ = put_more [] name o o o₁ 0 refl refl p.1 in
    let w₂ = put_more name (equals ∷ []) o o₁ o₂ r₁ a₁ w₁ q.1 in
    let w₃ = put_more (name ++ (equals ∷ [])) said o o₂ o₃ r₂ a₂ w₂ r.1 in
    (a₄, put_more (name ++ (equals ∷ []) ++ said) (newline ∷ []) o o₃ o₄ r₃ a₃ w₃ s.1)

pub line_length : (name said : List ℕ) → length (line name said) ≡ length name + length said + 2
line_length name said =
    omega (arith, length-append (name ++ (equals ∷ []) ++ said) (newline ∷ []), length-append (name ++ (equals ∷ [])) said, length-append name (equals ∷ []))

module _ (name said out : List ℕ) where
  pub no_room : length out < length name + length said + 2 → laid (Err NoRoom) out ≡ line_into (line name said) out
  no_room l = simp (lt-ltb (length out) (length (line name said)) (omega (arith, line_length name said)))

  pub room : (r : ℕ) (o : List ℕ) → length name + length said + 2 ≤ length out → (r ≡ length (line name said)) × (o ≡ line name said ++ drop (length (line name said)) out)
      → laid (Ok (Some r)) o ≡ line_into (line name said) out
  room r o l e =
      ap₂ (λ (n : ℕ) (x : List ℕ). laid (Ok (Some n)) x) e.0 e.1
      ∙ sym (ap (λ (t : Bool). choose t (laid (Err NoRoom) out) (laid (Ok (Some (length (line name said)))) (line name said ++ drop (length (line name said)) out)))
      (le-ltb (length out) (length (line name said)) (omega (arith, line_length name said))))

-- what is said is a decimal that was printed
pub said_printed : (name said out : List ℕ) (n : ℕ) (x : Laid) → x ≡ line_into (line name said) out → said ≡ decimal n → x ≡ line_into (line name (decimal n)) out
said_printed name said out n x e p = e ∙ ap (λ (s : List ℕ). line_into (line name s) out) p

pub named_printed : (name name' said out : List ℕ) (x : Laid) → x ≡ line_into (line name said) out → name ≡ name' → x ≡ line_into (line name' said) out
named_printed name name' said out x e p = e ∙ ap (λ (s : List ℕ). line_into (line s said) out) p

-- a name of one letter and more behind it
pub name_put : (letter o o₁ o₂ more : List ℕ) (r₁ r₂ : ℕ) → (r₁ ≡ 0 + length letter) × (o₁ ≡ paste o 0 letter (length letter))
    → (r₂ ≡ r₁ + length more) × (o₂ ≡ paste o₁ r₁ more (length more)) → take r₂ o₂ ≡ letter ++ more
name_put letter o o₁ o₂ more r₁ r₂ p q =
    let a₁ : r₁ ≡ length letter = omega (arith, p.0) in
    let a₂ : length (letter ++ more) ≡ r₂ = omega (arith, q.0, length-append letter more) in
    let w₁ = put_more [] letter o o o₁ 0 refl refl p.1 in
    ap (take r₂) (put_more letter more o o₁ o₂ r₁ a₁ w₁ q.1) ∙ take_at (letter ++ more) (drop (length (letter ++ more)) o) r₂ a₂

-- a number below 2^64 has at most 20 digits
pub few : (n k : ℕ) → n < 2 ^ 64 → IsDigitCount 10 1 n k → k ≤ 20
few n k b f =
    ⊎_elim (λ (l : k < 21). omega arith)
    (λ (h : 21 ≤ k).
    let grown : 10 ^ 20 ≤ 10 ^ (k - 1) = pow-le-pow_right (omega arith) {i = 20} {j = k - 1} (omega arith) in
    let least : 10 ^ (k - 1) ≤ n = f.2 (omega arith) in
    absurd (omega arith))
    (lt_or_le k 21)

short_within : (more n : ℕ) → length (digits_within more n) ≤ more
unfolding digits_within
short_within zero n = omega arith
short_within (suc more) n =
    ⊎_elim (λ (l : n < 10). rw (lt-ltb n 10 l) (omega arith))
    (λ (h : 10 ≤ n). rw (le-ltb n 10 h) (omega (arith, length-append (digits_within more (n / 10)) ((48 + n % 10) ∷ []), short_within more (n / 10))))
    (lt_or_le n 10)

pub short : (n : ℕ) → length (decimal n) ≤ 20
short n = short_within 20 n

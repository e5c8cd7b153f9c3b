-- What a split counts, says and leaves. Assumes nothing.
use mathlib.Core.Path.{◌≡◌, refl, sym, ap, ap₂, ◌∙◌, subst}
use mathlib.Core.Bool.{Bool, true, false, true≢false}
use mathlib.Core.List.{List, [], ◌∷◌, ◌++◌}
use Prim.Native.Nat.{ℕ, zero, suc, ◌^◌, ◌≤◌, ◌<◌}
use native.Mathlib.Omega.{arith}
use borrow.Author.Tests.{eq-eqb}
use lib.Count.{count_trailing_zeros}
use lib.Dec.{eqb, ltb}
use lib.ListN.{length, get_or, drop}
use lib.Pow.{pow_mono}
use Rattle.laws.specs.Choose.{choose}
use Rattle.laws.proofs.Any.{any_of}
use Rattle.refusals.specs.Outcome.{Outcome, accepted, refused, if_accepted}
use Rattle.numbers.specs.Calls.{outside}
use Rattle.numbers.specs.Numbers.{flavor_at, offset_at}
use Rattle.numbers.specs.Told.{flavor_number}
use Rattle.numbers.specs.declared.Flavor.{Flavor}
use Rattle.pair_lists.specs.Lists.{pairs_judged}
use Rattle.matrices.specs.Calls.{offset_in, window_in, listed, split_of, split_window, split_pairs}
use Rattle.matrices.specs.Listing.{in_list}
use Rattle.matrices.specs.Matrix.{coupons, reserved}
use Rattle.matrices.specs.Parts.{windowed, surprise_pairs, first_column}
use Rattle.matrices.specs.Shapes.{windows, Sorted}
use Rattle.matrices.specs.Source.{has_window}
use Rattle.matrices.proofs.Judged.{judged_sorted, judged_below, judged_lawful}
use Rattle.matrices.proofs.SplitLists.{split_judged}
use Rattle.unions.specs.Steps.{SurpriseSum, SplitLeft, room_judged}
use Rattle.unions.specs.declared.cut.Cut.{Cut}
use Rattle.unions.specs.declared.matrix.Matrix.{Matrix}
use Rattle.unions.specs.declared.shape.Shape.{Shape}
use Rattle.unions.proofs.ShapeTold.{inside_of, window_is, offset_is}
use Rattle.unions.specs.declared.splitting.Surprises.{Surprises}

-- ---- numbers fit

sorted_least : (ps : List ℕ) → Sorted ps → (i : ℕ) → i < length ps → i ≤ get_or ps i 0
sorted_least ps s zero h = omega arith
sorted_least ps s (suc i) h = omega (arith, sorted_least ps s i (omega arith), s.less i (suc i) (omega arith) h)

-- a judged list has less than 2^32 pairs
pub judged_short : (lg : ℕ) (ps : List ℕ) → lg ≤ 26 → pairs_judged (2 ^ lg) ps ≡ accepted [] → length ps < 2 ^ 32
unfolding in_list
judged_short lg ps h e = go (length ps) refl
  where
    go : (n : ℕ) → length ps ≡ n → length ps < 2 ^ 32
    go zero q = omega arith
    go (suc n) q =
        let l : n < length ps = omega arith in
        let top : 2 ^ lg ≤ 2 ^ 26 = pow_mono h in
        let least = sorted_least ps (judged_sorted (2 ^ lg) ps e) n l in
        let below = judged_below (2 ^ lg) ps e n l in
        let other : get_or ps n 0 ≡ 4294967295 → ⊥ = λ z.
        true≢false (sym (any_of (length ps) (λ i. eqb (get_or ps i 0) 4294967295) n l (eq-eqb (get_or ps n 0) 4294967295 z)) ∙ judged_lawful (2 ^ lg) ps e) in
        omega (arith, least, below, other)

-- ---- what a split says and leaves

module _ (m window out : List ℕ) (shape : Shape) (is : shape.coupons ≡ coupons m) where
  abbrev lg : ℕ
  lg = shape.size.lg

  abbrev wide : Bool
  wide = windowed shape.flavor

  abbrev o : ℕ
  o = shape.offset.column

  wide_is : wide ≡ window_in lg m
  wide_is = window_is shape ∙ ap (λ (x : ℕ). has_window (2 ^ lg) x) is

  column_is : o ≡ offset_in lg m
  column_is = offset_is shape ∙ ap (λ (x : ℕ). offset_at (2 ^ lg) x) is

  list_is : surprise_pairs wide o m ≡ listed lg m
  list_is = ap₂ (λ (b : Bool) (o : ℕ). surprise_pairs b o m) wide_is column_is

  -- the room does not do
  abbrev short : Bool
  short = ltb (length out) (length (surprise_pairs wide o m))

  short_is : short ≡ ltb (length out) (length (listed lg m))
  short_is = ap (λ (l : List ℕ). ltb (length out) (length l)) list_is

  refused_5 : short ≡ true → refused 5 0 ≡ room_judged lg m (length out)
  unfolding room_judged
  refused_5 e = sym (simp (sym short_is ∙ e))

  pub room_short : short ≡ true → SplitLeft lg m window out (refused 5 0) window out
  room_short e = record {
    told = refused_5 e;
    parted = ap (λ (x : Outcome). if_accepted x (choose (window_in lg m) (windows (offset_in lg m) m) window) window) (refused_5 e);
    written = ap (λ (x : Outcome). if_accepted x (listed lg m ++ drop (length (listed lg m)) out) out) (refused_5 e);
  }

  module _ (found : Surprises) (sum : SurpriseSum wide o m found) (enough : short ≡ false) where
    said : Outcome
    said = accepted (shape.coupons ∷ flavor_number shape.flavor ∷ o ∷ count_trailing_zeros 64 found.ored ∷ found.count ∷ [])

    answer : said ≡ room_judged lg m (length out)
    unfolding said room_judged
    answer =
        let f : shape.flavor ≡ flavor_at (2 ^ lg) (coupons m) = shape.flavored ∙ ap₂ flavor_at shape.size.power is in
        let t : count_trailing_zeros 64 found.ored ≡ first_column (window_in lg m) (offset_in lg m) m = sum.first ∙ ap₂ (λ (b : Bool) (o : ℕ). first_column b o m) wide_is column_is in
        let n : found.count ≡ length (listed lg m) = sum.count ∙ ap length list_is in
        ap₂ (λ (x : ℕ) (g : Flavor). accepted (x ∷ flavor_number g ∷ o ∷ count_trailing_zeros 64 found.ored ∷ found.count ∷ [])) is f
        ∙ ap₂ (λ (x y : ℕ). accepted (coupons m ∷ flavor_number (flavor_at (2 ^ lg) (coupons m)) ∷ x ∷ y ∷ found.count ∷ [])) column_is t
        ∙ ap (λ (x : ℕ). accepted (coupons m ∷ flavor_number (flavor_at (2 ^ lg) (coupons m)) ∷ offset_in lg m ∷ first_column (window_in lg m) (offset_in lg m) m ∷ x ∷ [])) n
        ∙ sym (simp (sym short_is ∙ enough))

    pub room_enough : (bytes pairs : List ℕ) → bytes ≡ choose wide (windows o m) window
        → pairs ≡ surprise_pairs wide o m ++ drop (length (surprise_pairs wide o m)) out
        → SplitLeft lg m window out (accepted (shape.coupons ∷ flavor_number shape.flavor ∷ o ∷ count_trailing_zeros 64 found.ored ∷ found.count ∷ [])) bytes pairs
    unfolding said
    room_enough bytes pairs eb ep = record {
      told = answer;
      parted =
          eb ∙ ap₂ (λ (b : Bool) (o : ℕ). choose b (windows o m) window) wide_is column_is
          ∙ ap (λ (x : Outcome). if_accepted x (choose (window_in lg m) (windows (offset_in lg m) m) window) window) answer;
      written =
          ep ∙ ap (λ (l : List ℕ). l ++ drop (length l) out) list_is
          ∙ ap (λ (x : Outcome). if_accepted x (listed lg m ++ drop (length (listed lg m)) out) out) answer;
    }

-- the surprises are fewer than 2^32
pub count_fits : (m : List ℕ) (shape : Shape) (found : Surprises) → length m ≡ shape.size.k → reserved shape.size.lg m ≡ false
    → SurpriseSum (windowed shape.flavor) shape.offset.column m found → found.count < 2 ^ 32
count_fits m shape found rows clear sum =
    let lg = shape.size.lg in
    let wide = windowed shape.flavor in
    let o = shape.offset.column in
    subst (λ (x : ℕ). x < 2 ^ 32) (sym sum.count)
    (judged_short lg (surprise_pairs wide o m) shape.size.high (split_judged lg wide o m shape.size.high (rows ∙ shape.size.power) shape.offset.most clear))

-- ---- the whole split

split_last : (lg : ℕ) (m window out : List ℕ) → outside lg ≡ false → length m ≡ 2 ^ lg → length window ≡ 2 ^ lg → reserved lg m ≡ false → room_judged lg m (length out) ≡ split_of lg m window out
unfolding room_judged split_of
split_last lg m window out inside rows long clear = sym (simp (inside, eq-eqb (length m) (2 ^ lg) rows, eq-eqb (length window) (2 ^ lg) long, clear))

module _ (lg : ℕ) (m window out : List ℕ) where
  -- where neither 1 nor 2 nor 10 is due
  pub split_whole : (answer : Outcome) (bytes pairs : List ℕ) → outside lg ≡ false → length m ≡ 2 ^ lg → length window ≡ 2 ^ lg → reserved lg m ≡ false
      → SplitLeft lg m window out answer bytes pairs
      → (answer ≡ split_of lg m window out) × (bytes ≡ split_window lg m window out) × (pairs ≡ split_pairs lg m window out)
  split_whole answer bytes pairs inside rows long clear s = (
    s.told ∙ last,
    s.parted ∙ ap (λ (x : Outcome). if_accepted x (choose (window_in lg m) (windows (offset_in lg m) m) window) window) last,
    s.written ∙ ap (λ (x : Outcome). if_accepted x (listed lg m ++ drop (length (listed lg m)) out) out) last,
  )
    where
      last : room_judged lg m (length out) ≡ split_of lg m window out
      last = split_last lg m window out inside rows long clear

-- what holds of the shape and the words of a cut holds of those that it was made of
pub of_cut : (q : Cut) (m : List ℕ) (s : Shape) → (q.words.now ≡ m) × (q.shape ≡ s) → (F : Shape → List ℕ → Type 0) → F q.shape q.words.now → F s m
of_cut q m s e F x = subst (λ (t : Shape). F t m) e.1 (subst (F q.shape) e.0 x)

-- and what is left at an lg_k is left at one that is the same
pub at_size : {lg k : ℕ} {m window out bytes pairs : List ℕ} {answer : Outcome} → lg ≡ k → SplitLeft lg m window out answer bytes pairs → SplitLeft k m window out answer bytes pairs
at_size {m} {window} {out} {bytes} {pairs} {answer} e s = subst (λ (n : ℕ). SplitLeft n m window out answer bytes pairs) e s

-- the whole split of a matrix that was made of this lg_k and these words
pub split_matrix : (q : Matrix) (lg : ℕ) (m window out : List ℕ) → q.size.lg ≡ lg → q.words.now ≡ m → length window ≡ q.size.k → reserved q.size.lg q.words.now ≡ false
    → (answer : Outcome) (bytes pairs : List ℕ) → SplitLeft q.size.lg q.words.now window out answer bytes pairs
    → (answer ≡ split_of lg m window out) × (bytes ≡ split_window lg m window out) × (pairs ≡ split_pairs lg m window out)
split_matrix q lg m window out is words long clear answer bytes pairs s =
    subst (λ (n : ℕ). (answer ≡ split_of n m window out) × (bytes ≡ split_window n m window out) × (pairs ≡ split_pairs n m window out)) is
    (subst (λ (l : List ℕ). (answer ≡ split_of q.size.lg l window out) × (bytes ≡ split_window q.size.lg l window out) × (pairs ≡ split_pairs q.size.lg l window out)) words
    (split_whole q.size.lg q.words.now window out answer bytes pairs (inside_of q.size) (q.long ∙ q.size.power) (long ∙ q.size.power) clear s))

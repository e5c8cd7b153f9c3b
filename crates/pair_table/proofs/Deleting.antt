-- Taking an item out: a hole that moves along, then halving. Assumes nothing.
use mathlib.Core.Path.{◌≡◌, refl, sym, ap, ◌∙◌, subst}
use mathlib.Core.Bool.{true, false}
use mathlib.Core.List.{List}
use Prim.Native.Nat.{ℕ, ◌+◌, ◌-◌, ◌*◌, ◌^◌, ◌≤◌, ◌<◌}
use native.Mathlib.Omega.{arith}
use native.Mathlib.Nat.{pow-suc}
use native.Mathlib.Numerals.{add-one}
use lib.ListN.{length, get_or, set, length-set, replicate}
use lib.Dec.{leb}
use borrow.Author.Tests.{eq-eqb, ne_eqb, leb-true, leb-false}
use Rattle.std.specs.Prelude.{Option, None, Result, Ok}
use Rattle.refusals.specs.declared.Refusal.{Refusal}
use Rattle.pair_table.specs.declared.PairTable.{PairTable}
use Rattle.tables.specs.Slots.{empty, home, next, spot, held, holds}
use Rattle.tables.specs.Changes.{blank, remove, rebuilt, halved, halved_lg, deleted}
use Rattle.tables.specs.Shapes.{Lawful, AllSmall, EmptyFrom, apart, shifted}
use Rattle.tables.specs.Calls.{changed}
use Rattle.tables.proofs.Laws.{items_full}
use Rattle.tables.proofs.Stepping.{next_lt}
use Rattle.tables.proofs.Placing.{small_set}
use Rattle.tables.proofs.Delete.{removed_some}
use Rattle.tables.proofs.Refilled.{total_mono}
use Rattle.tables.proofs.Bridges.{holds_spot}
use Rattle.tables.proofs.Shift.{shifted_done, shifted_out, shifted_move, shifted_stay, remove_is}
use Rattle.tables.proofs.Halving.{halves_yes, halves_full, halves_least, halved_stop, halved_lg_stop, halved_go, halved_lg_go, length_rebuilt, half_lawful}
use Rattle.pair_table.specs.Told.{told_change}
use Rattle.pair_table.specs.Steps.{delete_on, DeletedBy}
use Rattle.pair_table.proofs.Inserting.{wiped, went, stayed}

-- ---- the hole at h, with the slots before p done

pub record Shifting (s₀ s : List ℕ) (lg v hole h p left : ℕ) : Type 0 where
  pub long : length s ≡ length s₀
  pub hole_in : h < 2 ^ lg
  pub at_in : p < 2 ^ lg
  pub small : AllSmall s (2 ^ lg) v
  pub goes : shifted s₀ lg v (2 ^ lg) hole (next (2 ^ lg) hole) ≡ shifted s lg v left h p

pub shift_begins : (s : List ℕ) (lg v hole n p : ℕ) → hole < 2 ^ lg → AllSmall s (2 ^ lg) v → n ≡ 2 ^ lg → p ≡ next n hole → Shifting s s lg v hole hole p n
shift_begins s lg v hole n p h f z e =
    let is : p ≡ next (2 ^ lg) hole = e ∙ ap (λ (k : ℕ). next k hole) z in
    rw (is, z) (record { long = refl; hole_in = h; at_in = next_lt (2 ^ lg) hole h; small = f; goes = refl })

module _ (s₀ s : List ℕ) (lg v hole h p left : ℕ) (a : Shifting s₀ s lg v hole h p left) (room : 2 ^ lg ≤ length s₀) where
  pub shift_ends : get_or s p 0 ≡ empty → s ≡ shifted s₀ lg v (2 ^ lg) hole (next (2 ^ lg) hole)
  shift_ends e = sym (a.goes ∙ shifted_done s lg v left h p e)

  pub shift_out : left ≤ 0 → s ≡ shifted s₀ lg v (2 ^ lg) hole (next (2 ^ lg) hole)
  shift_out l = sym (a.goes ∙ shifted_out s lg v left h p l)

  module _ (more : 0 < left) (full : get_or s p 0 ≡ empty → ⊥) (q : ℕ) (step : q ≡ next (2 ^ lg) p) where
    pub shift_moves : leb (apart (2 ^ lg) h p) (apart (2 ^ lg) (home lg v (get_or s p 0)) p) ≡ true → Shifting s₀ (set (set s h (get_or s p 0)) p empty) lg v hole p q (left - 1)
    shift_moves t =
        let hl : h < length s = omega (arith, a.long, a.hole_in) in
        let pl : p < length (set s h (get_or s p 0)) = rw (length-set s h (get_or s p 0)) (omega (arith, a.long, a.at_in)) in
        rw step (record {
          long = length-set (set s h (get_or s p 0)) p empty ∙ length-set s h (get_or s p 0) ∙ a.long;
          hole_in = a.at_in;
          at_in = next_lt (2 ^ lg) p a.at_in;
          small = small_set (set s h (get_or s p 0)) (2 ^ lg) v p empty pl (small_set s (2 ^ lg) v h (get_or s p 0) hl a.small (λ d. a.small p a.at_in full)) (λ d. absurd (d refl));
          goes = a.goes ∙ shifted_move s lg v left h p more full (leb-true _ _ t);
        })

    pub shift_stays : leb (apart (2 ^ lg) h p) (apart (2 ^ lg) (home lg v (get_or s p 0)) p) ≡ false → Shifting s₀ s lg v hole h q (left - 1)
    shift_stays t = rw step (record {
      long = a.long;
      hole_in = a.hole_in;
      at_in = next_lt (2 ^ lg) p a.at_in;
      small = a.small;
      goes = a.goes ∙ shifted_stay s lg v left h p more full (leb-false _ _ t);
    })

-- ---- a table that halves from lg, and has 2 ^ at slots

pub record Halving (s₀ e₀ s e : List ℕ) (lg v c at : ℕ) : Type 0 where
  pub long : length s ≡ length s₀
  pub clean : e ≡ blank e₀
  pub lawful : Lawful s at v c
  pub least : 2 ≤ at
  pub most : at ≤ lg
  pub region : halved lg s₀ lg v c ≡ halved at s at v c
  pub ends : halved_lg lg lg c ≡ halved_lg at at c

pub halving_begins : (s e : List ℕ) (lg v c : ℕ) → e ≡ blank e → Lawful s lg v c → Halving s e s e lg v c lg
halving_begins s e lg v c clean l = record { long = refl; clean = clean; lawful = l; least = l.lg_least; most = omega arith; region = refl; ends = refl }

half : (at : ℕ) → 2 < at → 2 ^ at ≡ 2 ^ (at - 1) * 2
half at h =
    let e : at ≡ at - 1 + 1 = omega arith in
    ap (λ (k : ℕ). 2 ^ k) e ∙ ap (λ (k : ℕ). 2 ^ k) (add-one (at - 1)) ∙ pow-suc 2 (at - 1)

module _ (s₀ e₀ s e : List ℕ) (lg v c at : ℕ) (a : Halving s₀ e₀ s e lg v c at) (level : length s₀ ≡ length e₀) where
  pub halving_stops : 2 ^ at ≤ 4 * c → (s ≡ halved lg s₀ lg v c) × (at ≡ halved_lg lg lg c) × (e ≡ blank e₀)
  halving_stops h =
      (sym (a.region ∙ halved_stop at s at v c (halves_full c at h)), sym (a.ends ∙ halved_lg_stop at at c (halves_full c at h)), a.clean)

  pub halving_least : at ≤ 2 → (s ≡ halved lg s₀ lg v c) × (at ≡ halved_lg lg lg c) × (e ≡ blank e₀)
  halving_least h =
      (sym (a.region ∙ halved_stop at s at v c (halves_least c at h)), sym (a.ends ∙ halved_lg_stop at at c (halves_least c at h)), a.clean)

  module _ (large : 2 < at) where
    pub halving_needs : ((length s ≡ length e) × (e ≡ blank e) × EmptyFrom s (2 ^ at) (length s) × AllSmall s (2 ^ at) v) × ((2 ^ at ≤ length s) × (2 ^ (at - 1) ≤ length s))
    halving_needs =
        let w = wiped e e₀ a.clean in
        let l = a.lawful in (
          (a.long ∙ level ∙ sym w.1, w.0, l.beyond, λ p h f. (l.placed p h f).small),
          (l.room, omega (arith, half at large, l.room)),
        )

    pub halving_goes : 4 * c < 2 ^ at → (t u : List ℕ) → t ≡ rebuilt s at (at - 1) v → u ≡ blank e → Halving s₀ e₀ t u lg v c (at - 1)
    halving_goes few t u is clean =
        let y = halves_yes c at few large in
        rw is (record {
          long = length_rebuilt s at (at - 1) v ∙ a.long;
          clean = clean ∙ ap (λ (k : ℕ). replicate k empty) (wiped e e₀ a.clean).1;
          lawful = half_lawful s at v c a.lawful y;
          least = omega arith;
          most = omega (arith, a.most);
          region = a.region ∙ halved_go at s at v c (omega arith) y;
          ends = a.ends ∙ halved_lg_go at at c (omega arith) y;
        })

-- ---- the whole delete

module _ (s e : List ℕ) (lg v c x at : ℕ) (l : Lawful s lg v c) (xe : x ≡ empty → ⊥) (is : at ≡ spot s lg v x) (within : at < 2 ^ lg) where
  module _ (found : get_or s at 0 ≡ x) where
    pub full_at : get_or s at 0 ≡ empty → ⊥
    full_at z = xe (sym found ∙ z)

    pub some_item : 1 ≤ c
    some_item = omega (arith, items_full s at full_at, total_mono held s (at + 1) (2 ^ lg) (omega arith), l.count)

    pub taken_out : (t : List ℕ) → t ≡ shifted (set s at empty) lg v (2 ^ lg) at (next (2 ^ lg) at) → t ≡ remove s lg v x
    taken_out t e = e ∙ ap (λ (p : ℕ). shifted (set s p empty) lg v (2 ^ lg) p (next (2 ^ lg) p)) is ∙ sym (remove_is s lg v c x l xe (rw is at within) (rw is at found))

    pub out_lawful : (t : List ℕ) → t ≡ remove s lg v x → Lawful t lg v (c - 1)
    out_lawful t e =
        let r = removed_some s lg v c x at l xe is within found in
        subst (λ (z : List ℕ). Lawful z lg v (c - 1)) (r.now_is refl ∙ sym e) (r.lawful refl)

    pub delete_done : (xs : x < 2 ^ v) (t u w r : List ℕ) (to : ℕ) (answer : Result (Option PairTable) Refusal) → told_change answer ≡ changed to v (c - 1) → w ≡ blank e → r ≡ remove s lg v x
        → (t ≡ halved lg r lg v (c - 1)) × (to ≡ halved_lg lg lg (c - 1)) × (u ≡ blank w) → DeletedBy s e lg v c x t u answer
    unfolding delete_on deleted
    delete_done xs t u w r to answer told clean out h =
        let there : holds s (2 ^ lg) x ≡ true = holds_spot s lg v c x l xs xe ∙ eq-eqb (get_or s (spot s lg v x) 0) x (rw is at found) in
        went (delete_on s lg v c x) (deleted s lg v c x) s e t u answer to v (c - 1) told (rw there (ap (λ (k : ℕ). changed k v (c - 1)) (sym h.1)))
        (h.0 ∙ ap (λ (z : List ℕ). halved lg z lg v (c - 1)) out) (h.2 ∙ ap (λ (k : ℕ). replicate k empty) (wiped w e clean).1)

  pub delete_missing : x < 2 ^ v → (get_or s at 0 ≡ x → ⊥) → DeletedBy s e lg v c x s e (Ok None)
  unfolding delete_on
  delete_missing xs d =
      let none : holds s (2 ^ lg) x ≡ false = holds_spot s lg v c x l xs xe ∙ ne_eqb (get_or s (spot s lg v x) 0) x (rw is at d) in
      stayed (delete_on s lg v c x) (deleted s lg v c x) s e (rw none refl)

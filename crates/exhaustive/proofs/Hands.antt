-- The plan in hand, and how the engine goes on from it: another number for one task, the plans that differ in task 1's
-- rate alone, and the carry from task to task.
-- Assumes nothing.
use Prim.Native.Nat.{ℕ, ◌+◌, ◌-◌, ◌*◌, ◌^◌, ◌≤◌, ◌<◌}
use mathlib.Core.Path.{◌≡◌, refl, sym, ap, ◌∙◌}
use mathlib.Core.List.{List}
use native.Mathlib.Decide.{ℕ_discrete}
use native.Mathlib.Nat.{pow-zero, pow-succ'}
use native.Mathlib.Numerals.{add-one}
use native.Mathlib.Omega.{arith}
use lib.ListN.{length, get_or, set, replicate, length-set, length-replicate, get_or-replicate}
use lib.Seq.{get_or-set_same, get_or-set_other}
use Rattle.std.specs.Prelude.{Option, None}
use Rattle.numbers.specs.Numbers.{total}
use Rattle.numbers.proofs.Sums.{total_at, total_bound, total-set}
use Rattle.engine.specs.declared.Request.{Request}
use Rattle.engine.specs.Arrays.{option_at, load_bound, energy_bound, Small, arrays}
use Rattle.engine.proofs.Adding.{sum_low, sum_turn}
use Rattle.exhaustive.specs.declared.Sums.{Sums}
use Rattle.exhaustive.specs.declared.Best.{Best}
use Rattle.exhaustive.specs.Order.{rank}
use Rattle.exhaustive.specs.Engine.{Numbered, Looked, Seen, ArraysReady, InHand, ChangeReady, Changed}
use Rattle.exhaustive.specs.Engine.{BlockReady, Advanced}
use Rattle.exhaustive.proofs.Order.{moves, adds}
use Rattle.exhaustive.proofs.Seeing.{seen_none, seen_more}

-- ---- another number for one task
module _ {q : Request} {loads cost P : List ℕ} {s : Sums} (g : ArraysReady q loads cost) (h : InHand q loads cost P s)
    (t r : ℕ) (task : t < q.tasks) (above : 1 ≤ r) (below : r ≤ q.rates) where
  number : (1 ≤ get_or P t 0) × (get_or P t 0 ≤ 8)
  number = omega (arith, h.numbered.above t task, h.numbered.below t task, g.rates.1)

  long : t < length P
  long = omega (arith, h.size, g.tasks.1)

  -- With number r at place t.
  pub set_long : q.tasks ≤ length (set P t r)
  set_long = omega (arith, length-set P t r, h.size, g.tasks.1)

  pub set-numbered : Numbered q.rates q.tasks (set P t r)
  set-numbered = record { above = λ u l. (at u l (ℕ_discrete u t)).0; below = λ u l. (at u l (ℕ_discrete u t)).1 }
    where
      at : (u : ℕ) → u < q.tasks → Dec (u ≡ t) → (1 ≤ get_or (set P t r) u 0) × (get_or (set P t r) u 0 ≤ q.rates)
      at u l (yes e) = rw (e, get_or-set_same P t r 0 long) (above, below)
      at u l (no e) = rw (get_or-set_other P t u r 0 e) (h.numbered.above u l, h.numbered.below u l)

  pub set-rank : rank q.rates q.tasks (set P t r) + (get_or P t 0 - 1) * q.rates ^ t
      ≡ rank q.rates q.tasks P + (r - 1) * q.rates ^ t
  set-rank = total-set (moves q.rates) q.tasks P t r task long

  -- The places of the two options.
  module _ {from to : ℕ} (from_is : from ≡ t * 16 + get_or P t 0) (to_is : to ≡ t * 16 + r) where
    pub change_ready : ChangeReady loads cost s from to
    change_ready = record {
      places = (omega (arith, number, g.tasks.1), omega (arith, g.rates.1, g.tasks.1));
      within =
          rw from_is (
            omega (arith, total_at (option_at loads) q.tasks P t task, h.load_is),
            omega (arith, total_at (option_at cost) q.tasks P t task, h.cost_is),
          );
      load_fits =
          rw (from_is, to_is)
          (omega (
            arith,
            h.load_is,
            total-set (option_at loads) q.tasks P t r task long,
            sum_low load_bound loads (set P t r) q.tasks g.loads_fit g.tasks.1,
          ));
      cost_fits =
          rw (from_is, to_is)
          (omega (
            arith,
            h.cost_is,
            total-set (option_at cost) q.tasks P t r task long,
            sum_low energy_bound cost (set P t r) q.tasks g.costs_fit g.tasks.1,
          ));
    }

    module _ {s' : Sums} (c : Changed loads cost s from to s') where
      pub set-load : s'.load ≡ total (option_at loads) q.tasks (set P t r)
      set-load =
          let e = rw (from_is, to_is) at c.loads_are in
          omega (arith, h.load_is, total-set (option_at loads) q.tasks P t r task long)

      pub set_cost : s'.cost ≡ total (option_at cost) q.tasks (set P t r)
      set_cost =
          let e = rw (from_is, to_is) at c.costs_are in
          omega (arith, h.cost_is, total-set (option_at cost) q.tasks P t r task long)

      -- After task 1 the plan in hand is one again.
      pub set_hand : 1 ≤ t → InHand q loads cost (set P t r) s'
      set_hand l = record {
        size = length-set P t r ∙ h.size;
        first = get_or-set_other P t 0 r 0 (omega arith) ∙ h.first;
        numbered = set-numbered;
        load_is = set-load;
        cost_is = set_cost;
      }

-- ---- the plans that differ in task 1's rate alone
module _ {q : Request} {loads cost : List ℕ} {s : Sums} {i : ℕ} {kept : Option Best} (posed : ArraysReady q loads cost) (g : BlockReady q loads cost s i kept)
    (r : ℕ) (above : 1 ≤ r) (below : r ≤ q.rates) where
  one : 1 ≡ 0 * 16 + get_or g.plan 0 0
  one = omega (arith, g.hand.first)

  that : r ≡ 0 * 16 + r
  that = omega arith

  pub block_change : ChangeReady loads cost s 1 r
  block_change = change_ready posed g.hand 0 r posed.tasks.0 above below one that

  pub block_turn : {best best' : Option Best} {s' : Sums} → Changed loads cost s 1 r s'
      → Seen (arrays q loads cost) (i + (r - 1)) best
      → Looked q.limit s' (i + (r - 1)) best best'
      → Seen (arrays q loads cost) (i + (r - 1) + 1) best'
  block_turn {best} {best'} {s'} c seen looked =
      seen_more (arrays q loads cost) (i + (r - 1)) (set g.plan 0 r)
      (set_long posed g.hand 0 r posed.tasks.0 above below)
      (set-numbered posed g.hand 0 r posed.tasks.0 above below)
      (omega (
        arith,
        set-rank posed g.hand 0 r posed.tasks.0 above below,
        g.rank_is,
        ap (λ (x : ℕ). (x - 1) * q.rates ^ 0) g.hand.first,
        ap (λ (x : ℕ). (r - 1) * x) (pow-zero q.rates),
      ))
      (set-load posed g.hand 0 r posed.tasks.0 above below one that c)
      (set_cost posed g.hand 0 r posed.tasks.0 above below one that c)
      seen looked

-- ---- the carry
-- Places 1 to t - 1 have gone back to 1, and one more at place t would make the next plan.
pub record Carried (q : Request) (loads cost P₀ P : List ℕ) (s : Sums) (t : ℕ) : Type 0 where
  pub hand : InHand q loads cost P s
  pub from : 1 ≤ t
  pub to : t ≤ q.tasks
  pub carry : rank q.rates q.tasks P + q.rates ^ t ≡ rank q.rates q.tasks P₀ + q.rates

pub carry_start : {q : Request} {loads cost P : List ℕ} {s : Sums} → ArraysReady q loads cost → InHand q loads cost P s
    → Carried q loads cost P P s 1
carry_start {q} g h = record {
  hand = h;
  from = omega arith;
  to = g.tasks.0;
  carry = omega (arith, pow-succ' q.rates 0, ap (λ (x : ℕ). q.rates * x) (pow-zero q.rates));
}

module _ {q : Request} {loads cost P₀ P : List ℕ} {s : Sums} {t : ℕ} (g : ArraysReady q loads cost)
    (w : Carried q loads cost P₀ P s t) where
  -- No task is left: there was no next plan.
  pub carry_end : q.tasks ≤ t → Advanced q loads cost P₀ P s
  carry_end l = record {
    hand = w.hand;
    next = λ x. let e : t ≡ q.tasks = omega (arith, w.to) in
        absurd (omega (arith, w.carry, ap (λ (u : ℕ). q.rates ^ u) e));
  }

  before : t < q.tasks → 1 ≤ get_or P t 0
  before task = w.hand.numbered.above t task

  module _ (task : t < q.tasks) {from to : ℕ} {s' : Sums} (from_is : from ≡ t * 16 + get_or P t 0)
      (c : Changed loads cost s from to s') where
    -- A number below M is raised by one.
    pub carry_raise : (r : ℕ) → r ≡ get_or P t 0 + 1 → r ≤ q.rates → to ≡ t * 16 + r
        → Advanced q loads cost P₀ (set P t r) s'
    carry_raise r e l to_is = record {
      hand = set_hand g w.hand t r task (omega arith) l from_is to_is c w.from;
      next = λ x.
          let less : r - 1 ≡ get_or P t 0 = omega arith in
          omega (
            arith,
            w.carry,
            set-rank g w.hand t r task (omega arith) l,
            adds (q.rates ^ t) (get_or P t 0) (before task),
            ap (λ (y : ℕ). y * q.rates ^ t) less,
          );
    }

    -- One at M goes back to 1.
    pub carry_turn : q.rates ≤ get_or P t 0 → to ≡ t * 16 + 1 → Carried q loads cost P₀ (set P t 1) s' (t + 1)
    carry_turn l to_is =
        let top : get_or P t 0 ≡ q.rates = omega (arith, w.hand.numbered.below t task) in
        record {
          hand = set_hand g w.hand t 1 task (omega arith) g.rates.0 from_is to_is c w.from;
          from = omega arith;
          to = omega arith;
          carry =
              rw (add-one t)
              (omega (
                arith,
                w.carry,
                set-rank g w.hand t 1 task (omega arith) g.rates.0,
                adds (q.rates ^ t) (get_or P t 0) (before task),
                ap (λ (y : ℕ). y * q.rates ^ t) top,
                pow-succ' q.rates t,
              ));
        }

-- ---- all plans
-- What holds before the plans from rank i on are looked at.
pub record Going (q : Request) (loads cost P : List ℕ) (s : Sums) (i : ℕ) (kept : Option Best) : Type 0 where
  pub hand : InHand q loads cost P s
  pub place : i < q.rates ^ q.tasks → rank q.rates q.tasks P ≡ i
  pub seen : Seen (arrays q loads cost) i kept

-- Every task at rate 1.
ones_at : (t : ℕ) → t < 32 → get_or (replicate {A = ℕ} 32 1) t 0 ≡ 1
ones_at t l = get_or-replicate 32 t 1 0 l

module _ (options : List ℕ) (t : ℕ) where
  pub ones_turn : {s : ℕ} → t < 32 → s ≡ total (option_at options) t (replicate 32 1)
      → s + get_or options (t * 16 + 1) 0 ≡ total (option_at options) (t + 1) (replicate 32 1)
  ones_turn {s} few e =
      ap (λ (r : ℕ). s + option_at options t r) (sym (ones_at t few)) ∙ sum_turn (option_at options) t (replicate 32 1) e

  pub ones_low : (bound : ℕ) → Small bound options → t < 32 → {s : ℕ} → s ≡ total (option_at options) t (replicate 32 1)
      → s + get_or options (t * 16 + 1) 0 < 32 * bound
  ones_low bound small few e =
      omega (arith, ones_turn few e, sum_low bound options (replicate 32 1) (t + 1) small (omega arith))

module _ (q : Request) where
  ones_rank : q.tasks ≤ 32 → rank q.rates q.tasks (replicate 32 1) ≡ 0
  ones_rank few =
      omega (
        arith,
        total_bound (moves q.rates) 0 q.tasks (replicate 32 1)
            (λ t l. rw (ones_at t (omega arith)) (omega arith)),
      )

  pub ones_hand : {loads cost : List ℕ} {s : Sums} → ArraysReady q loads cost
      → s.load ≡ total (option_at loads) q.tasks (replicate 32 1)
      → s.cost ≡ total (option_at cost) q.tasks (replicate 32 1) → InHand q loads cost (replicate 32 1) s
  ones_hand g l c = record {
    size = length-replicate {A = ℕ} 32 1;
    first = refl;
    numbered = record {
      above = λ t h. omega (arith, ones_at t (omega (arith, g.tasks.1)));
      below = λ t h. omega (arith, ones_at t (omega (arith, g.tasks.1)), g.rates.0);
    };
    load_is = l;
    cost_is = c;
  }

  pub going_start : {loads cost : List ℕ} {s : Sums} → ArraysReady q loads cost
      → InHand q loads cost (replicate 32 1) s → Going q loads cost (replicate 32 1) s 0 None
  going_start {loads} {cost} g h = record {
    hand = h;
    place = λ l. ones_rank g.tasks.1;
    seen = seen_none (arrays q loads cost);
  }

module _ {q : Request} {loads cost P : List ℕ} {s : Sums} {i : ℕ} {kept : Option Best} (g : ArraysReady q loads cost)
    (w : Going q loads cost P s i kept) (more : i < q.rates ^ q.tasks) where
  pub going_block : BlockReady q loads cost s i kept
  going_block = record { plan = P; hand = w.hand; rank_is = w.place more; seen = w.seen }

  pub going_turn : {P' : List ℕ} {s' : Sums} {b' : Option Best} → Seen (arrays q loads cost) (i + q.rates) b'
      → Advanced q loads cost P P' s' → Going q loads cost P' s' (i + q.rates) b'
  going_turn seen a = record {
    hand = a.hand;
    place = λ l. omega (arith, a.next (omega (arith, w.place more)), w.place more);
    seen = seen;
  }

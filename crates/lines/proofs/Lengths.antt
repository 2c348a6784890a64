-- How long the lines are at most, and the rate lines grown by one.
-- Assumes nothing.
use Prim.Native.Nat.{ℕ, suc, ◌+◌, ◌*◌, ◌≤◌, ◌<◌}
use mathlib.Core.Path.{◌≡◌, sym, ap, ◌∙◌}
use mathlib.Core.List.{List, [], ◌∷◌, ◌++◌, append_assoc, append-nil}
use native.Mathlib.Bridge.{le_by_compare, IsLe}
use native.Mathlib.Nat.{add-zero, mul-le-mul_right, suc-mul}
use native.Mathlib.Numerals.{add-one}
use native.Mathlib.Omega.{arith}
use lib.ListN.{length, get_or, take, drop, length-append}
use lib.Seq.{take-suc, take_all, drop-cons, length-take-le}
use Rattle.layout.specs.Words.{most_tasks}
use Rattle.text.specs.Text.{digits, decimal}
use Rattle.text.proofs.Sizes.{widest_number, decimal_widest}
use Rattle.printer.specs.Sinks.{SinkLaws}
use Rattle.lines.specs.Lines.{plan_line, rate_line, rate_lines, walk_line, refused_line}

-- No line is longer than that of the widest numbers.
plan_widest : (u l h e : ℕ) → length (plan_line u l h e) ≤ length (plan_line widest_number widest_number widest_number widest_number)
unfolding plan_line
plan_widest u l h e = simp length-append (omega (arith, decimal_widest u, decimal_widest l, decimal_widest h, decimal_widest e))

rate_widest : (t r : ℕ) → length (rate_line t r) ≤ length (rate_line widest_number widest_number)
unfolding rate_line
rate_widest t r = simp length-append (omega (arith, decimal_widest t, decimal_widest r))

rates_widest : (t : ℕ) (P : List ℕ) → length (rate_lines t P) ≤ length P * length (rate_line widest_number widest_number)
rates_widest t [] = omega arith
rates_widest t (r ∷ P) =
    rw length-append (omega (arith, rate_widest t r, rates_widest (suc t) P, suc-mul (length P) (length (rate_line widest_number widest_number))))

walk_widest : (b i p : ℕ) → length (walk_line b i p) ≤ length (walk_line widest_number widest_number widest_number)
unfolding walk_line
walk_widest b i p = simp length-append (omega (arith, decimal_widest b, decimal_widest i, decimal_widest p))

refused_widest : (n k : ℕ) → length (refused_line n k) ≤ length (refused_line widest_number widest_number)
unfolding refused_line
refused_widest n k = simp length-append (omega (arith, decimal_widest n, decimal_widest k))

-- What is printed has at most 2,048 bytes: these lines of a plan of the most tasks, and this line of a refusal.
plan_room :
    length (plan_line widest_number widest_number widest_number widest_number) +
    (most_tasks * length (rate_line widest_number widest_number) + length (walk_line widest_number widest_number widest_number)) ≤ 2048
unfolding plan_line rate_line walk_line decimal digits IsLe
plan_room = le_by_compare _ _ tt

pub plan_short : (u l h e : ℕ) (P : List ℕ) (b i p : ℕ) → length P ≤ most_tasks
    → length (plan_line u l h e ++ (rate_lines 1 P ++ walk_line b i p)) ≤ 2048
plan_short u l h e P b i p few =
    simp length-append
    (omega (
      arith,
      plan_room,
      plan_widest u l h e,
      rates_widest 1 P,
      mul-le-mul_right (length (rate_line widest_number widest_number)) few,
      walk_widest b i p,
    ))

refused_room : length (refused_line widest_number widest_number) ≤ 2048
unfolding refused_line decimal digits IsLe
refused_room = le_by_compare _ _ tt

pub refused_short : (n k : ℕ) → length (refused_line n k) ≤ 2048
refused_short n k = omega (arith, refused_widest n k, refused_room)

-- ---- the rate lines, one by one
rates-append : (t : ℕ) (P Q : List ℕ) → rate_lines t (P ++ Q) ≡ rate_lines t P ++ rate_lines (t + length P) Q
rates-append t [] Q = ap (λ (k : ℕ). rate_lines k Q) (sym (add-zero t))
rates-append t (r ∷ P) Q =
    let there : suc t + length P ≡ t + suc (length P) = omega arith in
    ap (λ (l : List ℕ). rate_line t r ++ l) (rates-append (suc t) P Q ∙ ap (λ (k : ℕ). rate_lines (suc t) P ++ rate_lines k Q) there)
    ∙ sym (append_assoc (rate_line t r) (rate_lines (suc t) P) (rate_lines (t + suc (length P)) Q))

-- Of a plan's rate lines a sink has taken those of the first i tasks, and the others have room.
pub record RatesIn {S : Type 0} (fits : S → List ℕ → Type 0) (takes : S → List ℕ → S → Type 0) (s : S) (P : List ℕ) (i : ℕ) (t : S) : Type 0 where
  pub taken : takes s (rate_lines 1 (take i P)) t
  pub left : fits t (rate_lines (i + 1) (drop i P))

module _ {S : Type 0} {fits : S → List ℕ → Type 0} {takes : S → List ℕ → S → Type 0} (laws : SinkLaws fits takes) where
  pub rates_none : (s : S) (P : List ℕ) → fits s (rate_lines 1 P) → RatesIn fits takes s P 0 s
  rates_none s P h = record { taken = laws.none (laws.front [] (rate_lines 1 P) h); left = h }

  module _ {s t : S} {P : List ℕ} {i : ℕ} (has : RatesIn fits takes s P i t) (h : i < length P) where
    next : fits t (rate_line (i + 1) (get_or P i 0) ++ rate_lines (i + 1 + 1) (drop (i + 1) P))
    next = rw (add-one (i + 1), add-one i) (rw (drop-cons P i 0 h, add-one i) at has.left)

    pub rates_room : {r : ℕ} → r ≡ get_or P i 0 → fits t (rate_line (i + 1) r)
    rates_room e = rw e (laws.front (rate_line (i + 1) (get_or P i 0)) (rate_lines (i + 1 + 1) (drop (i + 1) P)) next)

    pub rates_more : {r : ℕ} {u : S} → r ≡ get_or P i 0 → takes t (rate_line (i + 1) r) u → RatesIn fits takes s P (i + 1) u
    rates_more e a =
        let one = rw e at a in
        let there : 1 + length (take i P) ≡ i + 1 = omega (arith, length-take-le i P (omega arith)) in
        record {
          taken = rw (add-one i, take-suc P i 0 h, rates-append, there, append-nil) (laws.then has.taken one);
          left = laws.behind next one;
        }

  pub rates_all : {s t : S} {P : List ℕ} {i : ℕ} → RatesIn fits takes s P i t → length P ≤ i → takes s (rate_lines 1 P) t
  rates_all {s} {t} {P} {i} has h = rw (take_all i P h) at has.taken

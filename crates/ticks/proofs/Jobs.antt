-- The jobs that the arrays hold.
-- Assumes nothing.
use Prim.Native.Nat.{ℕ, zero, suc, ◌+◌, ◌-◌, ◌≤◌, ◌<◌}
use mathlib.Core.Path.{◌≡◌, refl, sym, ap, ◌∙◌, subst}
use mathlib.Core.List.{List}
use mathlib.Core.Logic.{⊎_elim}
use native.Mathlib.Omega.{arith}
use native.Mathlib.Nat.{add-zero, zero-add}
use lib.Dec.{eqb}
use lib.ListN.{length, get_or, set, length-set}
use lib.Seq.{get_or-set_same, get_or-set_other}
use borrow.Author.Tests.{eqb-true, eqb-false}
use Rattle.numbers.proofs.Tests.{bool_cases, lt_or_le}
use Rattle.schedule.specs.Walk.{Task, sooner, pick}
use Rattle.schedule.specs.Counted.{left_at}
use Rattle.schedule.proofs.Stretch.{work_for, left_past, pick-left, in_list}
use Rattle.ticks.specs.Arrays.{jobs_from, blank, picked, IsJob, Early}
use Rattle.ticks.specs.declared.Picked.{Picked}

-- ---- the pick does not look at tasks
sooner_same : (k k' : ℕ → Task) (l d : List ℕ) (e i n : ℕ) → sooner e (jobs_from k l d i n) ≡ sooner e (jobs_from k' l d i n)
sooner_same k k' l d e i zero = refl
sooner_same k k' l d e i (suc n) = rw (sooner_same k k' l d e (suc i) n) refl

pick_same : (k k' : ℕ → Task) (l d : List ℕ) (i n : ℕ) → pick (jobs_from k l d i n) ≡ pick (jobs_from k' l d i n)
pick_same k k' l d i zero = refl
pick_same k k' l d i (suc n) = rw (sooner_same k k' l d (get_or d i 0) (suc i) n, pick_same k k' l d (suc i) n) refl

pub picked_is : (k : ℕ → Task) (l d : List ℕ) (n : ℕ) → pick (jobs_from k l d 0 n) ≡ picked l d n
unfolding picked
picked_is k l d n = pick_same k blank l d 0 n

-- ---- as many jobs as tasks
pub length_jobs : (k : ℕ → Task) (l d : List ℕ) (i n : ℕ) → length (jobs_from k l d i n) ≡ n
length_jobs k l d i zero = refl
length_jobs k l d i (suc n) = ap suc (length_jobs k l d (suc i) n)

-- ---- arrays that agree on a stretch of places hold the same jobs there
pub jobs_same : (k : ℕ → Task) (l d l' d' : List ℕ) (i n : ℕ) →
    ((j : ℕ) → i ≤ j → j < i + n → (get_or l j 0 ≡ get_or l' j 0) × (get_or d j 0 ≡ get_or d' j 0))
    → jobs_from k l d i n ≡ jobs_from k l' d' i n
jobs_same k l d l' d' i zero h = refl
jobs_same k l d l' d' i (suc n) h =
    let q = h i (omega arith) (omega arith) in
    let r = jobs_same k l d l' d' (suc i) n (λ j a b. h j (omega arith) (omega arith)) in
    rw (q.0, q.1, r) refl

-- ---- the job at a place: its ticks left, and how it runs
left_from : (k : ℕ → Task) (l d : List ℕ) (i n b : ℕ) → b < n → left_at (jobs_from k l d i n) b ≡ get_or l (i + b) 0
left_from k l d i zero b h = absurd (omega arith)
left_from k l d i (suc n) zero h = ap (λ (x : ℕ). get_or l x 0) (sym (add-zero i))
left_from k l d i (suc n) (suc b) h = left_from k l d (suc i) n b (omega arith) ∙ ap (λ (x : ℕ). get_or l x 0) (omega arith)

pub left_jobs : (k : ℕ → Task) (l d : List ℕ) (n b : ℕ) → b < n → left_at (jobs_from k l d 0 n) b ≡ get_or l b 0
left_jobs k l d n b h = left_from k l d 0 n b h ∙ ap (λ (x : ℕ). get_or l x 0) (zero-add b)

work_from : (k : ℕ → Task) (l d : List ℕ) (v b i n : ℕ) → b < n → i + b < length l →
    jobs_from k (set l (i + b) (get_or l (i + b) 0 - v)) d i n ≡ work_for v (jobs_from k l d i n) b
work_from k l d v b i zero h q = absurd (omega arith)
work_from k l d v zero i (suc n) h q =
    subst (λ (p : ℕ). jobs_from k (set l p (get_or l p 0 - v)) d i (suc n) ≡ work_for v (jobs_from k l d i (suc n)) zero) (sym (add-zero i))
    (let e = get_or-set_same l i (get_or l i 0 - v) 0 (omega arith) in
    rw (
      e,
      jobs_same k (set l i (get_or l i 0 - v)) d l d (suc i) n
          (λ j a c. (get_or-set_other l i j (get_or l i 0 - v) 0 (λ z. absurd (omega arith)), refl)),
    ) refl)
work_from k l d v (suc b) i (suc n) h q =
    let e : suc i + b ≡ i + suc b = omega arith in
    subst (λ (p : ℕ). jobs_from k (set l p (get_or l p 0 - v)) d i (suc n) ≡ work_for v (jobs_from k l d i (suc n)) (suc b)) e
    (let w = get_or l (suc i + b) 0 - v in
    rw (get_or-set_other l (suc i + b) i w 0 (λ z. absurd (omega arith)), work_from k l d v b (suc i) n (omega arith) (omega arith)) refl)

pub jobs_work : (k : ℕ → Task) (l d : List ℕ) (v b n : ℕ) → b < n → b < length l →
    jobs_from k (set l b (get_or l b 0 - v)) d 0 n ≡ work_for v (jobs_from k l d 0 n) b
jobs_work k l d v b n h q = rw (zero-add b) at (work_from k l d v b 0 n h (omega arith))

-- ---- the picked place, with the ticks left there: its job, or none
module _ (l d : List ℕ) (n : ℕ) (r : Picked) (place : r.place ≡ picked l d n) (left : r.left ≡ left_at (jobs_from blank l d 0 n) r.place) where
  pub pick_some : 0 < r.left → IsJob l d n r
  pick_some h =
      let here : r.place < n = omega (arith, in_list (jobs_from blank l d 0 n) r.place (omega (arith, left)), length_jobs blank l d 0 n) in
      record { place = place; inside = here; left = left ∙ left_jobs blank l d n r.place here; some = h }

  pub pick-none : r.left ≡ 0 → n ≤ picked l d n
  unfolding picked
  pick-none e =
      let js = jobs_from blank l d 0 n in
      let size = length_jobs blank l d 0 n in
      ⊎_elim
      (λ (h : pick js < n). absurd (omega (arith, pick-left js (omega arith), left, ap (left_at js) place)))
      (λ (h : n ≤ pick js). h)
      (lt_or_le (pick js) n)

-- the place n has none
pub none_left : (l d : List ℕ) (n : ℕ) → left_at (jobs_from blank l d 0 n) n ≡ 0
none_left l d n = left_past (jobs_from blank l d 0 n) n (omega (arith, length_jobs blank l d 0 n))

-- ---- the arrays stay early
pub early_set : (n : ℕ) (l d : List ℕ) (i v w : ℕ) → i < 32 → w < 4294967295 → Early n l d
    → Early n (set l i v) (set d i w)
early_set n l d i v w h q s = record {
  few = s.few;
  lefts = length-set l i v ∙ s.lefts;
  dues = length-set d i w ∙ s.dues;
  low = λ j x. ⊎_elim
      (λ e. rw (eqb-true j i e, get_or-set_same d i w 0 (omega (arith, s.dues))) q)
      (λ e. rw (get_or-set_other d i j w 0 (eqb-false j i e)) (s.low j x))
      (bool_cases (eqb j i));
}

-- The pick as a loop makes it: from the first place to the last, with the best so far.
-- Assumes nothing.
use Prim.Native.Nat.{ℕ, zero, suc, ◌+◌, ◌-◌, ◌≤◌, ◌<◌}
use mathlib.Core.Path.{◌≡◌, refl, sym, ap, ◌∙◌}
use mathlib.Core.Bool.{Bool, true, false, cond, ◌&&◌, ◌||◌, true≢false, and-false as off}
use mathlib.Core.List.{List, [], ◌∷◌}
use mathlib.Core.Logic.{◌⊎◌, inl, inr, ⊎_elim}
use native.Mathlib.Omega.{arith}
use native.Mathlib.Nat.{sub-zero, sub_self, zero-add}
use native.Mathlib.Numerals.{add-one}
use lib.Dec.{ltb}
use lib.ListN.{get_or}
use borrow.Author.Tests.{ltb-true, ltb-false, lt-ltb, le-ltb}
use Rattle.numbers.proofs.Tests.{bool_cases, or_true, or_false, and-true, and-false}
use Rattle.schedule.specs.Walk.{Job, sooner, pick}
use Rattle.ticks.specs.Arrays.{jobs_from, blank, picked}

-- b is the place of the best so far, and d its deadline; i is the place of the list's first job.
abbrev scan : ℕ → ℕ → ℕ → List Job → ℕ
scan b d i [] = b
scan b d i (j ∷ js) = cond (ltb 0 j.left && ltb j.due d) (scan i j.due (suc i) js) (scan b d (suc i) js)

-- a later deadline has at least as many before it
sooner_mono : (d d' : ℕ) (js : List Job) → d ≤ d' → sooner d js ≡ true → sooner d' js ≡ true
sooner_mono d d' [] l h = h
sooner_mono d d' (j ∷ js) l h =
    ⊎_elim
    (λ a. let o = and-true (ltb 0 j.left) (ltb j.due d) a in
    let x = ltb-true j.due d o.1 in
    rw (o.0, lt-ltb j.due d' (omega arith)) refl)
    (λ a. go (ltb 0 j.left && ltb j.due d') (sooner_mono d d' js l a))
    (or_true (ltb 0 j.left && ltb j.due d) (sooner d js) h)
  where
    go : (b : Bool) → sooner d' js ≡ true → (b || sooner d' js) ≡ true
    go true e = refl
    go false e = e

-- what the scan ends with
abbrev from_best : ℕ → ℕ → ℕ → List Job → ℕ
from_best b d i js = cond (sooner d js) (i + pick js) b

-- the four tests of a step, as they turn out
step-best : (b d i : ℕ) (j : Job) (js : List Job) (x y s s' : Bool) →
    ltb 0 j.left ≡ x → ltb j.due d ≡ y → sooner d js ≡ s → sooner j.due js ≡ s' →
    cond (ltb 0 j.left && ltb j.due d) (from_best i j.due (suc i) js) (from_best b d (suc i) js) ≡ from_best b d i (j ∷ js)
step-best b d i j js true true s true p q r u = rw (p, q, u) (omega arith)
step-best b d i j js true true s false p q r u = rw (p, q, u) (omega arith)
step-best b d i j js true false true true p q r u = rw (p, q, r, u) (omega arith)
step-best b d i j js true false true false p q r u =
    absurd (true≢false (sym (sooner_mono d j.due js (ltb-false j.due d q) r) ∙ u))
step-best b d i j js true false false s' p q r u = rw (p, q, r) refl
step-best b d i j js false y true s' p q r u = rw (p, r) (omega arith)
step-best b d i j js false y false s' p q r u = rw (p, r) refl

scan-best : (b d i : ℕ) (js : List Job) → scan b d i js ≡ from_best b d i js
scan-best b d i [] = refl
scan-best b d i (j ∷ js) =
    rw (scan-best i j.due (suc i) js, scan-best b d (suc i) js)
    (step-best b d i j js (ltb 0 j.left) (ltb j.due d) (sooner d js) (sooner j.due js) refl refl refl refl)

-- ---- over the arrays, from place i on
unfoldable pub scanned : List ℕ → List ℕ → ℕ → ℕ → ℕ → ℕ → ℕ
scanned left due n b d i = scan b d i (jobs_from blank left due i (n - i))

-- where all deadlines are before M and none is sooner, all jobs are finished
idle-pick : (l d : List ℕ) (M i n : ℕ) → ((j : ℕ) → i ≤ j → j < i + n → get_or d j 0 < M)
    → sooner M (jobs_from blank l d i n) ≡ false → pick (jobs_from blank l d i n) ≡ n
idle-pick l d M i zero h e = refl
idle-pick l d M i (suc n) h e =
    let o = or_false (ltb 0 (get_or l i 0) && ltb (get_or d i 0) M) (sooner M (jobs_from blank l d (suc i) n)) e in
    let r = idle-pick l d M (suc i) n (λ j a b. h j (omega arith) (omega arith)) o.1 in
    ⊎_elim
    (λ x. rw x (ap suc r))
    (λ x. absurd (true≢false (sym (lt-ltb (get_or d i 0) M (h i (omega arith) (omega arith))) ∙ x)))
    (and-false (ltb 0 (get_or l i 0)) (ltb (get_or d i 0) M) o.0)

-- begun with M and the place n, the scan ends with the pick
pub scanned-first : (l d : List ℕ) (M n : ℕ) → ((j : ℕ) → j < n → get_or d j 0 < M) → scanned l d n n M 0 ≡ picked l d n
unfolding scanned picked
scanned-first l d M n h =
    let js = jobs_from blank l d 0 n in
    rw sub-zero (scan-best n M 0 js ∙ ⊎_elim
    (λ e. ap (λ (b : Bool). cond b (0 + pick js) n) e ∙ zero-add (pick js))
    (λ e. ap (λ (b : Bool). cond b (0 + pick js) n) e ∙ sym (idle-pick l d M 0 n (λ j a b. h j (omega arith)) e))
    (bool_cases (sooner M js)))

pub scanned-end : (l d : List ℕ) (n b when i : ℕ) → i ≡ n → scanned l d n b when i ≡ picked l d n → picked l d n ≡ b
unfolding scanned
scanned-end l d n b when i e h = sym h ∙ rw (e, sub_self n) refl

-- a step that takes the job at i, and one that passes it
module _ (l d : List ℕ) (n b when i : ℕ) (h : i < n) where
  step : scanned l d n b when i ≡ cond (ltb 0 (get_or l i 0) && ltb (get_or d i 0) when) (scanned l d n i (get_or d i 0) (i + 1)) (scanned l d n b when (i + 1))
  unfolding scanned
  step = let e : n - i ≡ suc (n - suc i) = omega arith in rw (add-one i, e) refl

  pub scanned-take : 0 < get_or l i 0 → get_or d i 0 < when → scanned l d n b when i ≡ scanned l d n i (get_or d i 0) (i + 1)
  scanned-take p q = step ∙ rw (lt-ltb 0 (get_or l i 0) p, lt-ltb (get_or d i 0) when q) refl

  pub scanned_pass : (get_or l i 0 ≤ 0) ⊎ (when ≤ get_or d i 0) → scanned l d n b when i ≡ scanned l d n b when (i + 1)
  scanned_pass (inl p) = step ∙ rw (le-ltb 0 (get_or l i 0) p) refl
  scanned_pass (inr q) = step ∙ rw (le-ltb (get_or d i 0) when q, off (ltb 0 (get_or l i 0))) refl

-- Sums over the tasks of a plan, over a stretch of ticks, and over a list.
-- Assumes nothing.
use Prim.Native.Nat.{ℕ, zero, suc, ◌+◌, ◌*◌, ◌≤◌, ◌<◌}
use mathlib.Core.Path.{◌≡◌, refl, sym, ap, ap₂, ◌∙◌}
use mathlib.Core.List.{List, [], ◌∷◌, map}
use mathlib.Core.Logic.{⊎_elim}
use native.Mathlib.Nat.{add-zero, zero-add, add-suc, suc-add, mul-add, eq-or-lt_of_le, le_of_suc-le-suc}
use native.Mathlib.Omega.{arith}
use lib.ListN.{length, get_or, set}
use lib.Seq.{get_or-set_same, get_or-set_other}
use Rattle.numbers.specs.Numbers.{All, total, over}
use Rattle.numbers.proofs.Tests.{below_more}

-- ---- over the tasks of a plan
pub total-none : (f : ℕ → ℕ → ℕ) (P : List ℕ) → total f 0 P ≡ 0
unfolding total
total-none f P = refl

pub total-more : (f : ℕ → ℕ → ℕ) (n : ℕ) (P : List ℕ) → total f (suc n) P ≡ total f n P + f n (get_or P n 0)
unfolding total
total-more f n P = refl

pub total_mono : (f g : ℕ → ℕ → ℕ) (n : ℕ) (P Q : List ℕ) → ((t : ℕ) → t < n → f t (get_or P t 0) ≤ g t (get_or Q t 0)) → total f n P ≤ total g n Q
unfolding total
total_mono f g zero P Q h = omega arith
total_mono f g (suc n) P Q h = omega (arith, total_mono f g n P Q (λ t l. h t (omega arith)), h n (omega arith))

pub total_same : (f g : ℕ → ℕ → ℕ) (n : ℕ) (P Q : List ℕ) → ((t : ℕ) → t < n → f t (get_or P t 0) ≡ g t (get_or Q t 0)) → total f n P ≡ total g n Q
unfolding total
total_same f g zero P Q h = refl
total_same f g (suc n) P Q h = ap₂ ◌+◌ (total_same f g n P Q (λ t l. h t (omega arith))) (h n (omega arith))

pub total_scale : (f : ℕ → ℕ → ℕ) (d n : ℕ) (P : List ℕ) → total (λ t r. d * f t r) n P ≡ d * total f n P
unfolding total
total_scale f d zero P = omega arith
total_scale f d (suc n) P = omega (arith, total_scale f d n P)

pub total_plus : (f : ℕ → ℕ → ℕ) (c n : ℕ) (P : List ℕ) → total (λ t r. f t r + c) n P ≡ total f n P + n * c
unfolding total
total_plus f c zero P = omega arith
total_plus f c (suc n) P = omega (arith, total_plus f c n P)

-- Of two parts, the second c times another sum.
pub total_shared : (f g h : ℕ → ℕ → ℕ) (c n : ℕ) (P : List ℕ) → ((t : ℕ) → t < n → f t (get_or P t 0) ≡ g t (get_or P t 0) + c * h t (get_or P t 0))
    → total f n P ≡ total g n P + c * total h n P
unfolding total
total_shared f g h c zero P e = omega arith
total_shared f g h c (suc n) P e =
    omega (arith, total_shared f g h c n P (λ t l. e t (omega arith)), e n (omega arith), mul-add c (total h n P) (h n (get_or P n 0)))

pub total_at : (f : ℕ → ℕ → ℕ) (n : ℕ) (P : List ℕ) (t : ℕ) → t < n → f t (get_or P t 0) ≤ total f n P
unfolding total
total_at f zero P t l = omega arith
total_at f (suc n) P t l = below_more {P = λ t. f t (get_or P t 0) ≤ total f (suc n) P} (λ t m. omega (arith, total_at f n P t m)) (omega arith) t l

pub total_bound : (f : ℕ → ℕ → ℕ) (c n : ℕ) (P : List ℕ) → ((t : ℕ) → t < n → f t (get_or P t 0) ≤ c) → total f n P ≤ n * c
unfolding total
total_bound f c zero P h = omega arith
total_bound f c (suc n) P h = omega (arith, total_bound f c n P (λ t l. h t (omega arith)), h n (omega arith))

-- Where the number of one task is changed.
pub total-set : (f : ℕ → ℕ → ℕ) (n : ℕ) (P : List ℕ) (t r : ℕ) → t < n → t < length P
    → total f n (set P t r) + f t (get_or P t 0) ≡ total f n P + f t r
unfolding total
total-set f zero P t r l h = absurd (omega arith)
total-set f (suc n) P t r l h =
    ⊎_elim
    (λ (e : t ≡ n).
    rw (← e)
    (omega (
      arith,
      total_same f f t (set P t r) P (λ k m. ap (f k) (get_or-set_other P t k r 0 (omega arith))),
      ap (f t) (get_or-set_same P t r 0 h),
    )))
    (λ (m : t < n). omega (arith, total-set f n P t r m h, ap (f n) (get_or-set_other P t n r 0 (omega arith))))
    (eq-or-lt_of_le (le_of_suc-le-suc l))

-- ---- over a stretch of ticks
pub over_join : (f : ℕ → ℕ) (t m n : ℕ) → over f t (m + n) ≡ over f t m + over f (t + m) n
over_join f t zero n = rw (zero-add n, add-zero t) (omega arith)
over_join f t (suc m) n = rw (suc-add m n, add-suc t m) (omega (arith, over_join f (suc t) m n, ap (λ (x : ℕ). over f x n) (suc-add t m)))

-- One tick more at the end.
pub over-end : (f : ℕ → ℕ) (t n : ℕ) → over f t (suc n) ≡ over f t n + f (t + n)
over-end f t zero = omega (arith, ap f (add-zero t))
over-end f t (suc n) = omega (arith, over-end f (suc t) n, ap f (add-suc t n ∙ sym (suc-add t n)))

pub over_none : (f : ℕ → ℕ) (t n : ℕ) → ((u : ℕ) → t ≤ u → u < t + n → f u ≡ 0) → over f t n ≡ 0
over_none f t zero h = refl
over_none f t (suc n) h = omega (arith, h t (omega arith) (omega arith), over_none f (suc t) n (λ u a b. h u (omega arith) (omega arith)))

-- The sum over a plan's tasks, by place.
pub total-over : (f : ℕ → ℕ → ℕ) (n : ℕ) (P : List ℕ) → total f n P ≡ over (λ t. f t (get_or P t 0)) 0 n
unfolding total
total-over f zero P = refl
total-over f (suc n) P =
    let g : ℕ → ℕ = λ t. f t (get_or P t 0) in
    omega (arith, total-over f n P, over-end g 0 n, ap g (zero-add n))

-- ---- over a list
-- The sum of f over a list.
abbrev pub sum : {A : Type 0} → (A → ℕ) → List A → ℕ
sum f [] = 0
sum f (x ∷ xs) = f x + sum f xs

module _ {A : Type 0} where
  pub sum_same : (f g : A → ℕ) (xs : List A) → All (λ x. f x ≡ g x) xs → sum f xs ≡ sum g xs
  sum_same f g [] h = refl
  sum_same f g (x ∷ xs) h = omega (arith, h.0, sum_same f g xs h.1)

pub sum-map : {A B : Type 0} (f : B → ℕ) (h : A → B) (xs : List A) → sum f (map h xs) ≡ sum (λ x. f (h x)) xs
sum-map f h [] = refl
sum-map f h (x ∷ xs) = ap (λ (n : ℕ). f (h x) + n) (sum-map f h xs)

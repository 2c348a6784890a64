-- The reader of a number is right for the decimal text of the numbers below 2 ^ 32.
-- Assumes nothing.
use Prim.Native.Nat.{ℕ, zero, suc, ◌+◌, ◌-◌, ◌*◌, ◌/◌, ◌%◌, ◌^◌, ◌≤◌, ◌<◌}
use mathlib.Core.Path.{◌≡◌, refl, sym, ap, ◌∙◌, subst}
use mathlib.Core.List.{List, [], ◌∷◌, ◌++◌, append_assoc, append-nil}
use mathlib.Core.Bool.{Bool, true, false, cond}
use native.Mathlib.Omega.{arith}
use native.Mathlib.Nat.{pow-suc, add-sub_cancel_left, add-zero}
use lib.ListN.{length, take, length-append}
use lib.Dec.{T, eqb, ltb}
use borrow.Author.Tests.{ne_eqb, eqb-true, eqb-false, lt-ltb, le-ltb, ltb-true, ltb-false}
use Rattle.text.specs.Text.{digits, decimal, Word}
use Rattle.text.specs.Reading.{Res, got, bad, next, later, is_digit, more, number}
use Rattle.text.proofs.Digits.{digit, is_digit_true, NoDigit}
use Rattle.text.proofs.Pieces.{Good, LocalAt, Piece}
use Rattle.text.proofs.Literals.{local_next, local_stop}

small : (k n : ℕ) → n < 10 → digits (suc k) n ≡ (48 + n) ∷ []
unfolding digits
small k n h = rw (lt-ltb n 10 h)

large : (k n : ℕ) → 10 ≤ n → digits (suc k) n ≡ digits k (n / 10) ++ ((48 + n % 10) ∷ [])
unfolding digits
large k n h = rw (le-ltb n 10 h)

-- a number is below 10, or not
split : (P : Type 0) (n : ℕ) → (n < 10 → P) → (10 ≤ n → P) → P
split P n f g = go (ltb n 10) refl
  where
    go : (x : Bool) → ltb n 10 ≡ x → P
    go true e = f (ltb-true n 10 e)
    go false e = g (ltb-false n 10 e)

-- more fuel than digits changes nothing
fuel : (k n : ℕ) → n < 10 ^ suc k → digits (suc (suc k)) n ≡ digits (suc k) n
fuel zero n h = small 1 n h ∙ sym (small 0 n h)
fuel (suc k) n h =
    let h' : n < 10 ^ suc k * 10 = rw (pow-suc 10 (suc k)) at h in
    split _ n (λ s. small (suc (suc k)) n s ∙ sym (small (suc k) n s))
    (λ b. rw (large (suc (suc k)) n b, large (suc k) n b, fuel k (n / 10) (omega arith)))

-- one digit more
pub decimal_step : (w d : ℕ) → 1 ≤ w → d < 10 → w * 10 + d < 2 ^ 64 → decimal (w * 10 + d) ≡ decimal w ++ ((48 + d) ∷ [])
unfolding decimal
decimal_step w d h k l =
    let q : (w * 10 + d) / 10 ≡ w = omega arith in
    let m : (w * 10 + d) % 10 ≡ d = omega arith in
    large 19 (w * 10 + d) (omega arith) ∙ rw (q, m, fuel 18 w (omega arith))

pub decimal-one : (d : ℕ) → d < 10 → decimal d ≡ (48 + d) ∷ []
unfolding decimal
decimal-one d h = small 19 d h

next-later : (n : ℕ) (x : Res ℕ) → later n (next x) ≡ later (n + 1) x
next-later n (got a m) = ap (λ (k : ℕ). got a k) (omega arith)
next-later n (bad o) = ap (λ (k : ℕ). bad k) (omega arith)

later-one : (x : Res ℕ) → later 1 x ≡ next x
later-one (got a m) = ap (λ (k : ℕ). got a k) (omega arith)
later-one (bad o) = ap (λ (k : ℕ). bad k) (omega arith)

-- a digit that fits is taken
pub more_digit : (v d : ℕ) (t : List ℕ) → d < 10 → v * 10 + d < 2 ^ 32 → more v ((48 + d) ∷ t) ≡ next (more (v * 10 + d) t)
unfolding more
more_digit v d t h l = rw (digit (48 + d) (omega arith) (omega arith), add-sub_cancel_left 48 d, lt-ltb (v * 10 + d) (2 ^ 32) l)

pub more_large : (v d : ℕ) (t : List ℕ) → d < 10 → 2 ^ 32 ≤ v * 10 + d → more v ((48 + d) ∷ t) ≡ bad 0
unfolding more
more_large v d t h l = rw (digit (48 + d) (omega arith) (omega arith), add-sub_cancel_left 48 d, le-ltb (v * 10 + d) (2 ^ 32) l)

pub no_number : (t : List ℕ) → NoDigit t → number t ≡ bad 0
unfolding number
no_number [] h = refl
no_number (b ∷ t) h = go (eqb b 48) refl
  where
    go : (x : Bool) → eqb b 48 ≡ x → cond x (got 0 1) (cond (is_digit b) (next (more (b - 48) t)) (bad 0)) ≡ bad 0
    go true e = absurd (subst T (sym (digit b (omega (arith, eqb-true b 48 e)) (omega (arith, eqb-true b 48 e))) ∙ h) tt)
    go false e = rw h

pub first_digit : (v : ℕ) (t : List ℕ) → 1 ≤ v → v < 10 → number ((48 + v) ∷ t) ≡ next (more v t)
unfolding number
first_digit v t h s = rw (ne_eqb (48 + v) 48 (omega arith), digit (48 + v) (omega arith) (omega arith), add-sub_cancel_left 48 v)

-- reading the digits of v from the front comes to v
number_digits : (k v : ℕ) → 1 ≤ v → v < 10 ^ k → v < 2 ^ 32 → (t : List ℕ) → number (digits k v ++ t) ≡ later (length (digits k v)) (more v t)
number_digits zero v h l f t = absurd (omega arith)
number_digits (suc k) v h l f t =
    let l' : v < 10 ^ k * 10 = rw (pow-suc 10 k) at l in
    let back : v / 10 * 10 + v % 10 ≡ v = omega arith in
    split _ v (λ s. rw (small k v s, first_digit v t h s, later-one))
    (λ b. rw (
      large k v b,
      append_assoc,
      number_digits k (v / 10) (omega arith) (omega arith) (omega arith) ((48 + v % 10) ∷ t),
      more_digit (v / 10) (v % 10) t (omega arith) (omega arith),
      back,
      next-later,
      length-append,
    ))

pub more_stop : (v : ℕ) (r : List ℕ) → NoDigit r → more v r ≡ got v 0
unfolding more
more_stop v [] f = refl
more_stop v (b ∷ r) f = rw f

zero_text : (r : List ℕ) → number (decimal 0 ++ r) ≡ got 0 1
unfolding number decimal digits
zero_text r = refl

number_exact : (v : ℕ) → Word v → (r : List ℕ) → NoDigit r → number (decimal v ++ r) ≡ got v (length (decimal v))
unfolding decimal
number_exact zero h r f = zero_text r ∙ rw (small 19 0 (omega arith))
number_exact (suc v) h r f = number_digits 20 (suc v) (omega arith) (omega arith) h r ∙ rw (more_stop (suc v) r f, add-zero)

-- what more passes belongs to a number
abbrev Passed : ℕ → List ℕ → Res ℕ → Type 0
Passed w t (got v n) = Word v × (n ≤ length t) × (decimal w ++ take n t ≡ decimal v)
Passed w t (bad o) = (o ≤ length t) × ((v : ℕ) × Word v × (decimal w ++ take o t ≡ decimal v))

more-good : (w : ℕ) (t : List ℕ) → 1 ≤ w → Word w → Passed w t (more w t)
unfolding more
more-good w [] h l = (l, omega arith, append-nil (decimal w))
more-good w (b ∷ t) h l =
    go (is_digit b) refl (ltb (w * 10 + (b - 48)) (2 ^ 32)) refl (more-good (w * 10 + (b - 48)) t (omega arith))
  where
    on : is_digit b ≡ true → w * 10 + (b - 48) < 2 ^ 32 → (x : Res ℕ) → Passed (w * 10 + (b - 48)) t x → Passed w (b ∷ t) (next x)
    on p q x g =
        let d = is_digit_true b p in
        let back : 48 + (b - 48) ≡ b = omega arith in
        let e : decimal (w * 10 + (b - 48)) ≡ decimal w ++ (b ∷ []) = decimal_step w (b - 48) h (omega arith) (omega (arith, q)) ∙ rw back in
        on' e x g
      where
        on' : decimal (w * 10 + (b - 48)) ≡ decimal w ++ (b ∷ []) → (x : Res ℕ) → Passed (w * 10 + (b - 48)) t x → Passed w (b ∷ t) (next x)
        on' e (got v n) g = (g.0, omega (arith, g.1), sym (append_assoc (decimal w) (b ∷ []) (take n t)) ∙ rw (← e) g.2)
        on' e (bad o) g = (omega (arith, g.0), (g.1.0, g.1.1, sym (append_assoc (decimal w) (b ∷ []) (take o t)) ∙ rw (← e) g.1.2))

    go : (x : Bool) → is_digit b ≡ x → (y : Bool) → ltb (w * 10 + (b - 48)) (2 ^ 32) ≡ y
        → (Word (w * 10 + (b - 48)) → Passed (w * 10 + (b - 48)) t (more (w * 10 + (b - 48)) t))
        → Passed w (b ∷ t) (cond x (cond y (next (more (w * 10 + (b - 48)) t)) (bad 0)) (got w 0))
    go true p true q ih = let q' = ltb-true (w * 10 + (b - 48)) (2 ^ 32) q in on p q' (more (w * 10 + (b - 48)) t) (ih q')
    go true p false q ih = (omega arith, (w, l, append-nil (decimal w)))
    go false p y q ih = (l, omega arith, append-nil (decimal w))

number-good : (t : List ℕ) → Good decimal Word t (number t)
unfolding number
number-good [] = (omega arith, (0, omega arith, decimal 0, refl))
number-good (b ∷ t) = go (eqb b 48) refl (is_digit b) refl
  where
    on : decimal (b - 48) ≡ b ∷ [] → (x : Res ℕ) → Passed (b - 48) t x → Good decimal Word (b ∷ t) (next x)
    on e (got v n) g = (g.0, omega (arith, g.1), rw e at g.2)
    on e (bad o) g = (omega (arith, g.0), (g.1.0, g.1.1, [], append-nil (b ∷ take o t) ∙ (rw e at g.1.2)))

    go : (x : Bool) → eqb b 48 ≡ x → (y : Bool) → is_digit b ≡ y → Good decimal Word (b ∷ t) (cond x (got 0 1) (cond y (next (more (b - 48) t)) (bad 0)))
    go true p y q = (omega arith, omega arith, rw (eqb-true b 48 p, decimal-one 0 (omega arith)))
    go false p true q =
        let d = is_digit_true b q in
        let ne : b ≡ 48 → ⊥ = eqb-false b 48 p in
        let back : 48 + (b - 48) ≡ b = omega arith in
        on (decimal-one (b - 48) (omega arith) ∙ rw back) (more (b - 48) t) (more-good (b - 48) t (omega arith) (omega arith))
    go false p false q = (omega arith, (0, omega arith, decimal 0, refl))

more_local : (w : ℕ) (t : List ℕ) → LocalAt (more w) t
unfolding more
more_local w [] = λ u lt same. absurd (omega arith)
more_local w (b ∷ t) = go (is_digit b) refl (ltb (w * 10 + (b - 48)) (2 ^ 32)) refl (more_local (w * 10 + (b - 48)) t)
  where
    go : (x : Bool) → is_digit b ≡ x → (y : Bool) → ltb (w * 10 + (b - 48)) (2 ^ 32) ≡ y → LocalAt (more (w * 10 + (b - 48))) t → LocalAt (more w) (b ∷ t)
    go true p true q ih = local_next (more w) b (more (w * 10 + (b - 48))) (λ u. rw (p, q)) t ih
    go true p false q ih = local_stop (more w) b (bad 0) (λ u. rw (p, q)) t
    go false p y q ih = local_stop (more w) b (got w 0) (λ u. rw p) t

number_local : (t : List ℕ) → LocalAt number t
unfolding number
number_local [] = λ u lt same. absurd (omega arith)
number_local (b ∷ t) = go (eqb b 48) refl (is_digit b) refl
  where
    go : (x : Bool) → eqb b 48 ≡ x → (y : Bool) → is_digit b ≡ y → LocalAt number (b ∷ t)
    go true p y q = local_next number b (λ u. got 0 0) (λ u. rw p) t (λ u lt same. refl)
    go false p true q = local_next number b (more (b - 48)) (λ u. rw (p, q)) t (more_local (b - 48) t)
    go false p false q = local_stop number b (bad 0) (λ u. rw (p, q)) t

pub number_piece : Piece decimal Word NoDigit number
number_piece = record { exact = number_exact; good = number-good; local = number_local }

-- ---- what digits say
-- The number that digits say, highest first, behind those that said v.
unfoldable pub said : ℕ → List ℕ → ℕ
said v [] = v
said v (b ∷ bs) = said (v * 10 + (b - 48)) bs

said-last : (v : ℕ) (xs : List ℕ) (b : ℕ) → said v (xs ++ (b ∷ [])) ≡ said v xs * 10 + (b - 48)
unfolding said
said-last v [] b = refl
said-last v (x ∷ xs) b = said-last (v * 10 + (x - 48)) xs b

digits_say : (k n : ℕ) → n < 10 ^ suc k → said 0 (digits (suc k) n) ≡ n
unfolding said
digits_say zero n h = rw (small 0 n h) (omega arith)
digits_say (suc k) n h =
    let h' : n < 10 ^ suc k * 10 = rw (pow-suc 10 (suc k)) at h in
    split _ n (λ s. rw (small (suc k) n s) (omega arith))
    (λ b. rw (large (suc k) n b, said-last 0 (digits (suc k) (n / 10)) (48 + n % 10), digits_say k (n / 10) (omega arith)) (omega arith))

pub decimal_says : (n : ℕ) → n < 10 ^ 20 → said 0 (decimal n) ≡ n
unfolding decimal
decimal_says n h = digits_say 19 n h

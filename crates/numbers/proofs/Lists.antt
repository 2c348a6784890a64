-- Lists that a function makes number by number, and lists joined item by item: their lengths, what stands where, and one
-- more at the end; and a test over a whole list.
-- Assumes nothing.
use Prim.Native.Nat.{ℕ, zero, suc, ◌+◌, ◌*◌, ◌≤◌, ◌<◌}
use mathlib.Core.Path.{◌≡◌, refl, sym, ap, ◌∙◌}
use mathlib.Core.Bool.{Bool, true, ◌&&◌}
use mathlib.Core.List.{List, [], ◌∷◌, ◌++◌, append_assoc, append-nil}
use native.Mathlib.Nat.{add-zero, suc-mul}
use native.Mathlib.Numerals.{add-one}
use native.Mathlib.Omega.{arith}
use lib.ListN.{length, get_or, get_or-append}
use lib.Seq.{get_or-append-add}
use Rattle.numbers.specs.Numbers.{All, each, joined}
use Rattle.numbers.proofs.Tests.{and-true}

module _ {A : Type 0} (f : ℕ → A) where
  pub each-length : (i n : ℕ) → length (each f i n) ≡ n
  each-length i zero = refl
  each-length i (suc n) = ap suc (each-length (suc i) n)

  pub each_all : (P : A → Type 0) (i n : ℕ) → ((j : ℕ) → i ≤ j → j < i + n → P (f j)) → All P (each f i n)
  each_all P i zero h = tt
  each_all P i (suc n) h = (h i (omega arith) (omega arith), each_all P (suc i) n (λ j a b. h j (omega arith) (omega arith)))

  -- Item k of those from number i on.
  pub each_at : (i n k : ℕ) → k < n → (d : A) → get_or (each f i n) k d ≡ f (i + k)
  each_at i zero k h d = absurd (omega arith)
  each_at i (suc n) zero h d = ap f (sym (add-zero i))
  each_at i (suc n) (suc k) h d =
      let there : suc i + k ≡ i + suc k = omega arith in
      each_at (suc i) n k (omega arith) d ∙ ap f there

  -- One more, at the end.
  pub each_more : (i n : ℕ) → each f i (n + 1) ≡ each f i n ++ (f (i + n) ∷ [])
  each_more i n = ap (each f i) (add-one n) ∙ go i n
    where
      go : (i n : ℕ) → each f i (suc n) ≡ each f i n ++ (f (i + n) ∷ [])
      go i zero = ap (λ (j : ℕ). f j ∷ []) (sym (add-zero i))
      go i (suc n) =
          let there : suc i + n ≡ i + suc n = omega arith in
          ap (λ (l : List A). f i ∷ l) (go (suc i) n ∙ ap (λ (j : ℕ). each f (suc i) n ++ (f j ∷ [])) there)

module _ {A : Type 0} (g : A → List ℕ) where
  pub joined-append : (xs ys : List A) → joined g (xs ++ ys) ≡ joined g xs ++ joined g ys
  joined-append [] ys = refl
  joined-append (x ∷ xs) ys = rw (joined-append xs ys) (sym (append_assoc (g x) (joined g xs) (joined g ys)))

  pub joined-one : (xs : List A) (a : A) → joined g (xs ++ (a ∷ [])) ≡ joined g xs ++ g a
  joined-one xs a = joined-append xs (a ∷ []) ∙ ap (λ (l : List ℕ). joined g xs ++ l) (append-nil (g a))

-- What holds of each item of a list holds of the one at t.
pub all_at : {A : Type 0} (P : A → Type 0) (xs : List A) → All P xs → (t : ℕ) (d : A) → t < length xs → P (get_or xs t d)
all_at P [] all t d h = absurd (omega arith)
all_at P (x ∷ xs) all zero d h = all.0
all_at P (x ∷ xs) all (suc t) d h = all_at P xs all.1 t d (omega arith)

-- Items that give lists of one size, joined: number k of the one at t.
pub joined_at : {A : Type 0} (g : A → List ℕ) (size : ℕ) (xs : List A) → All (λ a. length (g a) ≡ size) xs
    → (t k : ℕ) (d : A) → t < length xs → k < size → get_or (joined g xs) (t * size + k) 0 ≡ get_or (g (get_or xs t d)) k 0
joined_at g size [] sized t k d h l = absurd (omega arith)
joined_at g size (x ∷ xs) sized zero k d h l =
    let here : 0 * size + k ≡ k = omega arith in
    ap (λ (p : ℕ). get_or (g x ++ joined g xs) p 0) here ∙ get_or-append (g x) (joined g xs) 0 k (omega (arith, sized.0))
joined_at g size (x ∷ xs) sized (suc t) k d h l =
    let there : suc t * size + k ≡ length (g x) + (t * size + k) = omega (arith, sized.0, suc-mul t size) in
    ap (λ (p : ℕ). get_or (g x ++ joined g xs) p 0) there ∙ get_or-append-add (g x) (joined g xs) (t * size + k) 0 ∙
    joined_at g size xs sized.1 t k d (omega arith) l

-- A test that passes over a whole list, as one computes it, passes at each item.
abbrev pub every : (ℕ → Bool) → List ℕ → Bool
every test [] = true
every test (x ∷ xs) = test x && every test xs

pub every_at : (test : ℕ → Bool) (xs : List ℕ) → every test xs ≡ true → (k d : ℕ) → k < length xs → test (get_or xs k d) ≡ true
every_at test [] e k d h = absurd (omega arith)
every_at test (x ∷ xs) e zero d h = (and-true (test x) (every test xs) e).0
every_at test (x ∷ xs) e (suc k) d h = every_at test xs (and-true (test x) (every test xs) e).1 k d (omega arith)

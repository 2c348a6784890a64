-- The reader of a list of items is right for lists of so many.
-- Assumes nothing.
use Prim.Native.Nat.{ℕ, zero, suc, ◌+◌, ◌≤◌}
use mathlib.Core.Path.{◌≡◌, refl, ap}
use mathlib.Core.List.{List, [], ◌∷◌, ◌++◌, append_assoc}
use mathlib.Core.Bool.{true, false}
use mathlib.Core.Logic.{◌⊎◌, inl, inr}
use native.Mathlib.Omega.{arith}
use native.Mathlib.Nat.{zero-add, suc-add}
use lib.ListN.{length}
use Rattle.numbers.specs.Numbers.{All, joined}
use Rattle.text.specs.Text.{Between}
use Rattle.text.specs.Reading.{Res, got, seq, many, starts, either, nothing}
use Rattle.text.proofs.Pieces.{Piece, seq_piece}
use Rattle.text.proofs.Branches.{either_piece}

module _ {A : Type 0} {textI : A → List ℕ} {DomI : A → Type 0} {FI : List ℕ → Type 0} {readI : List ℕ → Res A} (I : Piece textI DomI FI readI)
    (c : ℕ) (F : List ℕ → Type 0)
    (follow : (xs : List A) → All DomI xs → (r : List ℕ) → F r → FI (joined textI xs ++ r))
    (head : (a : A) → DomI a → (r : List ℕ) → starts c (textI a ++ r) ≡ true)
    (other : (r : List ℕ) → F r → starts c r ≡ false)
    (one : (a : A) × DomI a) where
  fill : (m : ℕ) → (xs : List A) × (length xs ≡ m) × All DomI xs
  fill zero = ([], refl, tt)
  fill (suc m) = let r = fill m in (one.0 ∷ r.0, ap suc r.1, (one.1, r.2))

  -- an item and then a list
  cons_piece : (m n : ℕ) (rd : List ℕ → Res (List A)) → m ≤ n → Piece (joined textI) (Between DomI m n) F rd
      → Piece (joined textI) (Between DomI (suc m) (suc n)) F (seq ◌∷◌ readI (λ _. rd))
  cons_piece m n rd h R =
      seq_piece ◌∷◌ (joined textI) (Between DomI (suc m) (suc n)) I (λ _ _. R)
      (λ a b. refl)
      (λ a xs da db. record { least = omega arith; most = omega arith; each = (da, db.each) })
      parts
      (λ a da. let r = fill m in (r.0, record { least = omega arith; most = omega arith; each = r.2 }))
      (λ a xs r da db fr. follow xs db.each r fr)
    where
      parts : (xs : List A) → Between DomI (suc m) (suc n) xs → (a : A) × (b : List A) × DomI a × Between DomI m n b × (a ∷ b ≡ xs)
      parts [] d = absurd (omega (arith, d.least))
      parts (x ∷ xs) d = (x, xs, d.each.0, record { least = omega (arith, d.least); most = omega (arith, d.most); each = d.each.1 }, refl)

  none_piece : Piece (joined textI) (Between DomI 0 0) F nothing
  none_piece = record {
    exact = none;
    good = λ t. (record { least = omega arith; most = omega arith; each = tt }, omega arith, refl);
    local = λ t u lt same. refl;
  }
    where
      none : (xs : List A) → Between DomI 0 0 xs → (r : List ℕ) → F r → got [] 0 ≡ got xs (length (joined textI xs))
      none [] d r f = refl
      none (x ∷ xs) d r f = absurd (omega (arith, d.most))

  -- an item and then a list, or nothing
  more_piece : (n : ℕ) (rd : List ℕ → Res (List A)) → Piece (joined textI) (Between DomI 1 n) F rd
      → Piece (joined textI) (Between DomI 0 n) F (either c rd nothing)
  more_piece n rd R =
      either_piece (joined textI) (Between DomI 0 n) c R none_piece
      (λ xs d. record { least = omega arith; most = d.most; each = d.each })
      (λ xs d. record { least = omega arith; most = omega (arith, d.most); each = d.each })
      which begins ends
    where
      which : (xs : List A) → Between DomI 0 n xs → Between DomI 1 n xs ⊎ Between DomI 0 0 xs
      which [] d = inr (record { least = omega arith; most = omega arith; each = tt })
      which (x ∷ xs) d = inl (record { least = omega arith; most = d.most; each = d.each })

      begins : (xs : List A) → Between DomI 1 n xs → (r : List ℕ) → starts c (joined textI xs ++ r) ≡ true
      begins [] d r = absurd (omega (arith, d.least))
      begins (x ∷ xs) d r = rw append_assoc (head x d.each.0 (joined textI xs ++ r))

      ends : (xs : List A) → Between DomI 0 0 xs → (r : List ℕ) → F r → starts c (joined textI xs ++ r) ≡ false
      ends [] d r f = other r f
      ends (x ∷ xs) d r f = absurd (omega (arith, d.most))

  pub many_piece : (m k : ℕ) → Piece (joined textI) (Between DomI m (m + k)) F (many readI c m k)
  unfolding many
  many_piece zero zero = none_piece
  many_piece zero (suc k) =
      rw zero-add
      (more_piece (suc k) (seq ◌∷◌ readI (λ _. many readI c 0 k)) (cons_piece 0 k (many readI c 0 k) (omega arith) (rw zero-add at (many_piece zero k))))
  many_piece (suc m) k = rw suc-add (cons_piece m (m + k) (many readI c m k) (omega arith) (many_piece m k))

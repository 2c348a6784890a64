-- The reader of a fixed string is right for it; and the locality of a reader that takes one byte and goes on.
-- Assumes nothing.
use Prim.Native.Nat.{ℕ, suc, ◌<◌}
use mathlib.Core.Path.{◌≡◌, refl, ap}
use mathlib.Core.List.{List, [], ◌∷◌, ◌++◌}
use mathlib.Core.Bool.{Bool, true, false, cond}
use native.Mathlib.Omega.{arith}
use lib.ListN.{length, take}
use lib.Dec.{eqb}
use borrow.Author.Tests.{eq-eqb, eqb-true}
use Rattle.text.specs.Reading.{Res, got, bad, ext, next, literal}
use Rattle.text.proofs.Pieces.{Good, LocalAt, Piece}

pub ext-next : {A : Type 0} (x : Res A) → ext (next x) ≡ suc (ext x)
ext-next (got a n) = refl
ext-next (bad o) = refl

pub same_head : (b k : ℕ) (t u : List ℕ) → take (suc k) u ≡ b ∷ take k t → (v : List ℕ) × (u ≡ b ∷ v) × (take k v ≡ take k t)
same_head b k t [] e = absurd (clash e)
  where
    clash : [] ≡ b ∷ take k t → ⊥
    clash e = omega (arith, ap length e)
same_head b k t (c ∷ v) e = (v, cc, cc)

module _ {A : Type 0} (read : List ℕ → Res A) (b : ℕ) where
  pub local_next : (rd : List ℕ → Res A) → ((u : List ℕ) → read (b ∷ u) ≡ next (rd u)) → (t : List ℕ) → LocalAt rd t → LocalAt read (b ∷ t)
  local_next rd e t l u lt same =
      let lt' : suc (ext (rd t)) < suc (length t) = rw (e t, ext-next) at lt in
      let same' : take (suc (suc (ext (rd t)))) u ≡ b ∷ take (suc (ext (rd t))) t = rw (e t, ext-next) at same in
      let h = same_head b (suc (ext (rd t))) t u same' in
      rw (h.1, e h.0, e t, l h.0 (omega arith) h.2)

  pub local_stop : (x : Res A) → ((u : List ℕ) → read (b ∷ u) ≡ x) → (t : List ℕ) → LocalAt read (b ∷ t)
  local_stop x e t u lt same =
      let h = same_head b (ext (read (b ∷ t))) t u same in
      rw (h.1, e h.0, e t)

abbrev pub Any : {A : Type 0} → A → Type 0
Any a = Unit {0}

lit_exact : (l r : List ℕ) → literal l (l ++ r) ≡ got tt (length l)
unfolding literal
lit_exact [] r = refl
lit_exact (c ∷ l) r = rw (eq-eqb c c refl, lit_exact l r)

lit_good : (l t : List ℕ) → Good {A = Unit {0}} (λ _. l) Any t (literal l t)
unfolding literal
lit_good [] t = (tt, omega arith, refl)
lit_good (c ∷ l) [] = (omega arith, (tt, tt, c ∷ l, refl))
lit_good (c ∷ l) (b ∷ t) = go (lit_good l t) (eqb b c) refl
  where
    on : b ≡ c → (x : Res (Unit {0})) → Good (λ _. l) Any t x → Good (λ _. c ∷ l) Any (b ∷ t) (next x)
    on e (got a n) g = (tt, omega (arith, g.1), rw (e, g.2))
    on e (bad o) g = (omega (arith, g.0), (tt, tt, g.1.2, rw e (ap (λ (z : List ℕ). c ∷ z) g.1.3)))

    go : Good (λ _. l) Any t (literal l t) → (x : Bool) → eqb b c ≡ x → Good (λ _. c ∷ l) Any (b ∷ t) (cond x (next (literal l t)) (bad 0))
    go g true e = on (eqb-true b c e) (literal l t) g
    go g false e = (omega arith, (tt, tt, c ∷ l, refl))

lit_local : (l t : List ℕ) → LocalAt (literal l) t
unfolding literal
lit_local [] t = λ u lt same. refl
lit_local (c ∷ l) [] = λ u lt same. absurd (omega arith)
lit_local (c ∷ l) (b ∷ t) = go (lit_local l t) (eqb b c) refl
  where
    go : LocalAt (literal l) t → (x : Bool) → eqb b c ≡ x → LocalAt (literal (c ∷ l)) (b ∷ t)
    go h true e = local_next (literal (c ∷ l)) b (literal l) (λ u. rw e) t h
    go h false e = local_stop (literal (c ∷ l)) b (bad 0) (λ u. rw e) t

pub literal_piece : (l : List ℕ) → Piece (λ _. l) Any Any (literal l)
literal_piece l = record { exact = λ a d r f. lit_exact l r; good = lit_good l; local = lit_local l }

-- A right reader whose value is turned into another is right; and of two readers that the next byte tells apart, both
-- right, the reader of either is.
-- Assumes nothing.
use Prim.Native.Nat.{ℕ, suc, ◌<◌}
use mathlib.Core.Path.{◌≡◌, refl, sym, ap, ◌∙◌, subst}
use mathlib.Core.List.{List, [], ◌∷◌, ◌++◌}
use mathlib.Core.Bool.{Bool, true, false, cond}
use mathlib.Core.Logic.{◌⊎◌, ⊎_elim}
use native.Mathlib.Omega.{arith}
use lib.ListN.{length, take}
use lib.Dec.{eqb}
use Rattle.text.specs.Reading.{Res, got, bad, ext, map_res, mapped, starts, either}
use Rattle.text.proofs.Pieces.{Good, LocalAt, Piece}
use Rattle.text.proofs.Literals.{same_head}

-- ---- another value
module _ {A C : Type 0} (f : A → C) {textA : A → List ℕ} {DomA : A → Type 0} {F : List ℕ → Type 0} {read_a : List ℕ → Res A}
    (text : C → List ℕ) (Dom : C → Type 0) (P : Piece textA DomA F read_a)
    (same : (a : A) → text (f a) ≡ textA a)
    (made : (a : A) → DomA a → Dom (f a))
    (part : (c : C) → Dom c → (a : A) × DomA a × (f a ≡ c)) where
  ext-map : (x : Res A) → ext (map_res f x) ≡ ext x
  ext-map (got a n) = refl
  ext-map (bad o) = refl

  map_exact : (c : C) → Dom c → (r : List ℕ) → F r → mapped f read_a (text c ++ r) ≡ got c (length (text c))
  map_exact c d r fr =
      let p = part c d in
      subst (λ (z : C). mapped f read_a (text z ++ r) ≡ got z (length (text z))) p.2
      (rw (same p.0, P.exact p.0 p.1 r fr))

  map-good : (t : List ℕ) → Good text Dom t (mapped f read_a t)
  map-good t = go (read_a t) (P.good t)
    where
      go : (x : Res A) → Good textA DomA t x → Good text Dom t (map_res f x)
      go (got a n) g = (made a g.0, g.1, g.2 ∙ sym (same a))
      go (bad o) g = (g.0, (f g.1.0, made g.1.0 g.1.1, g.1.2, g.1.3 ∙ sym (same g.1.0)))

  map_local : (t : List ℕ) → LocalAt (mapped f read_a) t
  map_local t u lt same = ap (map_res f) (P.local t u (rw ext-map at lt) (rw (ext-map (read_a t)) at same))

  pub map_piece : Piece text Dom F (mapped f read_a)
  map_piece = record { exact = map_exact; good = map-good; local = map_local }

-- ---- one or the other
module _ {A : Type 0} (text : A → List ℕ) {Dom₁ Dom₂ : A → Type 0} (Dom : A → Type 0) {F : List ℕ → Type 0}
    {read₁ read₂ : List ℕ → Res A} (c : ℕ) (P : Piece text Dom₁ F read₁) (Q : Piece text Dom₂ F read₂)
    (left : (a : A) → Dom₁ a → Dom a) (right : (a : A) → Dom₂ a → Dom a) (which : (a : A) → Dom a → Dom₁ a ⊎ Dom₂ a)
    (head : (a : A) → Dom₁ a → (r : List ℕ) → starts c (text a ++ r) ≡ true)
    (other : (a : A) → Dom₂ a → (r : List ℕ) → F r → starts c (text a ++ r) ≡ false) where
  abbrev read : List ℕ → Res A
  read = either c read₁ read₂

  either_exact : (a : A) → Dom a → (r : List ℕ) → F r → read (text a ++ r) ≡ got a (length (text a))
  either_exact a d r fr =
      ⊎_elim
      (λ (h : Dom₁ a). rw (head a h r, P.exact a h r fr))
      (λ (h : Dom₂ a). rw (other a h r fr, Q.exact a h r fr))
      (which a d)

  wider : (D : A → Type 0) → ((a : A) → D a → Dom a) → (t : List ℕ) (x : Res A) → Good text D t x → Good text Dom t x
  wider D h t (got a k) g = (h a g.0, g.1, g.2)
  wider D h t (bad o) g = (g.0, (g.1.0, h g.1.0 g.1.1, g.1.2, g.1.3))

  either-good : (t : List ℕ) → Good text Dom t (read t)
  either-good t = go (starts c t)
    where
      go : (z : Bool) → Good text Dom t (cond z (read₁ t) (read₂ t))
      go true = wider Dom₁ left t (read₁ t) (P.good t)
      go false = wider Dom₂ right t (read₂ t) (Q.good t)

  either_local : (t : List ℕ) → LocalAt read t
  either_local [] = λ u lt same. absurd (omega arith)
  either_local (b ∷ t) = λ u lt same.
      let h = same_head b (ext (read (b ∷ t))) t u same in
      rw h.1 (go (eqb b c) refl h.0 lt (rw h.1 at same))
    where
      go : (z : Bool) → eqb b c ≡ z → (v : List ℕ) → ext (read (b ∷ t)) < suc (length t)
          → take (suc (ext (read (b ∷ t)))) (b ∷ v) ≡ take (suc (ext (read (b ∷ t)))) (b ∷ t) → read (b ∷ v) ≡ read (b ∷ t)
      go true e v lt same = rw e (P.local (b ∷ t) (b ∷ v) (rw e at lt) (rw e at same))
      go false e v lt same = rw e (Q.local (b ∷ t) (b ∷ v) (rw e at lt) (rw e at same))

  pub either_piece : Piece text Dom F (either c read₁ read₂)
  either_piece = record { exact = either_exact; good = either-good; local = either_local }

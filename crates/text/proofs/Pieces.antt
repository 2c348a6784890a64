-- What makes a reader right for the texts of a piece; two right readers in a row are right; a right reader of all of a
-- text finds the first bad byte.
-- Assumes nothing.
use Prim.Native.Nat.{ℕ, zero, suc, ◌+◌, ◌≤◌, ◌<◌}
use mathlib.Core.Path.{◌≡◌, refl, sym, ap, ◌∙◌, subst}
use mathlib.Core.List.{List, [], ◌∷◌, ◌++◌, append_assoc, append-nil}
use mathlib.Core.Bool.{Bool, true, false, cond}
use mathlib.Core.Logic.{⊎_elim}
use native.Mathlib.Omega.{arith}
use native.Mathlib.Decide.{dec_lt}
use native.Mathlib.Nat.{suc-add, zero-add, add-suc}
use lib.ListN.{length, take, drop, length-append, length-drop, take-append-drop}
use lib.Seq.{length-take-le, take-add, take-take, drop-append_seam, take-length, take_at, take-nil}
use lib.Dec.{eqb}
use borrow.Author.Tests.{eq-eqb, eqb-true, eqb-false}
use Rattle.numbers.proofs.Tests.{lt_or_le}
use Rattle.text.specs.Text.{FirstBad}
use Rattle.text.specs.Reading.{Res, got, bad, ext, later, map_res, after, seq, ended}

module _ {A : Type 0} (text : A → List ℕ) (Dom : A → Type 0) where
  -- what was read is the text of the value; what was passed before the bad byte begins some text
  abbrev pub Good : List ℕ → Res A → Type 0
  Good t (got a n) = Dom a × (n ≤ length t) × (take n t ≡ text a)
  Good t (bad o) = (o ≤ length t) × ((a : A) × Dom a × (rest : List ℕ) × (take o t ++ rest ≡ text a))

-- the answer depends only on the bytes up to the place that it names, and the one there
abbrev pub LocalAt : {A : Type 0} → (List ℕ → Res A) → List ℕ → Type 0
LocalAt read t = (u : List ℕ) → ext (read t) < length t → take (suc (ext (read t))) u ≡ take (suc (ext (read t))) t → read u ≡ read t

-- the same, with the answer named
pub at : {A : Type 0} (read : List ℕ → Res A) (t : List ℕ) → LocalAt read t → (u : List ℕ) (x : Res A) → read t ≡ x → ext x < length t
    → take (suc (ext x)) u ≡ take (suc (ext x)) t → read u ≡ x
at read t l u x e lt same = l u (rw e lt) (rw e same) ∙ e

pub record Piece {A : Type 0} (text : A → List ℕ) (Dom : A → Type 0) (Follow : List ℕ → Type 0) (read : List ℕ → Res A) : Type 0 where
  pub exact : (a : A) → Dom a → (r : List ℕ) → Follow r → read (text a ++ r) ≡ got a (length (text a))
  pub good : (t : List ℕ) → Good text Dom t (read t)
  pub local : (t : List ℕ) → LocalAt read t

-- ---- lists
pub take-drop : (n k : ℕ) (l : List ℕ) → take k (drop n l) ≡ drop n (take (n + k) l)
take-drop zero k l = rw zero-add
take-drop (suc n) k [] = rw suc-add (take-nil k)
take-drop (suc n) k (x ∷ l) = rw suc-add (take-drop n k l)

pub take_less : (m n : ℕ) (t u : List ℕ) → m ≤ n → take n u ≡ take n t → take m u ≡ take m t
take_less m n t u h e = sym (take-take m n u h) ∙ ap (take m) e ∙ take-take m n t h

-- ---- one after the other
module _ {A B C : Type 0} (mk : A → B → C)
    {textA : A → List ℕ} {DomA : A → Type 0} {FA : List ℕ → Type 0} {read_a : List ℕ → Res A}
    {textB : A → B → List ℕ} {DomB : A → B → Type 0} {FB : List ℕ → Type 0} {readB : A → List ℕ → Res B}
    (text : C → List ℕ) (Dom : C → Type 0)
    (P : Piece textA DomA FA read_a) (Q : (a : A) → DomA a → Piece (textB a) (DomB a) FB (readB a))
    (text-mk : (a : A) (b : B) → text (mk a b) ≡ textA a ++ textB a b)
    (made : (a : A) (b : B) → DomA a → DomB a b → Dom (mk a b))
    (parts : (c : C) → Dom c → (a : A) × (b : B) × DomA a × DomB a b × (mk a b ≡ c))
    (some : (a : A) → DomA a → (b : B) × DomB a b)
    (follows : (a : A) (b : B) (r : List ℕ) → DomA a → DomB a b → FB r → FA (textB a b ++ r)) where
  seq_exact : (c : C) → Dom c → (r : List ℕ) → FB r → seq mk read_a readB (text c ++ r) ≡ got c (length (text c))
  seq_exact c d r fr =
      let p = parts c d in
      subst (λ (z : C). seq mk read_a readB (text z ++ r) ≡ got z (length (text z))) p.4 (go p.0 p.1 p.2 p.3)
    where
      go : (a : A) (b : B) → DomA a → DomB a b → seq mk read_a readB (text (mk a b) ++ r) ≡ got (mk a b) (length (text (mk a b)))
      go a b da db =
          rw (text-mk a b, append_assoc (textA a) (textB a b) r)
          (rw (P.exact a da (textB a b ++ r) (follows a b r da db fr))
          (rw (drop-append_seam (textA a) (textB a b ++ r), (Q a da).exact b db r fr, length-append (textA a) (textB a b))))

  seq-good : (t : List ℕ) → Good text Dom t (seq mk read_a readB t)
  seq-good t = go (read_a t) (P.good t)
    where
      go2 : (a : A) (n : ℕ) → Good textA DomA t (got a n) → (y : Res B) → Good (textB a) (DomB a) (drop n t) y → Good text Dom t (later n (map_res (mk a) y))
      go2 a n g (got b m) h =
          let l : n + m ≤ length t = omega (arith, g.1, rw length-drop at h.1) in
          (made a b g.0 h.0, l, take-add n m t ∙ (rw (g.2, h.2, text-mk a b)))
      go2 a n g (bad o) h =
          let l : n + o ≤ length t = omega (arith, g.1, rw length-drop at h.0) in
          let b = h.1.0 in
          (l, (mk a b, made a b g.0 h.1.1, h.1.2, rw (text-mk a b, take-add n o t, g.2, append_assoc) (ap (λ (z : List ℕ). textA a ++ z) h.1.3)))

      go : (x : Res A) → Good textA DomA t x → Good text Dom t (after mk t readB x)
      go (got a n) g = go2 a n g (readB a (drop n t)) ((Q a g.0).good (drop n t))
      go (bad o) g =
          let a = g.1.0 in
          let b = some a g.1.1 in
          (g.0, (mk a b.0, made a b.0 g.1.1 b.1, g.1.2 ++ textB a b.0, rw (text-mk a b.0, ← append_assoc, g.1.3)))

  ext-map : (n : ℕ) (a : A) (y : Res B) → ext (later n (map_res (mk a) y)) ≡ n + ext y
  ext-map n a (got b m) = refl
  ext-map n a (bad o) = refl

  seq_local : (t : List ℕ) → LocalAt (seq mk read_a readB) t
  seq_local t u = go (read_a t) refl
    where
      go : (x : Res A) → read_a t ≡ x → ext (after mk t readB x) < length t → take (suc (ext (after mk t readB x))) u ≡ take (suc (ext (after mk t readB x))) t
          → after mk u readB (read_a u) ≡ after mk t readB x
      go (bad o) p lt same = rw (at read_a t (P.local t) u (bad o) p lt same)
      go (got a n) p lt same =
          let y : Res B = readB a (drop n t) in
          let lt' : n + ext y < length t = rw (ext-map n a y) at lt in
          let same' : take (suc (n + ext y)) u ≡ take (suc (n + ext y)) t = rw (ext-map n a y) at same in
          let d : Good textA DomA t (got a n) = rw p at (P.good t) in
          let ea : read_a u ≡ got a n = at read_a t (P.local t) u (got a n) p (omega arith) (take_less (suc n) (suc (n + ext y)) t u (omega arith) same') in
          let eb : readB a (drop n u) ≡ y =
          (Q a d.0).local (drop n t) (drop n u) (rw length-drop (omega arith))
          (take-drop n (suc (ext y)) u ∙ rw add-suc (ap (drop n) same') ∙ sym (take-drop n (suc (ext y)) t)) in
          rw (ea, eb)

  pub seq_piece : Piece text Dom FB (seq mk read_a readB)
  seq_piece = record { exact = seq_exact; good = seq-good; local = seq_local }

-- ---- all of a text
module _ {A : Type 0} {text : A → List ℕ} {Dom : A → Type 0} {F : List ℕ → Type 0} {read : List ℕ → Res A} (P : Piece text Dom F read) (fin : F []) where
  abbrev pub Form : List ℕ → Type 0
  Form t = (a : A) × Dom a × (text a ≡ t)

  -- the text of a value is read as that value
  pub whole_exact : (a : A) → Dom a → ended (length (text a)) (read (text a)) ≡ got a (length (text a))
  whole_exact a d =
      let e : read (text a) ≡ got a (length (text a)) = rw append-nil at (P.exact a d [] fin) in
      rw (e, eq-eqb (length (text a)) (length (text a)) refl)

  -- what is read is the text of the value; what is refused is refused at the first bad byte
  abbrev pub Right : List ℕ → Res A → Type 0
  Right t (got a n) = Dom a × (text a ≡ t) × (n ≡ length t)
  Right t (bad o) = FirstBad Form t o

  -- a text that agrees with a well-formed one up to and including the place that the answer names
  agree : (t : List ℕ) (x : Res A) → read t ≡ x → ext x < length t → (rest : List ℕ) → (f : Form (take (suc (ext x)) t ++ rest))
      → x ≡ got f.0 (length (text f.0))
  agree t x e lt rest f =
      let k = suc (ext x) in
      let same : take k (text f.0) ≡ take k t = rw f.2 (take_at (take k t) rest k (length-take-le k t lt)) in
      sym (at read t (P.local t) (text f.0) x e lt same) ∙ (rw append-nil at (P.exact f.0 f.1 [] fin))

  pub whole_right : (t : List ℕ) → Right t (ended (length t) (read t))
  whole_right t = go (read t) refl (P.good t)
    where
      go2 : (a : A) (n : ℕ) → read t ≡ got a n → Good text Dom t (got a n) → (z : Bool) → eqb n (length t) ≡ z → Right t (cond z (got a n) (bad n))
      go2 a n e g true q =
          let q' : n ≡ length t = eqb-true n (length t) q in
          (g.0, sym g.2 ∙ rw q' (take-length t), q')
      go2 a n e g false q =
          let q' : n ≡ length t → ⊥ = eqb-false n (length t) q in
          let lt : n < length t = omega (arith, g.1) in
          record {
            within = g.1;
            before = ([], (a, g.0, sym g.2 ∙ sym (append-nil (take n t))));
            departs = λ lt rest f.
                let h : got a n ≡ got f.0 (length (text f.0)) = agree t (got a n) e lt rest f in
                let h' : n ≡ length (text f.0) = ap ext h in
                omega (arith, rw (f.2, length-append, length-take-le (suc n) t lt) at h');
            early = λ e f. absurd (q' e);
          }

      go : (x : Res A) → read t ≡ x → Good text Dom t x → Right t (ended (length t) x)
      go (got a n) e g = go2 a n e g (eqb n (length t)) refl
      go (bad o) e g =
          record {
            within = g.0;
            before = (g.1.2, (g.1.0, g.1.1, sym g.1.3));
            departs = λ lt rest f.
                let h : bad o ≡ got f.0 (length (text f.0)) = agree t (bad o) e lt rest f in
                let z : ◌≡◌ {A = ℕ} 0 1 = cc in omega arith;
            early = λ q f.
                let h : read t ≡ got f.0 (length t) = rw (f.2, append-nil) at (P.exact f.0 f.1 [] fin) in
                let z : ◌≡◌ {A = ℕ} 0 1 = cc in omega arith;
          }

-- ---- the first bad byte, of any form
-- There is at most one such offset.
pub first_bad_one : (Form : List ℕ → Type 0) (t : List ℕ) (o p : ℕ) → FirstBad Form t o → FirstBad Form t p → o ≡ p
first_bad_one Form t o p h k = go (dec_lt o p) (dec_lt p o)
  where
    clash : (o p : ℕ) → FirstBad Form t o → FirstBad Form t p → o < p → ⊥
    clash o p h k l =
        let e : take p t ≡ take (suc o) t ++ drop (suc o) (take p t) =
        sym (take-append-drop (suc o) (take p t)) ∙ ap (λ (z : List ℕ). z ++ drop (suc o) (take p t)) (take-take (suc o) p t l) in
        h.departs (omega (arith, k.within)) (drop (suc o) (take p t) ++ k.before.0)
        (rw (← append_assoc, ← e) k.before.1)

    go : Dec (o < p) → Dec (p < o) → o ≡ p
    go (yes l) (yes m) = absurd (clash o p h k l)
    go (yes l) (no m) = absurd (clash o p h k l)
    go (no l) (yes m) = absurd (clash p o k h m)
    go (no l) (no m) = omega arith

-- A text of the form has none.
pub no_first_bad : (Form : List ℕ → Type 0) (t : List ℕ) (o : ℕ) → Form t → FirstBad Form t o → ⊥
no_first_bad Form t o f h =
    ⊎_elim
    (λ (l : o < length t). h.departs l (drop (suc o) t) (rw take-append-drop f))
    (λ (l : length t ≤ o). h.early (omega (arith, h.within)) f)
    (lt_or_le o (length t))

-- Two forms of the same texts have the same.
pub first_bad_same : (F G : List ℕ → Type 0) → ((t : List ℕ) → F t → G t) → ((t : List ℕ) → G t → F t)
    → (t : List ℕ) (o : ℕ) → FirstBad F t o → FirstBad G t o
first_bad_same F G to from t o h = record {
  within = h.within;
  before = (h.before.0, to _ h.before.1);
  departs = λ l rest g. h.departs l rest (from _ g);
  early = λ e g. h.early e (from t g);
}

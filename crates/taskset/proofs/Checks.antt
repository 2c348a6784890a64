-- Laws on the order of checks; that where a check passes its fault stands nowhere; and that every cause holds with at
-- most one second number.
-- Assumes nothing.
use Prim.Native.Nat.{ℕ}
use mathlib.Core.Path.{◌≡◌, refl, sym, ap, subst, ◌∙◌}
use mathlib.Core.Bool.{Bool, true, false, cond, not, ◌&&◌, true≢false}
use mathlib.Core.Option.{Option, none, some}
use mathlib.Core.List.{List, [], ◌∷◌, ◌++◌}
use mathlib.Core.Logic.{◌⊎◌, ◌↔◌, inl, inr, ⊎_elim}
use native.Mathlib.Omega.{arith}
use lib.Dec.{eqb}
use borrow.Author.Tests.{eq-eqb, not-true}
use Rattle.numbers.specs.Numbers.{Lowest}
use Rattle.numbers.proofs.Tests.{and-true}
use Rattle.numbers.proofs.Search.{lowest_unique, no_lowest}
use Rattle.layout.specs.Words.{rate_count, period_place, WordFault}
use Rattle.layout.specs.declared.Layout.{Layout}
use Rattle.taskset.specs.Refusals.{IsBadWord, RateFault, IsNotAbove, EnergyFault, IsBelowIdle, PassesLimit}
use Rattle.taskset.specs.Refusals.{IsTooLong, PlanFault, IsBadPlan, Check, Passes, Accepts, Refuses, ◌▹◌}

-- ---- lists of checks
pub accepts_join : (cs ds : List Check) → Accepts cs → Accepts ds → Accepts (cs ++ ds)
accepts_join [] ds a b = b
accepts_join (c ∷ cs) ds a b = (a.0, accepts_join cs ds a.1 b)

pub accepts_front : (cs ds : List Check) → Accepts (cs ++ ds) → Accepts cs
accepts_front [] ds a = tt
accepts_front (c ∷ cs) ds a = (a.0, accepts_front cs ds a.1)

pub accepts_back : (cs ds : List Check) → Accepts (cs ++ ds) → Accepts ds
accepts_back [] ds a = a
accepts_back (c ∷ cs) ds a = accepts_back cs ds a.1

pub refuses_front : (cs ds : List Check) (n k : ℕ) → Refuses cs n k → Refuses (cs ++ ds) n k
refuses_front [] ds n k r = absurd r
refuses_front (c ∷ cs) ds n k r = ⊎_elim (λ h. inl h) (λ h. inr (h.0, refuses_front cs ds n k h.1)) r

-- ds begins with the checks cs, whatever follows them: what these refuse, ds does.
pub data Front : List Check → List Check → Type 1 where
  nothing : {ds : List Check} → Front [] ds
  same : {c : Check} {cs ds : List Check} → Front cs ds → Front (c ∷ cs) (c ∷ ds)

pub refuses_early : (cs ds : List Check) → Front cs ds → (n k : ℕ) → Refuses cs n k → Refuses ds n k
refuses_early cs ds (nothing {ds = _}) n k r = absurd r
refuses_early _ _ (same {c = c} {cs = cs} {ds = ds} f) n k r = ⊎_elim (λ h. inl h) (λ h. inr (h.0, refuses_early cs ds f n k h.1)) r

pub refuses_back : (cs ds : List Check) (n k : ℕ) → Accepts cs → Refuses ds n k → Refuses (cs ++ ds) n k
refuses_back [] ds n k a r = r
refuses_back (c ∷ cs) ds n k a r = inr (a.0, refuses_back cs ds n k a.1 r)

-- Where the first checks pass, a refusal is one of the rest.
pub refuses_rest : (cs ds : List Check) (n k : ℕ) → Accepts cs → Refuses (cs ++ ds) n k → Refuses ds n k
refuses_rest [] ds n k a r = r
refuses_rest (c ∷ cs) ds n k a r = ⊎_elim (λ h. absurd (a.0 k h.1)) (λ h. refuses_rest cs ds n k a.1 h.1) r

-- ---- one check left out
module _ (c : Check) (ds : List Check) where
  pub accepts_leave : (cs : List Check) → Accepts (cs ++ (c ∷ ds)) → Accepts (cs ++ ds)
  accepts_leave [] a = a.1
  accepts_leave (d ∷ cs) a = (a.0, accepts_leave cs a.1)

  pub refuses_leave : (cs : List Check) (n k : ℕ) → ((n ≡ c.number) × c.cause k → ⊥)
      → Refuses (cs ++ (c ∷ ds)) n k → Refuses (cs ++ ds) n k
  refuses_leave [] n k not r = ⊎_elim (λ h. absurd (not h)) (λ h. h.1) r
  refuses_leave (d ∷ cs) n k not r = ⊎_elim (λ h. inl h) (λ h. inr (h.0, refuses_leave cs n k not h.1)) r

  -- And taken in, where it passes.
  pub accepts_take : (cs : List Check) → Passes c → Accepts (cs ++ ds) → Accepts (cs ++ (c ∷ ds))
  accepts_take [] p a = (p, a)
  accepts_take (d ∷ cs) p a = (a.0, accepts_take cs p a.1)

  pub refuses_take : (cs : List Check) (n k : ℕ) → Passes c → Refuses (cs ++ ds) n k → Refuses (cs ++ (c ∷ ds)) n k
  refuses_take [] n k p r = inr (p, r)
  refuses_take (d ∷ cs) n k p r = ⊎_elim (λ h. inl h) (λ h. inr (h.0, refuses_take cs n k p h.1)) r

-- ---- one more check
module _ (cs : List Check) (c : Check) where
  -- All pass, and so does the next.
  pub accepts_next : Accepts cs → Passes c → Accepts (cs ▹ c)
  accepts_next a p = accepts_join cs (c ∷ []) a (p, tt)

  -- All pass, and the next holds.
  pub refuses_next : (k : ℕ) → Accepts cs → c.cause k → Refuses (cs ▹ c) c.number k
  refuses_next k a h = refuses_back cs (c ∷ []) c.number k a (inl (refl, h))

  -- One of them holds before it.
  pub refuses_before : (n k : ℕ) → Refuses cs n k → Refuses (cs ▹ c) n k
  refuses_before n k r = refuses_front cs (c ∷ []) n k r

  pub accepts_but_last : Accepts (cs ▹ c) → Accepts cs
  accepts_but_last a = accepts_front cs (c ∷ []) a

  -- A refusal is one of these checks', or all of them pass and the next holds.
  pub refuses_cases : (n k : ℕ) → Refuses (cs ▹ c) n k → Refuses cs n k ⊎ (Accepts cs × (n ≡ c.number) × c.cause k)
  refuses_cases n k r = go cs r
    where
      go : (ds : List Check) → Refuses (ds ▹ c) n k → Refuses ds n k ⊎ (Accepts ds × (n ≡ c.number) × c.cause k)
      go [] r = ⊎_elim (λ h. inr (tt, h.0, h.1)) (λ h. absurd h.1) r
      go (d ∷ ds) r =
          ⊎_elim (λ h. inl (inl h)) (λ h. ⊎_elim (λ x. inl (inr (h.0, x))) (λ x. inr ((h.0, x.0), x.1, x.2)) (go ds h.1)) r

-- ---- a check by its number
-- The first check with the number n.
abbrev pub numbered : ℕ → List Check → Option Check
numbered n [] = none
numbered n (c ∷ cs) = cond (eqb n c.number) (some c) (numbered n cs)

-- Where all checks pass, the one numbered n does.
pub passed : (n : ℕ) (cs : List Check) {c : Check} → numbered n cs ≡ some c → Accepts cs → Passes c
passed n [] e a = absurd (none_some e)
  where
    none_some : {c : Check} → none ≡ some c → ⊥
    none_some e = let z : ◌≡◌ {A = ℕ} 0 1 = cc in omega arith
passed n (d ∷ ds) {c} e a = go (eqb n d.number) (λ h. passed n ds h a.1) e
  where
    go : (b : Bool) → (numbered n ds ≡ some c → Passes c) → cond b (some d) (numbered n ds) ≡ some c → Passes c
    go true later e = let same : d ≡ c = cc in subst Passes same a.0
    go false later e = later e

-- ---- the last check
-- A refusal whose number no check but the last has is the last's, after all others have passed.
abbrev pub Without : ℕ → List Check → Type 0
Without n [] = Unit {0}
Without n (c ∷ cs) = (n ≡ c.number → ⊥) × Without n cs

-- By computing: no number of the list is n.
abbrev pub lacks : ℕ → List Check → Bool
lacks n [] = true
lacks n (c ∷ cs) = not (eqb n c.number) && lacks n cs

pub without_by : (n : ℕ) (cs : List Check) → lacks n cs ≡ true → Without n cs
without_by n [] e = tt
without_by n (c ∷ cs) e =
    let b = and-true (not (eqb n c.number)) (lacks n cs) e in
    ((λ h. true≢false (sym (eq-eqb n c.number h) ∙ not-true _ b.0)), without_by n cs b.1)

pub without_next : (n : ℕ) (cs : List Check) (c : Check) → Without n cs → (n ≡ c.number → ⊥) → Without n (cs ▹ c)
without_next n [] c w h = (h, tt)
without_next n (d ∷ cs) c w h = (w.0, without_next n cs c w.1 h)

pub refuses_last : (cs : List Check) (c : Check) (n k : ℕ) → Without n cs → Refuses (cs ▹ c) n k → Accepts cs × c.cause k
refuses_last [] c n k w r = ⊎_elim (λ h. (tt, h.1)) (λ h. absurd h.1) r
refuses_last (d ∷ cs) c n k w r =
    ⊎_elim (λ h. absurd (w.0 h.0)) (λ h. let l = refuses_last cs c n k w.1 h.1 in ((h.0, l.0), l.1)) r

-- A call that accepts refuses nothing.
pub not-both : (cs : List Check) (n k : ℕ) → Accepts cs → Refuses cs n k → ⊥
not-both [] n k a r = r
not-both (c ∷ cs) n k a r = ⊎_elim (λ h. a.0 k h.1) (λ h. not-both cs n k a.1 h.1) r

-- ---- checks that agree
-- Two checks with one number, of which the one holds exactly when the other does, with the same second number.
abbrev pub Agree : Check → Check → Type 0
Agree c d = (c.number ≡ d.number) × ((k : ℕ) → c.cause k ↔ d.cause k)

-- Check by check, in their order.
infixr 4 ◌then◌
pub data AllAgree : List Check → List Check → Type 1 where
  no_more : AllAgree [] []
  ◌then◌ : {c d : Check} {cs ds : List Check} → Agree c d → AllAgree cs ds → AllAgree (c ∷ cs) (d ∷ ds)

agree_passes : (c d : Check) → Agree c d → Passes c → Passes d
agree_passes c d a p k h = p k ((a.1 k).1 h)

pub agree_accepts : {cs ds : List Check} → AllAgree cs ds → Accepts cs → Accepts ds
agree_accepts no_more x = tt
agree_accepts (a then more) x = (agree_passes _ _ a x.0, agree_accepts more x.1)

pub agree_refuses : {cs ds : List Check} → AllAgree cs ds → (n k : ℕ) → Refuses cs n k → Refuses ds n k
agree_refuses no_more n k r = absurd r
agree_refuses (a then more) n k r =
    ⊎_elim (λ h. inl (h.0 ∙ a.0, (a.1 k).0 h.1)) (λ h. inr (agree_passes _ _ a h.0, agree_refuses more n k h.1)) r

-- The second number of a cause is one number.
abbrev pub Single : Check → Type 0
Single c = (j k : ℕ) → c.cause j → c.cause k → j ≡ k

abbrev pub AllSingle : List Check → Type 0
AllSingle [] = Unit {0}
AllSingle (c ∷ cs) = Single c × AllSingle cs

pub refuses_unique : (cs : List Check) → AllSingle cs → (m j n k : ℕ) → Refuses cs m j → Refuses cs n k → (m ≡ n) × (j ≡ k)
refuses_unique [] a m j n k p q = absurd p
refuses_unique (c ∷ cs) a m j n k p q =
    ⊎_elim
    (λ x. ⊎_elim (λ y. (x.0 ∙ sym y.0, a.0 j k x.1 y.1)) (λ y. absurd (y.0 j x.1)) q)
    (λ x. ⊎_elim (λ y. absurd (x.0 k y.1)) (λ y. refuses_unique cs a.1 m j n k x.1 y.1) q)
    p

pub single_join : (cs ds : List Check) → AllSingle cs → AllSingle ds → AllSingle (cs ++ ds)
single_join [] ds a b = b
single_join (c ∷ cs) ds a b = (a.0, single_join cs ds a.1 b)

-- ---- the causes
pub lowest_single : {P : ℕ → Type 0} (j k : ℕ) → Lowest P j → Lowest P k → j ≡ k
lowest_single j k a b = lowest_unique a b

module _ (layout : Layout) (s : List ℕ) where
  pub too_long_single : (j k : ℕ) → IsTooLong layout s j → IsTooLong layout s k → j ≡ k
  too_long_single j k a b = a.2 ∙ ap (period_place layout (rate_count layout s)) (lowest_unique a.1 b.1) ∙ sym b.2

  -- Where a check passes, its fault stands nowhere.
  pub no_word_fault : ((q : ℕ) → IsBadWord layout s q → ⊥) → (q : ℕ) → WordFault layout s q → ⊥
  no_word_fault = no_lowest (WordFault layout s)

  pub no_rate_fault : ((q : ℕ) → IsNotAbove layout s q → ⊥) → (q : ℕ) → RateFault layout s q → ⊥
  no_rate_fault = no_lowest (RateFault layout s)

  pub no_energy_fault : ((q : ℕ) → IsBelowIdle layout s q → ⊥) → (q : ℕ) → EnergyFault layout s q → ⊥
  no_energy_fault = no_lowest (EnergyFault layout s)

  pub none_passes : ((q : ℕ) → IsTooLong layout s q → ⊥) → (t : ℕ) → PassesLimit layout s t → ⊥
  none_passes h = no_lowest (PassesLimit layout s) (λ t l. h (period_place layout (rate_count layout s) t) (t, l, refl))

pub no_plan_fault : (m n : ℕ) (P : List ℕ) → ((k : ℕ) → IsBadPlan m n P k → ⊥) → (k : ℕ) → PlanFault m n P k → ⊥
no_plan_fault m n P = no_lowest (PlanFault m n P)

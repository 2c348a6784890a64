-- From the walk's answer to what its C entry gives.
-- Assumes nothing.
use Rattle.std.specs.Prelude.{Ok, Err}
use Prim.Native.Nat.{ℕ, ◌≤◌, ◌<◌}
use mathlib.Core.Path.{◌≡◌, refl, sym, ap, ◌∙◌, subst}
use mathlib.Core.List.{List, [], ◌∷◌, ◌++◌}
use mathlib.Core.Logic.{inl, inr}
use native.Mathlib.Omega.{arith}
use lib.ListN.{length, drop}
use Rattle.layout.specs.declared.Layout.TheVariants.{Ordinary}
use Rattle.taskset.specs.Refusals.{number, second, Accepts, Refuses, room_check, walk_checks}
use Rattle.taskset.specs.Calls.{code, SetAfter}
use Rattle.taskset.specs.declared.Refusal.{Refusal}
use Rattle.taskset.specs.declared.Refusal.TheVariants.{TooShort}
use Rattle.taskset.proofs.Checks.{accepts_next, refuses_next, refuses_before}
use Rattle.taskset.proofs.Unique.{number_range}
use Rattle.taskset.proofs.Released.{last_fits}
use Rattle.taskset.proofs.Small.{walk-second_small}
use Rattle.entries.specs.Put.{Answers, EnoughAfter}
use Rattle.taskset.proofs.DemandThree.{walk-set}
use Rattle.walk.specs.Answers.{Walked}
use Rattle.entries.specs.Entry.{result_bytes, result_at, result_size, walk_entry_checks, WalkEntry}
use Rattle.entries.proofs.Bytes.{result_value}
use Rattle.taskset.specs.declared.WalkEnd.TheVariants.{Kept, Missed}

-- No refusal is returned as 0.
pub code_positive : (r : Refusal) → code r ≡ 0 → ⊥
code_positive r e = omega (arith, (number_range r).0)

module _ (s P d : List ℕ) where
  refused : (r : Refusal) (x : ℕ) → x ≡ code r → Refuses (walk_entry_checks s P (length d)) (number r) (second r) → WalkEntry s P d d x
  refused r x e h = record {
    gives = inr (r, h, e, tt, refl);
    kept = λ z. absurd (code_positive r (sym e ∙ z));
    missed = λ z. absurd (code_positive r (sym e ∙ z));
    keeps_kept = λ z. absurd (code_positive r (sym e ∙ z));
    kept_iff_keeps = λ z. absurd (code_positive r (sym e ∙ z));
  }

  -- A refusal of the walk's checks is the entry's.
  pub ready_refused : (r : Refusal) (x : ℕ) → x ≡ code r → SetAfter (walk_checks s P) Ordinary s (Err r) → WalkEntry s P d d x
  ready_refused r x e h =
      refused r x e (refuses_before (walk_checks s P) (room_check result_size (length d)) (number r) (second r) h)

  -- Too few result bytes, where the walk has an answer.
  pub results_short : (x : ℕ) → x ≡ code (TooShort 32) → Accepts (walk_checks s P) → length d < 32 → WalkEntry s P d d x
  results_short x e a l =
      refused (TooShort result_size) x e (refuses_next (walk_checks s P) (room_check result_size (length d)) result_size a (l, refl))

  module _ (enough : 32 ≤ length d) (d' : List ℕ) where
    accepts : Accepts (walk_checks s P) → Accepts (walk_entry_checks s P (length d))
    accepts a = accepts_next (walk_checks s P) (room_check result_size (length d)) a (λ k h. omega (arith, h.0))

    pub entry_kept : (b i p : ℕ) → Walked s P (Ok (Kept b i p)) → d' ≡ result_bytes (1 ∷ b ∷ i ∷ p ∷ []) ++ drop 32 d → WalkEntry s P d d' 0
    entry_kept b i p w e =
        let set = walk-set s P w.answers.0 in
        let few = last_fits Ordinary s set in
        let one : result_at d' 0 ≡ 1 = ap (λ (x : List ℕ). result_at x 0) e ∙ result_value (1 ∷ b ∷ i ∷ p ∷ []) (drop 32 d) 0 (omega arith) (omega arith) in
        let busy : result_at d' 1 ≡ b
        = ap (λ (x : List ℕ). result_at x 1) e ∙
        result_value (1 ∷ b ∷ i ∷ p ∷ []) (drop 32 d) 1 (omega arith) (omega (arith, w.owes.counted)) in
        let idle : result_at d' 2 ≡ i
        = ap (λ (x : List ℕ). result_at x 2) e ∙
        result_value (1 ∷ b ∷ i ∷ p ∷ []) (drop 32 d) 2 (omega arith) (omega (arith, w.owes.counted)) in
        record {
          gives = inl (Ok (Kept b i p), accepts w.answers.0, w.answers, refl, e);
          kept = λ z h. rw (busy, idle) w.owes;
          missed = λ z h. absurd (omega arith);
          keeps_kept = λ z k. one;
          kept_iff_keeps = λ z zero. ((λ h. (w.owes.together zero).0), (λ k. one));
        }

    pub entry_missed : (t k : ℕ) → Walked s P (Ok (Missed t k)) → d' ≡ result_bytes (0 ∷ t ∷ k ∷ 0 ∷ []) ++ drop 32 d → WalkEntry s P d d' 0
    entry_missed t k w e =
        let none : result_at d' 0 ≡ 0 = ap (λ (x : List ℕ). result_at x 0) e ∙ result_value (0 ∷ t ∷ k ∷ 0 ∷ []) (drop 32 d) 0 (omega arith) (omega arith) in
        record {
          gives = inl (Ok (Missed t k), accepts w.answers.0, w.answers, refl, e);
          kept = λ z h. absurd (omega arith);
          missed = λ z h. w.owes;
          keeps_kept = λ z k. absurd (w.owes.from_these k);
          kept_iff_keeps = λ z zero. ((λ h. absurd (omega arith)), (λ q. absurd (w.owes.from_0 q.for_ever)));
        }

-- Before it is left in so many bytes: a refusal of the checks, one of the bytes, and the walk's answer.
module _ (s P : List ℕ) (size : ℕ) where
  pub checks_refused : (r : Refusal) → SetAfter (walk_checks s P) Ordinary s (Err r) → Answers (WalkEntry s P) size (Err r)
  checks_refused r h = record {
    fits = walk-second_small s P (number r) (second r) h;
    gives = λ d d' x is left. subst (λ (z : List ℕ). WalkEntry s P d z x) (sym left.1) (ready_refused s P d r x left.0 h);
  }

  pub bytes_refused : (r : Refusal) → Accepts (walk_checks s P) → EnoughAfter size (Err r) → Answers (WalkEntry s P) size (Err r)
  bytes_refused r a h = record {
    fits = let k : second r ≡ 32 = ap second h.0 in omega arith;
    gives = λ d d' x is left.
        subst (λ (z : List ℕ). WalkEntry s P d z x) (sym left.1)
        (results_short s P d x (left.0 ∙ ap code h.0) a (omega (arith, h.1)));
  }

  pub kept_answered : (b i p : ℕ) → Walked s P (Ok (Kept b i p)) → 32 ≤ size → Answers (WalkEntry s P) size (Ok (1, b, i, p))
  kept_answered b i p w enough = record {
    fits = enough;
    gives = λ d d' x is left. rw left.0 (entry_kept s P d (omega arith) d' b i p w left.1);
  }

  pub missed_answered : (t k : ℕ) → Walked s P (Ok (Missed t k)) → 32 ≤ size → Answers (WalkEntry s P) size (Ok (0, t, k, 0))
  missed_answered t k w enough = record {
    fits = enough;
    gives = λ d d' x is left. rw left.0 (entry_missed s P d (omega arith) d' t k w left.1);
  }

-- From the generator's checks and words to what its C entry gives.
-- Assumes nothing.
use Rattle.std.specs.Prelude.{Ok, Err}
use Prim.Native.Nat.{ℕ, ◌^◌, ◌≤◌, ◌<◌}
use mathlib.Core.Path.{◌≡◌, refl, sym, ap, ◌∙◌, subst}
use mathlib.Core.List.{List, [], ◌∷◌, ◌++◌}
use mathlib.Core.Logic.{inl, inr}
use native.Mathlib.Omega.{arith}
use lib.ListN.{length, take, drop}
use Rattle.taskset.specs.Refusals.{number, second, Refuses, room_check}
use Rattle.taskset.specs.Calls.{code}
use Rattle.taskset.specs.declared.Refusal.{Refusal}
use Rattle.taskset.specs.declared.Refusal.TheVariants.{TooShort}
use Rattle.taskset.proofs.Checks.{accepts_next, refuses_next, refuses_before}
use Rattle.taskset.proofs.Copied.{front_is}
use Rattle.lists.specs.Writing.{placed}
use Rattle.draws.specs.Generated.{generated}
use Rattle.draws.specs.Calls.{generator_checks, PassesChecks}
use Rattle.generator.specs.Steps.{RoomAfter}
use Rattle.generator.proofs.Answers.{second_small, wrote}
use Rattle.entries.specs.Entry.{result_bytes, result_at, result_size, generate_entry_checks, GenerateEntry}
use Rattle.entries.proofs.Bytes.{result_value}
use Rattle.entries.specs.Put.{Answers, EnoughAfter}
use Rattle.entries.proofs.Entries.{code_positive}

module _ (seed n : ℕ) (s d : List ℕ) where
  refused : (r : Refusal) (x : ℕ) → x ≡ code r → Refuses (generate_entry_checks seed n (length s) (length d)) (number r) (second r)
      → GenerateEntry seed n s d s d x
  refused r x e h = record {
    gives = inr (r, h, e, refl, refl);
    words_are = λ z. absurd (code_positive r (sym e ∙ z));
    owes = λ z. absurd (code_positive r (sym e ∙ z));
  }

  -- A refusal of the generator's checks is the entry's, and its second number is small.
  pub room_refused : (r : Refusal) (x : ℕ) → x ≡ code r → RoomAfter n (length s) (Err r) → GenerateEntry seed n s d s d x
  room_refused r x e h =
      refused r x e (refuses_before (generator_checks seed n (length s)) (room_check result_size (length d)) (number r) (second r) (h seed))

  pub room_small : (r : Refusal) → RoomAfter n (length s) (Err r) → second r < 2 ^ 32
  room_small r h = second_small seed n (length s) (number r) (second r) (h seed)

  module _ (k : ℕ) (room : RoomAfter n (length s) (Ok k)) where
    -- Too few result bytes.
    pub results_few : (x : ℕ) → x ≡ code (TooShort 32) → length d < 32 → GenerateEntry seed n s d s d x
    results_few x e l =
        refused (TooShort result_size) x e
        (refuses_next (generator_checks seed n (length s)) (room_check result_size (length d)) result_size (room seed).0 (l, refl))

    -- The words and the values.
    pub entry-generated : (s' d' : List ℕ) → 32 ≤ length d → k < 2 ^ 64 → s' ≡ placed (generated seed n) s
        → d' ≡ result_bytes (k ∷ 0 ∷ 0 ∷ 0 ∷ []) ++ drop 32 d → GenerateEntry seed n s d s' d' 0
    entry-generated s' d' enough small words results =
        let call = wrote seed n s k room s' words in
        let first : result_at d' 0 ≡ k =
        ap (λ (x : List ℕ). result_at x 0) results ∙ result_value (k ∷ 0 ∷ 0 ∷ 0 ∷ []) (drop 32 d) 0 (omega arith) small in
        let front : take (result_at d' 0) s' ≡ take k s' = ap (λ (j : ℕ). take j s') first in
        record {
          gives = inl (
            Ok k,
            accepts_next (generator_checks seed n (length s)) (room_check result_size (length d)) (room seed).0 (λ j h. omega (arith, h.0)),
            call.gives,
            refl,
            results,
          );
          words_are = λ _. front ∙ front_is (generated seed n) s s' k call.gives.1;
          owes = λ _. subst PassesChecks (sym front) call.owes;
        }

-- Before it is left in so many bytes: a refusal of the checks, one of the bytes, and the words that were written.
module _ (seed n : ℕ) (s : List ℕ) (size : ℕ) where
  abbrev Entry : (s' d d' : List ℕ) → ℕ → Type 0
  Entry s' d = GenerateEntry seed n s d s'

  pub checks_refused : (r : Refusal) → RoomAfter n (length s) (Err r) → Answers (Entry s) size (Err r)
  checks_refused r h = record {
    fits = room_small seed n s [] r h;
    gives = λ d d' x is left. subst (λ (z : List ℕ). Entry s d z x) (sym left.1) (room_refused seed n s d r x left.0 h);
  }

  module _ (k : ℕ) (room : RoomAfter n (length s) (Ok k)) where
    pub bytes_refused : (r : Refusal) → EnoughAfter size (Err r) → Answers (Entry s) size (Err r)
    bytes_refused r h = record {
      fits = let k : second r ≡ 32 = ap second h.0 in omega arith;
      gives = λ d d' x is left.
          subst (λ (z : List ℕ). Entry s d z x) (sym left.1)
          (results_few seed n s d k room x (left.0 ∙ ap code h.0) (omega (arith, h.1)));
    }

    pub words_answered : (s' : List ℕ) → 32 ≤ size → k < 2 ^ 64 → s' ≡ placed (generated seed n) s
        → Answers (Entry s') size (Ok (k, 0, 0, 0))
    words_answered s' enough small words = record {
      fits = enough;
      gives = λ d d' x is left. rw left.0 (entry-generated seed n s d k room s' d' (omega arith) small words left.1);
    }
